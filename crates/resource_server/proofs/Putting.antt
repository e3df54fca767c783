-- What a request comes to, put together.
use Rattle.std.proofs.Common.{◌≡◌, ◌∙◌, ◌⊎◌, inl, inr, ℕ, List, [], ◌∷◌, refl, sym, ap, subst, append-nil}
use Rattle.std.specs.Prelude.{Option, Some, None, Result, Ok, Err, slice_get}
use Rattle.bytes_and_lists.specs.declared.message.Message.{Message}
use Rattle.gnap_model.specs.declared.rights.Right.{Right}
use Rattle.outside.specs.Links.{LinkState, Exchanges}
use Rattle.outside.specs.declared.link.LinkFault.{LinkFault}
use Rattle.outside.specs.declared.link.LinkFault.TheVariants as link_faults
use Rattle.reply_readers.specs.declared.judgement.Judgement.{Judgement}
use Rattle.signed_requests.specs.declared.unsigned.Scheme.{Scheme}
use Rattle.resource_server.specs.declared.setup.Route.{Route}
use Rattle.resource_server.specs.declared.setup.RsSetup.{RsSetup}
use Rattle.resource_server.specs.declared.guarded.Guarded.{Guarded}
use Rattle.resource_server.specs.declared.guarded.Guarded.TheVariants as guarded
use Rattle.resource_server.specs.declared.guarded.Why.TheVariants as why
use Rattle.resource_server.specs.Routing.{question_of}
use Rattle.resource_server.specs.Introspecting.{introspection_text, introspection_bytes, IsAsked}
use Rattle.resource_server.specs.Guarding.{SaysOfToken, SaysNothing, answer_of, Judged, said, said_nothing, no_room_after, exchanges_of, AddsExchanges, Guards, at_once, starved, asked, GuardsOver}

-- nothing was asked
pub none_asked : (link : LinkState) → AddsExchanges [] link link
none_asked link = record { adds = sym (append-nil link.asked); counts = refl }

pub refused_now : (setup : RsSetup) (m : Message) (now : ℕ) (link : LinkState) (answer : Guarded)
    → question_of setup.routes m ≡ Err answer → GuardsOver (Guards setup m now) link link answer
refused_now setup m now link answer e = record { exchanges = []; guarded = at_once answer e; over = none_asked link }

pub starved_now : (setup : RsSetup) (m : Message) (now : ℕ) (link : LinkState) → GuardsOver (Guards setup m now) link link guarded.Memory
starved_now setup m now link = record { exchanges = []; guarded = starved; over = none_asked link }

pub exchanged : (request : List ℕ) (before after : LinkState) (reply : Result (List ℕ) LinkFault) → Exchanges request before after reply
    → AddsExchanges (exchanges_of request reply) before after
exchanged request before after (Ok reply) is = record {
  adds = ap (λ (l : LinkState). l.asked) is;
  counts = (before.faults, refl, ap (λ (l : LinkState). l.faults) is);
}
exchanged request before after (Err link_faults.Failed) is = record {
  adds = ap (λ (l : LinkState). l.asked) is.0;
  counts = (after.faults, is.1, refl);
}
exchanged request before after (Err link_faults.OutOfMemory) is = record {
  adds = ap (λ (l : LinkState). l.asked) is ∙ sym (append-nil before.asked);
  counts = ap (λ (l : LinkState). l.faults) is;
}

-- the token was introspected for the right of the route at a place
pub asked_now : (setup : RsSetup) (m : Message) (now i : ℕ) (token : Scheme × List ℕ) (route : Route) (wanted : List Right) (text : List ℕ)
    (before after : LinkState) (reply : Result (List ℕ) LinkFault) (answer : Guarded)
    → question_of setup.routes m ≡ Ok (i, token) → slice_get setup.routes i ≡ Some route → wanted ≡ route.right ∷ []
    → text ≡ introspection_text setup.id wanted token → IsAsked setup now text before after reply → Judged setup m now i wanted reply answer
    → GuardsOver (Guards setup m now) before after answer
asked_now setup m now i token route wanted text before after reply answer question place want is done judged = record {
  exchanges = exchanges_of done.request reply;
  guarded = asked i token question route place done.request
      (subst (λ (t : List ℕ). introspection_bytes setup now t ≡ Some done.request)
      (is ∙ ap (λ (w : List Right). introspection_text setup.id w token) want) done.signed)
      reply answer (subst (λ (w : List Right). Judged setup m now i w reply answer) want judged);
  over = exchanged done.request before after reply done.exchanged;
}

-- ---- a reply

pub judged_by : (setup : RsSetup) (m : Message) (now i : ℕ) (wanted : List Right) (reply : List ℕ) (says : Judgement) (answer : Guarded)
    → SaysOfToken reply says → answer ≡ answer_of setup m now i wanted says → Judged setup m now i wanted (Ok reply) answer
judged_by setup m now i wanted reply says answer s e = rw e (said reply says s)

pub judged_bad : (setup : RsSetup) (m : Message) (now i : ℕ) (wanted : List Right) (reply : List ℕ) (answer : Guarded) → SaysNothing reply
    → (answer ≡ guarded.Deny 502 (why.BadReply reply)) ⊎ (answer ≡ guarded.Memory) → Judged setup m now i wanted (Ok reply) answer
judged_bad setup m now i wanted reply answer s (inl e) = rw e (said_nothing reply s)
judged_bad setup m now i wanted reply answer s (inr e) = rw e (no_room_after reply)

pub judged_starved : (setup : RsSetup) (m : Message) (now i : ℕ) (wanted : List Right) (reply : List ℕ) → Judged setup m now i wanted (Ok reply) guarded.Memory
judged_starved setup m now i wanted reply = no_room_after reply
