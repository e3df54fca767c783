-- What a request comes to with a cache, put together.
use Rattle.std.proofs.Common.{◌≡◌, ◌≢◌, ◌∙◌, ℕ, List, [], ◌∷◌, sym, ap, subst}
use Rattle.std.specs.Prelude.{Some, None, Result, Ok, Err, slice_get}
use Rattle.std.specs.Str.{bytes_eq}
use Rattle.std.specs.Global.{Vec}
use Rattle.lru.specs.LruCache.{promoted}
use Rattle.bytes_and_lists.specs.declared.message.Message.{Message}
use Rattle.outside.specs.Links.{Exchange, LinkState}
use Rattle.outside.specs.Outside.{Rose}
use Rattle.outside.specs.declared.link.LinkFault.{LinkFault}
use Rattle.outside.specs.declared.link.LinkFault.TheVariants as link_faults
use Rattle.gnap_model.specs.declared.rights.Right.{Right}
use Rattle.reply_readers.specs.declared.judgement.Judgement.TheVariants.{Active}
use Rattle.signed_requests.specs.declared.unsigned.Scheme.{Scheme}
use Rattle.resource_server.specs.declared.setup.Route.{Route}
use Rattle.resource_server.specs.declared.setup.RsSetup.{RsSetup}
use Rattle.resource_server.specs.declared.guarded.Guarded.{Guarded}
use Rattle.resource_server.specs.declared.guarded.Guarded.TheVariants as guarded
use Rattle.resource_server.specs.Routing.{question_of}
use Rattle.resource_server.specs.Introspecting.{introspection_text, question_text}
use Rattle.resource_server.specs.Guarding.{SaysOfToken, exchanges_of, Judged, asked, GuardsOver, AddsExchanges}
use Rattle.resource_server.specs.Guarding.{starved as starved_guard}
use Rattle.resource_server.specs.Laws.{Presents}
use Rattle.resource_server.proofs.Putting.{none_asked, exchanged}
use Rattle.resource_server.proofs.Allowing.{IsRefusal, refusal, judged_fault, fault_rose}
use Rattle.introspection_cache.specs.declared.kept_reply.KeptReply.{KeptReply}
use Rattle.introspection_cache.specs.Caching.{Kept, Cache, fresh_to, to_others, with_reply, Keeps, allowed, not_allowed, Caches, at_once, starved, again, anew}
use Rattle.introspection_cache.specs.Seen.{kept_in, cache_of}
use Rattle.introspection_cache.specs.Steps.{KeepsJudged, through_by_it, not_through, KeepsAnswered, AnswersAnew, asked_anew, starved_before}

abbrev cache : ℕ → Kept → Cache
cache capacity kept = record { capacity = capacity; kept = kept }

pub refused_now : (setup : RsSetup) (m : Message) (now : ℕ) (before : Cache) (link : LinkState) (answer : Guarded)
    → question_of setup.routes m ≡ Err answer → GuardsOver (λ exchanges given. Caches setup m now before exchanges given before) link link answer
refused_now setup m now before link answer e = record { exchanges = []; guarded = at_once answer e; over = none_asked link }

pub starved_now : (setup : RsSetup) (m : Message) (now : ℕ) (before : Cache) (link : LinkState)
    → GuardsOver (λ exchanges given. Caches setup m now before exchanges given before) link link guarded.Memory
starved_now setup m now before link = record { exchanges = []; guarded = starved; over = none_asked link }

-- the question of a route's right
same_text : (setup : RsSetup) (token : Scheme × List ℕ) (route : Route) (wanted : List Right) (text : List ℕ) → wanted ≡ route.right ∷ []
    → text ≡ introspection_text setup.id wanted token → text ≡ question_text setup route token
same_text setup token route wanted text want is = is ∙ ap (λ (w : List Right). introspection_text setup.id w token) want

-- a fresh reply was judged
pub again_now : (setup : RsSetup) (m : Message) (now i : ℕ) (token : Scheme × List ℕ) (route : Route) (wanted : List Right) (text : List ℕ)
    (capacity capacity_now : ℕ) (kept kept_now : Kept) (link : LinkState) (answer : Guarded)
    → question_of setup.routes m ≡ Ok (i, token) → slice_get setup.routes i ≡ Some route → wanted ≡ route.right ∷ []
    → text ≡ introspection_text setup.id wanted token → capacity_now ≡ capacity
    → (r : KeptReply) × (fresh_to text now kept ≡ Some r) × Judged setup m now i wanted (Ok r.reply) answer × (kept_now ≡ promoted (bytes_eq text) kept)
    → GuardsOver (λ exchanges given. Caches setup m now (cache capacity kept) exchanges given (cache capacity_now kept_now)) link link answer
again_now setup m now i token route wanted text capacity capacity_now kept kept_now link answer question place want is same (r, fresh, judged, first) =
    let asks : text ≡ question_text setup route token = same_text setup token route wanted text want is in
    let after : cache capacity (promoted (bytes_eq (question_text setup route token)) kept) ≡ cache capacity_now kept_now =
    ap (λ (t : List ℕ). cache capacity (promoted (bytes_eq t) kept)) (sym asks) ∙ ap (cache capacity) (sym first)
    ∙ ap (λ (c : ℕ). cache c kept_now) (sym same) in
    record {
      exchanges = [];
      guarded = subst (Caches setup m now (cache capacity kept) [] answer) after
          (again i route token (record { question = question; route_is = place }) r
          (subst (λ (t : List ℕ). fresh_to t now kept ≡ Some r) asks fresh) answer
          (subst (λ (w : List Right). Judged setup m now i w (Ok r.reply) answer) want judged));
      over = none_asked link;
    }

-- ---- a question that was asked anew

keeps_reply : (capacity : ℕ) (text : List ℕ) (now : ℕ) (others : Kept) (request reply : List ℕ) (answer : Guarded) (kept : Kept)
    → KeepsJudged capacity text now reply others answer kept → Keeps capacity text now others ((request, Some reply) ∷ []) answer kept
keeps_reply capacity text now others request reply _ _ (through_by_it i r same moment access key says) =
    subst (λ (given : List ℕ). Keeps capacity text now others ((request, Some given) ∷ []) (guarded.Allow i) (with_reply capacity text r others)) same
    (allowed i request r moment access key (subst (λ (given : List ℕ). SaysOfToken given (Active access key r.exp)) (sym same) says))
keeps_reply capacity text now others request reply _ _ (not_through answer never) = not_allowed ((request, Some reply) ∷ []) answer never

keeps_answered : (capacity : ℕ) (text : List ℕ) (now : ℕ) (others : Kept) (request : List ℕ) (reply : Result (List ℕ) LinkFault) (answer : Guarded)
    (kept : Kept)
    → KeepsAnswered capacity text now reply others answer kept → Keeps capacity text now others (exchanges_of request reply) answer kept
keeps_answered capacity text now others request (Ok reply) answer kept k = keeps_reply capacity text now others request reply answer kept k
keeps_answered capacity text now others request (Err fault) answer kept (never, same) =
    subst (Keeps capacity text now others (exchanges_of request (Err fault)) answer) (sym same) (not_allowed (exchanges_of request (Err fault)) answer never)

never_memory : (i : ℕ) → guarded.Memory ≢ guarded.Allow i
never_memory i e = cc

by_asking : (setup : RsSetup) (m : Message) (now i : ℕ) (token : Scheme × List ℕ) (route : Route) (capacity : ℕ) (kept kept_now : Kept)
    (before after : LinkState) (answer : Guarded) → Presents setup m i route token → fresh_to (question_text setup route token) now kept ≡ None
    → AnswersAnew setup m now i (route.right ∷ []) (question_text setup route token) capacity before after
    (to_others (question_text setup route token) kept) answer kept_now
    → GuardsOver (λ exchanges given. Caches setup m now (cache capacity kept) exchanges given (cache capacity kept_now)) before after answer
by_asking setup m now i token route capacity kept _ before after _ presents none (asked_anew reply is answer judged kept_now keeps) = record {
  exchanges = exchanges_of is.request reply;
  guarded = anew i route token presents none (exchanges_of is.request reply) answer
      (asked i token presents.question route presents.route_is is.request is.signed reply answer judged) kept_now
      (keeps_answered capacity (question_text setup route token) now (to_others (question_text setup route token) kept) is.request reply answer kept_now keeps);
  over = exchanged is.request before after reply is.exchanged;
}
by_asking setup m now i token route capacity kept _ before after _ presents none (starved_before same) = record {
  exchanges = [];
  guarded = anew i route token presents none [] guarded.Memory starved_guard (to_others (question_text setup route token) kept)
      (not_allowed [] guarded.Memory never_memory);
  over = subst (AddsExchanges [] before) (sym same) (none_asked before);
}

pub anew_now : (setup : RsSetup) (m : Message) (now i : ℕ) (token : Scheme × List ℕ) (route : Route) (wanted : List Right) (text : List ℕ)
    (capacity capacity_now : ℕ) (kept others kept_now : Kept) (before after : LinkState) (answer : Guarded)
    → question_of setup.routes m ≡ Ok (i, token) → slice_get setup.routes i ≡ Some route → wanted ≡ route.right ∷ []
    → text ≡ introspection_text setup.id wanted token → capacity_now ≡ capacity → fresh_to text now kept ≡ None → others ≡ to_others text kept
    → AnswersAnew setup m now i wanted text capacity before after others answer kept_now
    → GuardsOver (λ exchanges given. Caches setup m now (cache capacity kept) exchanges given (cache capacity_now kept_now)) before after answer
anew_now setup m now i token route wanted text capacity capacity_now kept others kept_now before after answer question place want is same none rest answers =
    let asks : text ≡ question_text setup route token = same_text setup token route wanted text want is in
    let by_right : AnswersAnew setup m now i (route.right ∷ []) text capacity before after others answer kept_now =
    subst (λ (w : List Right). AnswersAnew setup m now i w text capacity before after others answer kept_now) want answers in
    let by_others : AnswersAnew setup m now i (route.right ∷ []) text capacity before after (to_others text kept) answer kept_now =
    subst (λ (o : Kept). AnswersAnew setup m now i (route.right ∷ []) text capacity before after o answer kept_now) rest by_right in
    let by_text =
    subst (λ (t : List ℕ). AnswersAnew setup m now i (route.right ∷ []) t capacity before after (to_others t kept) answer kept_now) asks by_others in
    subst (λ (c : ℕ). GuardsOver (λ exchanges given. Caches setup m now (cache capacity kept) exchanges given (cache c kept_now)) before after answer)
    (sym same)
    (by_asking setup m now i token route capacity kept kept_now before after answer (record { question = question; route_is = place })
    (subst (λ (t : List ℕ). fresh_to t now kept ≡ None) asks none) by_text)

-- the same, of the entries of an `lru` cache from step to step
pub anew_step : (setup : RsSetup) (m : Message) (now i : ℕ) (token : Scheme × List ℕ) (route : Route) (wanted : List Right) (text looked taken : List ℕ)
    (cap cap_looked cap_taken cap_now : ℕ) (es es_looked es_taken es_now : List (Vec ℕ × KeptReply)) (before after : LinkState) (answer : Guarded)
    → question_of setup.routes m ≡ Ok (i, token) → slice_get setup.routes i ≡ Some route → wanted ≡ route.right ∷ []
    → text ≡ introspection_text setup.id wanted token → looked ≡ text → taken ≡ text
    → cap_looked ≡ cap → cap_taken ≡ cap_looked → cap_now ≡ cap_taken
    → (fresh_to looked now (kept_in es) ≡ None) × (es_looked ≡ es) → kept_in es_taken ≡ to_others taken (kept_in es_looked)
    → AnswersAnew setup m now i wanted text cap_taken before after (kept_in es_taken) answer (kept_in es_now)
    → GuardsOver (λ exchanges given. Caches setup m now (cache_of es cap) exchanges given (cache_of es_now cap_now)) before after answer
anew_step setup m now i token route wanted text looked taken cap cap_looked cap_taken cap_now es es_looked es_taken es_now before after answer
    question place want is looks takes one two three (none, same) rest answers =
    anew_now setup m now i token route wanted text cap cap_now (kept_in es) (kept_in es_taken) (kept_in es_now) before after answer question place want is
    (three ∙ two ∙ one) (subst (λ (t : List ℕ). fresh_to t now (kept_in es) ≡ None) looks none)
    (rest ∙ ap (λ (t : List ℕ). to_others t (kept_in es_looked)) takes ∙ ap (λ (x : List (Vec ℕ × KeptReply)). to_others text (kept_in x)) same)
    (subst (λ (c : ℕ). AnswersAnew setup m now i wanted text c before after (kept_in es_taken) answer (kept_in es_now)) (two ∙ one) answers)

-- ---- the link's fault

fault_by : (setup : RsSetup) (m : Message) (now : ℕ) (cached after : Cache) (exchanges : List Exchange) (answer : Guarded) (before link : LinkState)
    → Caches setup m now cached exchanges answer after → AddsExchanges exchanges before link → answer ≡ guarded.LinkFault → Rose before.faults link.faults
fault_by setup m now cached _ _ _ before link (at_once answer e) over is = absurd (subst IsRefusal is (refusal setup.routes m answer e))
fault_by setup m now cached _ _ _ before link starved over is = absurd (cc)
fault_by setup m now cached _ _ _ before link (again i route token presents r fresh answer judged) over is =
    let wrong : ◌≡◌ {A = Result (List ℕ) LinkFault} (Ok r.reply) (Err link_faults.Failed) = judged_fault setup m now i (route.right ∷ [])
    (Ok r.reply) answer judged is in
    absurd (cc)
fault_by setup m now cached _ _ _ before link (anew i route token presents none exchanges answer guards kept keeps) over is =
    fault_rose setup m now before link answer (record { exchanges = exchanges; guarded = guards; over = over }) is

pub cached_fault_rose : (setup : RsSetup) (m : Message) (now : ℕ) (cached after : Cache) (before link : LinkState) (answer : Guarded)
    → GuardsOver (λ exchanges given. Caches setup m now cached exchanges given after) before link answer → answer ≡ guarded.LinkFault
    → Rose before.faults link.faults
cached_fault_rose setup m now cached after before link answer over is = fault_by setup m now cached after over.exchanges answer before link over.guarded
    over.over is
