-- When a request is refused, and why.
use Rattle.std.proofs.Common.{◌≡◌, ◌≢◌, ◌∙◌, ◌⊎◌, inl, inr, ◌+◌, ℕ, Bool, true, false, cond, List, [], ◌∷◌, refl, sym, ap, subst}
use Rattle.std.specs.Prelude.{Option, Some, None, Result, Ok, Err, slice_get, filter, position, not, ◌||◌, if◌then◌else◌, codes}
use Rattle.std.specs.List.{list_any, position_from}
use Rattle.std.specs.Str.{bytes_eq}
use Rattle.std.proofs.lemmas.Iterator.Adapters.{position_from-zero}
use Rattle.std.proofs.lemmas.Slice.Eq.{bytes_eq-Decides}
use Rattle.bytes_and_lists.specs.declared.message.Message.{Message}
use Rattle.message_signature.specs.Components.{target_path}
use Rattle.gnap_model.specs.declared.rights.Right.{Right}
use Rattle.gnap_model.specs.Rights.{covers}
use Rattle.message_signature.specs.declared.fault.SigFault.{SigFault}
use Rattle.message_signature.specs.Verified.{verified}
use Rattle.outside.specs.Links.{Exchange}
use Rattle.outside.specs.declared.link.LinkFault.{LinkFault}
use Rattle.outside.specs.declared.link.LinkFault.TheVariants as link_faults
use Rattle.reply_readers.specs.declared.judgement.Judgement.{Judgement}
use Rattle.reply_readers.specs.declared.judgement.Judgement.TheVariants.{Active, Inactive}
use Rattle.signed_requests.specs.declared.unsigned.Scheme.{Scheme}
use Rattle.resource_server.specs.declared.setup.Route.{Route}
use Rattle.resource_server.specs.declared.setup.RsSetup.{RsSetup}
use Rattle.resource_server.specs.declared.guarded.Guarded.{Guarded}
use Rattle.resource_server.specs.declared.guarded.Guarded.TheVariants as guarded
use Rattle.resource_server.specs.declared.guarded.Why.{Why}
use Rattle.resource_server.specs.declared.guarded.Why.TheVariants as why
use Rattle.resource_server.specs.Routing.{◌>>=◌, has_path, is_route, placed, route_of, is_authorization, only_value, presented_at, needed_token, token_of, question_of}
use Rattle.resource_server.specs.Introspecting.{question_text}
use Rattle.resource_server.specs.Guarding.{SaysOfToken, SaysNothing, is_key, has_signed, answer_of, exchanges_of, Judged, said, said_nothing, failed, no_room, no_room_after, Guards, at_once, starved, asked, status_of}
use Rattle.resource_server.specs.Laws.{GotReply, IsCause, DenyMeans}

-- ---- refused at once

-- no place, so no route
none_from : (test : Route → Bool) (i : ℕ) (routes : List Route) → position_from test i routes ≡ None → list_any test routes ≡ false
none_from test i [] e = refl
none_from test i (r ∷ rs) e = by (test r) (none_from test (i + 1) rs) e
  where
    by : (b : Bool) → (position_from test (i + 1) rs ≡ None → list_any test rs ≡ false) → cond b (Some i) (position_from test (i + 1) rs) ≡ None
        → (b || list_any test rs) ≡ false
    by true rest h = absurd (cc)
    by false rest h = rest h

none_there : (test : Route → Bool) (routes : List Route) → position test routes ≡ None → list_any test routes ≡ false
none_there test routes e = none_from test 0 routes (sym (position_from-zero test routes) ∙ e)

-- what a refusal that was made at once means, without the exchanges
abbrev AtOnce : List Route → Message → Guarded → Type 0
AtOnce routes m (guarded.Deny status why.NoRoute) = (status ≡ 404) × (list_any (has_path (target_path m.target)) routes ≡ false)
AtOnce routes m (guarded.Deny status why.NoMethod) =
    (status ≡ 405) × (list_any (has_path (target_path m.target)) routes ≡ true) × (list_any (is_route m.method (target_path m.target)) routes ≡ false)
AtOnce routes m (guarded.Deny status why.NoToken) =
    (status ≡ 401) × (i : ℕ) × (route_of routes m ≡ Ok i) × (presented_at (only_value (filter is_authorization m.fields)) ≡ None)
AtOnce routes m (guarded.Deny status (why.BadReply reply)) = ⊥
AtOnce routes m (guarded.Deny status why.Inactive) = ⊥
AtOnce routes m (guarded.Deny status why.TooNarrow) = ⊥
AtOnce routes m (guarded.Deny status why.Signature) = ⊥
AtOnce routes m (guarded.Allow i) = ⊥
AtOnce routes m guarded.LinkFault = ⊥
AtOnce routes m guarded.Memory = ⊥

not_placed : (routes : List Route) (m : Message) (path : Bool) (o : Option ℕ) (answer : Guarded) → list_any (has_path (target_path m.target)) routes ≡ path
    → position (is_route m.method (target_path m.target)) routes ≡ o → placed path o ≡ Err answer → AtOnce routes m answer
not_placed routes m path (Some i) answer any at e = absurd (cc)
not_placed routes m true None answer any at e =
    let is : guarded.Deny 405 why.NoMethod ≡ answer = cc in
    subst (AtOnce routes m) is (refl, any, none_there (is_route m.method (target_path m.target)) routes at)
not_placed routes m false None answer any at e =
    let is : guarded.Deny 404 why.NoRoute ≡ answer = cc in
    subst (AtOnce routes m) is (refl, any)

not_presented : (routes : List Route) (m : Message) (i : ℕ) (o : Option (Scheme × List ℕ)) (answer : Guarded) → route_of routes m ≡ Ok i
    → presented_at (only_value (filter is_authorization m.fields)) ≡ o → needed_token o ≡ Err answer → AtOnce routes m answer
not_presented routes m i (Some token) answer at is e = absurd (cc)
not_presented routes m i None answer at is e =
    let same : guarded.Deny 401 why.NoToken ≡ answer = cc in
    subst (AtOnce routes m) same (refl, i, at, is)

refused_by : (routes : List Route) (m : Message) (a : Result ℕ Guarded) (b : Result (Scheme × List ℕ) Guarded) (answer : Guarded)
    → route_of routes m ≡ a → token_of m ≡ b
    → ◌≡◌ {A = Result (ℕ × (Scheme × List ℕ)) Guarded} (a >>= λ (i : ℕ). b >>= λ (token : Scheme × List ℕ). Ok (i, token)) (Err answer)
    → AtOnce routes m answer
refused_by routes m (Err x) b answer at is e =
    let same : x ≡ answer = cc in
    not_placed routes m _ _ answer refl refl (at ∙ ap Err same)
refused_by routes m (Ok i) (Err x) answer at is e =
    let same : x ≡ answer = cc in
    not_presented routes m i _ answer at refl (is ∙ ap Err same)
refused_by routes m (Ok i) (Ok token) answer at is e = absurd (cc)

refused : (routes : List Route) (m : Message) (answer : Guarded) → question_of routes m ≡ Err answer → AtOnce routes m answer
unfolding question_of
refused routes m answer e = refused_by routes m _ _ answer refl refl e

caused_at_once : (setup : RsSetup) (m : Message) (now status : ℕ) (reason : Why) → AtOnce setup.routes m (guarded.Deny status reason)
    → (status ≡ status_of reason) × IsCause setup m now [] reason
caused_at_once setup m now status why.NoRoute h = (h.0, (refl, h.1))
caused_at_once setup m now status why.NoMethod h = (h.0, (refl, h.1, h.2))
caused_at_once setup m now status why.NoToken h = (h.0, (refl, h.1, h.2, h.3))
caused_at_once setup m now status (why.BadReply reply) h = absurd h
caused_at_once setup m now status why.Inactive h = absurd h
caused_at_once setup m now status why.TooNarrow h = absurd h
caused_at_once setup m now status why.Signature h = absurd h

-- ---- refused by a reply

-- what a refusal by what a reply says means
abbrev BySaying : RsSetup → Message → ℕ → List Right → Judgement → Guarded → Type 0
BySaying setup m now wanted says (guarded.Deny status why.NoRoute) = ⊥
BySaying setup m now wanted says (guarded.Deny status why.NoMethod) = ⊥
BySaying setup m now wanted says (guarded.Deny status why.NoToken) = ⊥
BySaying setup m now wanted says (guarded.Deny status (why.BadReply reply)) = ⊥
BySaying setup m now wanted says (guarded.Deny status why.Inactive) = (status ≡ 401) × (says ≡ Inactive)
BySaying setup m now wanted says (guarded.Deny status why.TooNarrow) =
    (status ≡ 403) × (access : List Right) × (key : Option (List ℕ)) × (exp : ℕ) × (says ≡ Active access key exp) × (covers access wanted ≡ false)
BySaying setup m now wanted says (guarded.Deny status why.Signature) =
    (status ≡ 401) × (access : List Right) × (key : List ℕ) × (exp : ℕ) × (says ≡ Active access (Some key) exp) × (covers access wanted ≡ true)
    × (verified m setup.base setup.ring now (codes "gnap") ≢ Ok key)
BySaying setup m now wanted says (guarded.Allow i) = Unit {0}
BySaying setup m now wanted says guarded.LinkFault = Unit {0}
BySaying setup m now wanted says guarded.Memory = Unit {0}

not_key : (key : List ℕ) (r : Result (List ℕ) SigFault) → is_key key r ≡ false → r ≢ Ok key
not_key key (Ok id) e is =
    let same : id ≡ key = cc in
    let yes : bytes_eq id key ≡ true = (bytes_eq-Decides id key).1 same in
    cc
not_key key (Err fault) e is = cc

by_answer : (setup : RsSetup) (m : Message) (now i : ℕ) (wanted access : List Right) (key : Option (List ℕ)) (exp : ℕ) (a b : Bool)
    → covers access wanted ≡ a → has_signed setup m now key ≡ b
    → BySaying setup m now wanted (Active access key exp)
    (if not a then guarded.Deny 403 why.TooNarrow else (if b then guarded.Allow i else guarded.Deny 401 why.Signature))
by_answer setup m now i wanted access key exp true true c s = tt
by_answer setup m now i wanted access None exp true false c s = absurd (cc)
by_answer setup m now i wanted access (Some key) exp true false c s =
    (refl, access, key, exp, refl, c, not_key key (verified m setup.base setup.ring now (codes "gnap")) s)
by_answer setup m now i wanted access key exp false b c s = (refl, access, key, exp, refl, c)

by_saying : (setup : RsSetup) (m : Message) (now i : ℕ) (wanted : List Right) (says : Judgement)
    → BySaying setup m now wanted says (answer_of setup m now i wanted says)
by_saying setup m now i wanted Inactive = (refl, refl)
by_saying setup m now i wanted (Active access key exp) = by_answer setup m now i wanted access key exp _ _ refl refl

caused_by_saying : (setup : RsSetup) (m : Message) (now status : ℕ) (route : Route) (reply : List ℕ) (says : Judgement) (reason : Why)
    (exchanges : List Exchange) → GotReply setup m now route reply exchanges → SaysOfToken reply says
    → BySaying setup m now (route.right ∷ []) says (guarded.Deny status reason) → (status ≡ status_of reason) × IsCause setup m now exchanges reason
caused_by_saying setup m now status route reply says why.NoRoute es got s h = absurd h
caused_by_saying setup m now status route reply says why.NoMethod es got s h = absurd h
caused_by_saying setup m now status route reply says why.NoToken es got s h = absurd h
caused_by_saying setup m now status route reply says (why.BadReply bytes) es got s h = absurd h
caused_by_saying setup m now status route reply says why.Inactive es got s h = (h.0, (route, reply, got, subst (SaysOfToken reply) h.1 s))
caused_by_saying setup m now status route reply says why.TooNarrow es got s (is, access, key, exp, same, narrow) =
    (is, (route, reply, got, access, key, exp, subst (SaysOfToken reply) same s, narrow))
caused_by_saying setup m now status route reply says why.Signature es got s (is, access, key, exp, same, covered, unsigned) =
    (is, (route, reply, got, access, key, exp, subst (SaysOfToken reply) same s, covered, unsigned))

-- ---- the law

-- what an answer means that is a refusal
abbrev Means : RsSetup → Message → ℕ → List Exchange → Guarded → Type 0
Means setup m now exchanges (guarded.Deny status reason) = (status ≡ status_of reason) × IsCause setup m now exchanges reason
Means setup m now exchanges (guarded.Allow i) = Unit {0}
Means setup m now exchanges guarded.LinkFault = Unit {0}
Means setup m now exchanges guarded.Memory = Unit {0}

said_means : (setup : RsSetup) (m : Message) (now : ℕ) (route : Route) (reply : List ℕ) (says : Judgement) (answer : Guarded) (exchanges : List Exchange)
    → GotReply setup m now route reply exchanges → SaysOfToken reply says → BySaying setup m now (route.right ∷ []) says answer
    → Means setup m now exchanges answer
said_means setup m now route reply says (guarded.Deny status reason) es got s h = caused_by_saying setup m now status route reply says reason es got s h
said_means setup m now route reply says (guarded.Allow i) es got s h = tt
said_means setup m now route reply says guarded.LinkFault es got s h = tt
said_means setup m now route reply says guarded.Memory es got s h = tt

judged_means : (setup : RsSetup) (m : Message) (now i : ℕ) (token : Scheme × List ℕ) (route : Route) (request : List ℕ) (answered : Result (List ℕ) LinkFault)
    (answer : Guarded) → ((reply : List ℕ) → answered ≡ Ok reply → GotReply setup m now route reply (exchanges_of request answered))
    → Judged setup m now i (route.right ∷ []) answered answer → Means setup m now (exchanges_of request answered) answer
judged_means setup m now i token route request _ _ got (said reply says s) =
    said_means setup m now route reply says _ _ (got reply refl) s (by_saying setup m now i (route.right ∷ []) says)
judged_means setup m now i token route request _ _ got (said_nothing reply s) = (refl, (route, got reply refl, s))
judged_means setup m now i token route request _ _ got failed = tt
judged_means setup m now i token route request _ _ got no_room = tt
judged_means setup m now i token route request _ _ got (no_room_after reply) = tt

at_once_means : (setup : RsSetup) (m : Message) (now : ℕ) (answer : Guarded) → AtOnce setup.routes m answer → Means setup m now [] answer
at_once_means setup m now (guarded.Deny status reason) h = caused_at_once setup m now status reason h
at_once_means setup m now (guarded.Allow i) h = tt
at_once_means setup m now guarded.LinkFault h = tt
at_once_means setup m now guarded.Memory h = tt

means : (setup : RsSetup) (m : Message) (now : ℕ) (exchanges : List Exchange) (answer : Guarded) → Guards setup m now exchanges answer
    → Means setup m now exchanges answer
means setup m now _ _ (at_once answer e) = at_once_means setup m now answer (refused setup.routes m answer e)
means setup m now _ _ starved = tt
means setup m now _ _ (asked i token question route place request signed answered answer judged) =
    judged_means setup m now i token route request answered answer
    (λ reply came. record {
      place = i;
      token = token;
      presents = record { question = question; route_is = place };
      introspected = record { request = request; request_is = signed; exchanged = ap (exchanges_of request) came };
    }) judged

pub deny_means_law : DenyMeans
deny_means_law setup m now status reason exchanges g = means setup m now exchanges (guarded.Deny status reason) g
