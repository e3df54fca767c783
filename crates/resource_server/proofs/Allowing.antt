-- When a request is let through.
use Rattle.std.proofs.Common.{◌≡◌, ◌∙◌, ◌⊎◌, inl, inr, ℕ, Bool, true, false, List, [], ◌∷◌, ◌++◌, length, refl, sym, ap, subst, arith, length-append, append-nil}
use Rattle.std.specs.Prelude.{Option, Some, None, Result, Ok, Err, slice_get, not, if◌then◌else◌, codes}
use Rattle.std.specs.Str.{bytes_eq}
use Rattle.std.proofs.lemmas.Slice.Eq.{bytes_eq-Decides}
use Rattle.bytes_and_lists.specs.declared.message.Message.{Message}
use Rattle.gnap_model.specs.declared.rights.Right.{Right}
use Rattle.gnap_model.specs.Rights.{covers}
use Rattle.message_signature.specs.declared.fault.SigFault.{SigFault}
use Rattle.message_signature.specs.Verified.{verified}
use Rattle.outside.specs.Links.{Exchange, LinkState}
use Rattle.outside.specs.Outside.{Rose}
use Rattle.outside.specs.declared.link.LinkFault.{LinkFault}
use Rattle.outside.specs.declared.link.LinkFault.TheVariants as link_faults
use Rattle.reply_readers.specs.declared.judgement.Judgement.{Judgement}
use Rattle.reply_readers.specs.declared.judgement.Judgement.TheVariants.{Active, Inactive}
use Rattle.signed_requests.specs.declared.unsigned.Scheme.{Scheme}
use Rattle.resource_server.specs.declared.setup.Route.{Route}
use Rattle.resource_server.specs.declared.setup.RsSetup.{RsSetup}
use Rattle.resource_server.specs.declared.guarded.Guarded.{Guarded}
use Rattle.resource_server.specs.declared.guarded.Guarded.TheVariants as guarded
use Rattle.resource_server.specs.declared.guarded.Why.TheVariants as why
use Rattle.resource_server.specs.Routing.{◌>>=◌, placed, route_of, needed_token, token_of, question_of}
use Rattle.resource_server.specs.Guarding.{SaysOfToken, SaysNothing, is_key, has_signed, answer_of, exchanges_of, Judged, said, said_nothing, failed, no_room, no_room_after, Guards, at_once, starved, asked, CountsExchanges, GuardsOver}
use Rattle.resource_server.specs.Laws.{HasSigned, AllowedByReply, IsAllowed, AllowMeans, AllowComes, FaultMeans}
use Rattle.resource_server.proofs.Sayings.{same_saying}

-- the route at a place is shown
abbrev IsAllow : ℕ → Guarded → Type 0
IsAllow i (guarded.Allow j) = j ≡ i
IsAllow i (guarded.Deny status reason) = ⊥
IsAllow i guarded.LinkFault = ⊥
IsAllow i guarded.Memory = ⊥

abbrev pub IsRefusal : Guarded → Type 0
IsRefusal (guarded.Allow j) = ⊥
IsRefusal (guarded.Deny status reason) = Unit {0}
IsRefusal guarded.LinkFault = ⊥
IsRefusal guarded.Memory = ⊥

never_both : (i : ℕ) (answer : Guarded) → IsAllow i answer → IsRefusal answer → ⊥
never_both i (guarded.Allow j) a r = r
never_both i (guarded.Deny status reason) a r = a
never_both i guarded.LinkFault a r = a
never_both i guarded.Memory a r = a

abbrev IsRefused : {A : Type 0} → Result A Guarded → Type 0
IsRefused (Ok x) = Unit {0}
IsRefused (Err answer) = IsRefusal answer

placed_refused : (path : Bool) (o : Option ℕ) → IsRefused (placed path o)
placed_refused path (Some i) = tt
placed_refused true None = tt
placed_refused false None = tt

token_refused : (o : Option (Scheme × List ℕ)) → IsRefused (needed_token o)
token_refused None = tt
token_refused (Some token) = tt

joined : (a : Result ℕ Guarded) (b : Result (Scheme × List ℕ) Guarded) → IsRefused a → IsRefused b
    → IsRefused {A = ℕ × (Scheme × List ℕ)} (a >>= λ (i : ℕ). b >>= λ (token : Scheme × List ℕ). Ok (i, token))
joined (Err x) b p q = p
joined (Ok i) (Err x) p q = q
joined (Ok i) (Ok token) p q = tt

question_refused : (routes : List Route) (m : Message) → IsRefused (question_of routes m)
unfolding question_of
question_refused routes m = joined (route_of routes m) (token_of m) (placed_refused _ _) (token_refused _)

pub refusal : (routes : List Route) (m : Message) (answer : Guarded) → question_of routes m ≡ Err answer → IsRefusal answer
refusal routes m answer e = subst (λ (q : Result (ℕ × (Scheme × List ℕ)) Guarded). IsRefused q) e (question_refused routes m)

-- ---- what is said of a token

key_signed : (setup : RsSetup) (m : Message) (now : ℕ) (k : List ℕ) (r : Result (List ℕ) SigFault) → verified m setup.base setup.ring now (codes "gnap") ≡ r
    → is_key k r ≡ true → verified m setup.base setup.ring now (codes "gnap") ≡ Ok k
key_signed setup m now k (Ok id) e h = e ∙ ap Ok ((bytes_eq-Decides id k).0 h)
key_signed setup m now k (Err fault) e h = absurd (cc)

signed_of : (setup : RsSetup) (m : Message) (now : ℕ) (key : Option (List ℕ)) → has_signed setup m now key ≡ true → HasSigned setup m now key
signed_of setup m now None e = tt
signed_of setup m now (Some k) e = key_signed setup m now k _ refl e

signed_true : (setup : RsSetup) (m : Message) (now : ℕ) (key : Option (List ℕ)) → HasSigned setup m now key → has_signed setup m now key ≡ true
signed_true setup m now None s = refl
signed_true setup m now (Some k) s = rw s ((bytes_eq-Decides k k).1 refl)

-- the answer of what is said
record IsSaid (setup : RsSetup) (m : Message) (now i j : ℕ) (wanted : List Right) (says : Judgement) : Type 0 where
  same : j ≡ i
  access : List Right
  key : Option (List ℕ)
  exp : ℕ
  is : says ≡ Active access key exp
  covered : covers access wanted ≡ true
  signed : HasSigned setup m now key

by_tests : (setup : RsSetup) (m : Message) (now i j : ℕ) (wanted access : List Right) (key : Option (List ℕ)) (exp : ℕ) (a b : Bool)
    → covers access wanted ≡ a → has_signed setup m now key ≡ b
    → IsAllow i (if not a then guarded.Deny 403 why.TooNarrow else (if b then guarded.Allow j else guarded.Deny 401 why.Signature))
    → IsSaid setup m now i j wanted (Active access key exp)
by_tests setup m now i j wanted access key exp true true c s h =
    record { same = h; access = access; key = key; exp = exp; is = refl; covered = c; signed = signed_of setup m now key s }
by_tests setup m now i j wanted access key exp true false c s h = absurd h
by_tests setup m now i j wanted access key exp false b c s h = absurd h

said_allow : (setup : RsSetup) (m : Message) (now i j : ℕ) (wanted : List Right) (says : Judgement) → IsAllow i (answer_of setup m now j wanted says)
    → IsSaid setup m now i j wanted says
said_allow setup m now i j wanted Inactive h = absurd h
said_allow setup m now i j wanted (Active access key exp) h = by_tests setup m now i j wanted access key exp _ _ refl refl h

-- ---- what it takes

record IsJudged (setup : RsSetup) (m : Message) (now i j : ℕ) (wanted : List Right) (answered : Result (List ℕ) LinkFault) : Type 0 where
  reply : List ℕ
  came : answered ≡ Ok reply
  says : Judgement
  active : SaysOfToken reply says
  said_is : IsSaid setup m now i j wanted says

judged_allow : (setup : RsSetup) (m : Message) (now i j : ℕ) (wanted : List Right) (answered : Result (List ℕ) LinkFault) (answer : Guarded)
    → Judged setup m now j wanted answered answer → IsAllow i answer → IsJudged setup m now i j wanted answered
judged_allow setup m now i j wanted _ _ (said reply says s) h =
    record { reply = reply; came = refl; says = says; active = s; said_is = said_allow setup m now i j wanted says h }
judged_allow setup m now i j wanted _ _ (said_nothing reply s) h = absurd h
judged_allow setup m now i j wanted _ _ failed h = absurd h
judged_allow setup m now i j wanted _ _ no_room h = absurd h
judged_allow setup m now i j wanted _ _ (no_room_after reply) h = absurd h

means : (setup : RsSetup) (m : Message) (now i : ℕ) (exchanges : List Exchange) (answer : Guarded)
    → Guards setup m now exchanges answer → IsAllow i answer → IsAllowed setup m now i exchanges
means setup m now i _ _ (at_once answer e) h = absurd (never_both i answer h (refusal setup.routes m answer e))
means setup m now i _ _ starved h = absurd h
means setup m now i _ _ (asked j token question route place request signed answered answer judged) h =
    let x : IsJudged setup m now i j (route.right ∷ []) answered = judged_allow setup m now i j (route.right ∷ []) answered answer judged h in
    record {
      reply = x.reply;
      by_reply = record {
        route = route;
        token = token;
        presents = record {
          question = question ∙ ap (λ (k : ℕ). Ok (k, token)) x.said_is.same;
          route_is = ap (slice_get setup.routes) (sym x.said_is.same) ∙ place;
        };
        access = x.said_is.access;
        key = x.said_is.key;
        exp = x.said_is.exp;
        active = subst (SaysOfToken x.reply) x.said_is.is x.active;
        covered = x.said_is.covered;
        signed = x.said_is.signed;
      };
      introspected = record { request = request; request_is = signed; exchanged = ap (exchanges_of request) x.came };
    }

pub allow_means_law : AllowMeans
allow_means_law setup m now i exchanges g = means setup m now i exchanges (guarded.Allow i) g refl

-- ---- and that it comes

judged_comes : (setup : RsSetup) (m : Message) (now i : ℕ) (wanted : List Right) (answered : Result (List ℕ) LinkFault) (reply : List ℕ) (answer : Guarded)
    (access : List Right) (key : Option (List ℕ)) (exp : ℕ) → answered ≡ Ok reply → Judged setup m now i wanted answered answer
    → SaysOfToken reply (Active access key exp)
    → covers access wanted ≡ true → HasSigned setup m now key → (answer ≡ guarded.Allow i) ⊎ (answer ≡ guarded.Memory)
judged_comes setup m now i wanted _ reply _ access key exp e (said other says s) active covered signed =
    let same : other ≡ reply = cc in
    let is : says ≡ Active access key exp = same_saying reply says (Active access key exp) (subst (λ (r : List ℕ). SaysOfToken r says) same s) active in
    inl (rw (is, covered, signed_true setup m now key signed) refl)
judged_comes setup m now i wanted _ reply _ access key exp e (said_nothing other none) active covered signed =
    let same : reply ≡ other = cc in
    absurd (none (Active access key exp) (subst (λ (r : List ℕ). SaysOfToken r (Active access key exp)) same active))
judged_comes setup m now i wanted _ reply _ access key exp e failed active covered signed = absurd (cc)
judged_comes setup m now i wanted _ reply _ access key exp e no_room active covered signed = absurd (cc)
judged_comes setup m now i wanted _ reply _ access key exp e (no_room_after other) active covered signed = inr refl

one_reply : (request other reply : List ℕ) (answered : Result (List ℕ) LinkFault)
    → exchanges_of request answered ≡ (other, Some reply) ∷ [] → answered ≡ Ok reply
one_reply request other reply (Ok r) e =
    let heads : ◌≡◌ {A = Exchange} (request, Some r) (other, Some reply) = cc in
    let replies : ◌≡◌ {A = Option (List ℕ)} (Some r) (Some reply) = ap (λ (x : Exchange). x.1) heads in
    let same : r ≡ reply = cc in
    ap Ok same
one_reply request other reply (Err link_faults.Failed) e =
    let heads : ◌≡◌ {A = Exchange} (request, None) (other, Some reply) = cc in
    let replies : ◌≡◌ {A = Option (List ℕ)} None (Some reply) = ap (λ (x : Exchange). x.1) heads in
    absurd (cc)
one_reply request other reply (Err link_faults.OutOfMemory) e = absurd (cc)

comes : (setup : RsSetup) (m : Message) (now i : ℕ) (exchanges : List Exchange) (answer : Guarded)
    → Guards setup m now exchanges answer → IsAllowed setup m now i exchanges → (answer ≡ guarded.Allow i) ⊎ (answer ≡ guarded.Memory)
comes setup m now i _ _ (at_once answer e) x =
    let wrong : ◌≡◌ {A = Result (ℕ × (Scheme × List ℕ)) Guarded} (Ok (i, x.by_reply.token)) (Err answer) = sym x.by_reply.presents.question ∙ e in
    absurd (cc)
comes setup m now i _ _ starved x = inr refl
comes setup m now i _ _ (asked j token question route place request signed answered answer judged) x =
    let r : AllowedByReply setup m now i x.reply = x.by_reply in
    let both : ◌≡◌ {A = Result (ℕ × (Scheme × List ℕ)) Guarded} (Ok (j, token)) (Ok (i, r.token)) = sym question ∙ r.presents.question in
    let pairs : ◌≡◌ {A = ℕ × (Scheme × List ℕ)} (j, token) (i, r.token) = cc in
    let same : j ≡ i = ap (λ (p : ℕ × (Scheme × List ℕ)). p.0) pairs in
    let routes : ◌≡◌ {A = Option Route} (Some route) (Some r.route) = sym place ∙ ap (slice_get setup.routes) same ∙ r.presents.route_is in
    let one : route ≡ r.route = cc in
    let right : route.right ∷ [] ≡ r.route.right ∷ [] = ap (λ (r : Route). r.right ∷ []) one in
    let came : answered ≡ Ok x.reply = one_reply request x.introspected.request x.reply answered x.introspected.exchanged in
    subst (λ (k : ℕ). (answer ≡ guarded.Allow k) ⊎ (answer ≡ guarded.Memory)) same
    (judged_comes setup m now j (route.right ∷ []) answered x.reply answer r.access r.key r.exp came judged r.active
    (ap (covers r.access) right ∙ r.covered) r.signed)

pub allow_comes_law : AllowComes
allow_comes_law setup m now i exchanges answer g x = comes setup m now i exchanges answer g x

-- ---- the link's fault

pub judged_fault : (setup : RsSetup) (m : Message) (now j : ℕ) (wanted : List Right) (answered : Result (List ℕ) LinkFault) (answer : Guarded)
    → Judged setup m now j wanted answered answer → answer ≡ guarded.LinkFault → answered ≡ Err link_faults.Failed
judged_fault setup m now j wanted _ _ (said reply says s) e = absurd (never_fault setup m now j wanted says e)
  where
    by : (a b : Bool) (i : ℕ) → (if not a then guarded.Deny 403 why.TooNarrow else (if b then guarded.Allow i else guarded.Deny 401 why.Signature))
        ≡ guarded.LinkFault → ⊥
    by true true i e = absurd (cc)
    by true false i e = absurd (cc)
    by false b i e = absurd (cc)

    never_fault : (setup : RsSetup) (m : Message) (now j : ℕ) (wanted : List Right) (says : Judgement) → answer_of setup m now j wanted says ≡ guarded.LinkFault
        → ⊥
    never_fault setup m now j wanted Inactive e = absurd (cc)
    never_fault setup m now j wanted (Active access key exp) e = by (covers access wanted) (has_signed setup m now key) j e
judged_fault setup m now j wanted _ _ (said_nothing reply s) e = absurd (cc)
judged_fault setup m now j wanted _ _ failed e = refl
judged_fault setup m now j wanted _ _ no_room e = absurd (cc)
judged_fault setup m now j wanted _ _ (no_room_after reply) e = absurd (cc)

judged_failed : (setup : RsSetup) (m : Message) (now j : ℕ) (wanted : List Right) (answered : Result (List ℕ) LinkFault) (answer : Guarded)
    → Judged setup m now j wanted answered answer → answered ≡ Err link_faults.Failed → answer ≡ guarded.LinkFault
judged_failed setup m now j wanted _ _ (said reply says s) e = absurd (cc)
judged_failed setup m now j wanted _ _ (said_nothing reply s) e = absurd (cc)
judged_failed setup m now j wanted _ _ failed e = refl
judged_failed setup m now j wanted _ _ no_room e = absurd (cc)
judged_failed setup m now j wanted _ _ (no_room_after reply) e = absurd (cc)

no_reply : (request other : List ℕ) (answered : Result (List ℕ) LinkFault)
    → exchanges_of request answered ≡ (other, None) ∷ [] → answered ≡ Err link_faults.Failed
no_reply request other (Ok r) e =
    let heads : ◌≡◌ {A = Exchange} (request, Some r) (other, None) = cc in
    let replies : ◌≡◌ {A = Option (List ℕ)} (Some r) None = ap (λ (x : Exchange). x.1) heads in
    absurd (cc)
no_reply request other (Err link_faults.Failed) e = refl
no_reply request other (Err link_faults.OutOfMemory) e = absurd (cc)

pub fault_means_law : FaultMeans
fault_means_law setup m now _ _ (at_once answer e) = (
  (λ is. absurd (subst IsRefusal is (refusal setup.routes m answer e))),
  (λ request none. absurd (cc)),
)
fault_means_law setup m now _ _ starved = ((λ is. absurd (cc)), (λ request none. absurd (cc)))
fault_means_law setup m now _ _ (asked j token question route place request signed answered answer judged) = (
  (λ is. (request, ap (exchanges_of request) (judged_fault setup m now j (route.right ∷ []) answered answer judged is))),
  (λ other none. judged_failed setup m now j (route.right ∷ []) answered answer judged (no_reply request other answered none)),
)

-- and then the link's count rose
pub fault_rose : (setup : RsSetup) (m : Message) (now : ℕ) (before after : LinkState) (answer : Guarded) → GuardsOver (Guards setup m now) before after answer
    → answer ≡ guarded.LinkFault → Rose before.faults after.faults
fault_rose setup m now before after answer over is =
    let one : (request : List ℕ) × (over.exchanges ≡ (request, None) ∷ []) = (fault_means_law setup m now over.exchanges answer over.guarded).0 is in
    let counts : CountsExchanges ((one.0, None) ∷ []) before.faults after.faults = subst (λ es. CountsExchanges es before.faults after.faults) one.1
    over.over.counts in
    subst (λ n. Rose before.faults n) (sym counts.2) counts.1
