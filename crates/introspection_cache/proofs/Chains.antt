-- Requests that were guarded with a cache, one after another.
use Rattle.std.proofs.Common.{◌≡◌, ◌∙◌, ◌⊎◌, inl, inr, ◌+◌, ◌-◌, ◌<◌, ◌≤◌, ℕ, zero, suc, Bool, true, false, cond, List, [], ◌∷◌, length, take, Contains}
use Rattle.std.proofs.Common.{refl, sym, ap, subst, arith}
use Rattle.std.specs.Prelude.{Option, Some, None, Result, Ok, slice_get, nat_le, nat_lt, ◌&&◌, if◌then◌else◌}
use Rattle.std.specs.Map.{lookup, lookup_entry, remove_entry}
use Rattle.std.specs.Option.{option_map_or}
use Rattle.std.specs.Str.{bytes_eq}
use Rattle.std.proofs.lemmas.Bool.Decides.{nat_tests}
use Rattle.std.proofs.lemmas.Slice.Eq.{bytes_eq-Decides}
use Rattle.lru.proofs.CallerLemmas.{Contains-take, Contains-lookup, Contains-remove_entry, Contains-promoted}
use Rattle.lru.proofs.Splits.{Contains-head, Contains-tail, Contains-cons, Contains-nil}
use Rattle.bytes_and_lists.specs.declared.message.Message.{Message}
use Rattle.outside.specs.Links.{Exchange}
use Rattle.reply_readers.specs.declared.judgement.Judgement.TheVariants.{Active}
use Rattle.signed_requests.specs.declared.unsigned.Scheme.{Scheme}
use Rattle.resource_server.specs.declared.setup.Route.{Route}
use Rattle.resource_server.specs.declared.setup.RsSetup.{RsSetup}
use Rattle.resource_server.specs.declared.guarded.Guarded.{Guarded}
use Rattle.resource_server.specs.declared.guarded.Guarded.TheVariants as guarded
use Rattle.resource_server.specs.Introspecting.{question_text}
use Rattle.resource_server.specs.Guarding.{SaysOfToken, Judged, Guards, asked, at_once as refused_guard, starved as starved_guard}
use Rattle.resource_server.specs.Laws.{Presents, AllowedByReply, IsIntrospected, IsAllowed}
use Rattle.resource_server.proofs.Allowing.{IsRefusal, refusal, allow_means_law}
use Rattle.resource_server.proofs.Asking.{has_request}
use Rattle.introspection_cache.specs.declared.kept_reply.KeptReply.{KeptReply}
use Rattle.introspection_cache.specs.Caching.{Kept, Cache, is_fresh, if_fresh, fresh_to, to_others, may_keep, Keeps, allowed, not_allowed, Caches}
use Rattle.introspection_cache.specs.Caching.{at_once, starved, again, anew, new_cache}
use Rattle.introspection_cache.specs.Laws.{CachedStep, Chained, CameIn, KeptCame, IsKept, CachedAllowMeans, AnswersByKept, CachedIsGuard, FreshIsSilent}
use Rattle.introspection_cache.specs.Laws.{KeptAreFew}

-- ---- one question

-- a message has one route and one token
same_question : (setup : RsSetup) (m : Message) (i j : ℕ) (route other : Route) (token last : Scheme × List ℕ) → Presents setup m i route token
    → Presents setup m j other last → question_text setup route token ≡ question_text setup other last
same_question setup m i j route other token last p q =
    let both : ◌≡◌ {A = Result (ℕ × (Scheme × List ℕ)) Guarded} (Ok (i, token)) (Ok (j, last)) = sym p.question ∙ q.question in
    let pairs : ◌≡◌ {A = ℕ × (Scheme × List ℕ)} (i, token) (j, last) = cc in
    let places : i ≡ j = ap (λ (p : ℕ × (Scheme × List ℕ)). p.0) pairs in
    let tokens : token ≡ last = ap (λ (p : ℕ × (Scheme × List ℕ)). p.1) pairs in
    let routes : ◌≡◌ {A = Option Route} (Some route) (Some other) = sym p.route_is ∙ ap (slice_get setup.routes) places ∙ q.route_is in
    let one : route ≡ other = cc in
    ap (λ (r : Route). question_text setup r token) one ∙ ap (question_text setup other) tokens

pub fresh_is_silent_law : FreshIsSilent
fresh_is_silent_law setup m now i route token before _ _ _ r presents fresh (at_once answer e) = refl
fresh_is_silent_law setup m now i route token before _ _ _ r presents fresh starved = refl
fresh_is_silent_law setup m now i route token before _ _ _ r presents fresh (again j other last also s is answer judged) = refl
fresh_is_silent_law setup m now i route token before _ _ _ r presents fresh (anew j other last also none exchanges answer guards kept keeps) =
    let same = same_question setup m i j route other token last presents also in
    let wrong : Some r ≡ None = sym fresh ∙ ap (λ (t : List ℕ). fresh_to t now before.kept) same ∙ none in
    absurd (cc)

-- ---- what is fresh

-- what a fresh reply is
record IsFresh (text : List ℕ) (now : ℕ) (kept : Kept) (r : KeptReply) : Type 0 where
  there : lookup (bytes_eq text) kept ≡ Some r
  begun : r.moment ≤ now
  recent : now ≤ r.moment + 30
  lasts : now < r.exp

by_tests : (text : List ℕ) (now : ℕ) (kept : Kept) (r : KeptReply) (a b c : Bool) → lookup (bytes_eq text) kept ≡ Some r → nat_le r.moment now ≡ a
    → nat_le now (r.moment + 30) ≡ b → nat_lt now r.exp ≡ c → (a && (b && c)) ≡ true → IsFresh text now kept r
by_tests text now kept r true true true at x y z h =
    record { there = at; begun = grind (arith, nat_tests, x); recent = grind (arith, nat_tests, y); lasts = grind (arith, nat_tests, z) }
by_tests text now kept r true true false at x y z h = absurd (cc)
by_tests text now kept r true false c at x y z h = absurd (cc)
by_tests text now kept r false b c at x y z h = absurd (cc)

by_fresh : (text : List ℕ) (now : ℕ) (kept : Kept) (s r : KeptReply) (b : Bool) → lookup (bytes_eq text) kept ≡ Some s → is_fresh now s ≡ b
    → (if b then Some s else None) ≡ Some r → IsFresh text now kept r
by_fresh text now kept s r true at is h =
    let same : s ≡ r = cc in
    by_tests text now kept r _ _ _ (at ∙ ap Some same) refl refl refl (ap (is_fresh now) (sym same) ∙ is)
by_fresh text now kept s r false at is h = absurd (cc)

by_lookup : (text : List ℕ) (now : ℕ) (kept : Kept) (o : Option KeptReply) (r : KeptReply) → lookup (bytes_eq text) kept ≡ o → if_fresh now o ≡ Some r
    → IsFresh text now kept r
by_lookup text now kept None r at h = absurd (cc)
by_lookup text now kept (Some s) r at h = by_fresh text now kept s r _ at refl h

fresh_is : (text : List ℕ) (now : ℕ) (kept : Kept) (r : KeptReply) → fresh_to text now kept ≡ Some r → IsFresh text now kept r
fresh_is text now kept r h = by_lookup text now kept _ r refl h

-- a reply that is found under a text is among the kept ones
found_among : (text : List ℕ) (kept : Kept) (r : KeptReply) → lookup (bytes_eq text) kept ≡ Some r → Contains kept (text, r)
found_among text kept r h =
    let found = Contains-lookup (bytes_eq text) kept r h in
    subst (λ (t : List ℕ). Contains kept (t, r)) (sym ((bytes_eq-Decides text found.0).0 found.2)) found.1

-- ---- what is kept came

same_head : {a b : Exchange} → ◌≡◌ {A = List Exchange} (a ∷ []) (b ∷ []) → a ≡ b
same_head e = cc

-- the exchange of a request that was let through
one_exchange : (setup : RsSetup) (m : Message) (now i j : ℕ) (route : Route) (token : Scheme × List ℕ) (request reply : List ℕ)
    → Presents setup m j route token → Guards setup m now ((request, Some reply) ∷ []) (guarded.Allow i)
    → IsIntrospected setup now (question_text setup route token) reply ((request, Some reply) ∷ [])
one_exchange setup m now i j route token request reply presents guards =
    let x : IsAllowed setup m now i ((request, Some reply) ∷ []) = allow_means_law setup m now i ((request, Some reply) ∷ []) guards in
    let same = same_question setup m i j x.by_reply.route route x.by_reply.token token x.by_reply.presents presents in
    let heads : ◌≡◌ {A = Exchange} (request, Some reply) (x.introspected.request, Some x.reply) = same_head x.introspected.exchanged in
    let replies : ◌≡◌ {A = Option (List ℕ)} (Some reply) (Some x.reply) = ap (λ (e : Exchange). e.1) heads in
    let one : reply ≡ x.reply = cc in
    subst (λ (r : List ℕ). IsIntrospected setup now (question_text setup route token) r ((request, Some reply) ∷ [])) (sym one)
    (subst (λ (t : List ℕ). IsIntrospected setup now t x.reply ((request, Some reply) ∷ [])) same x.introspected)

module _ (setup : RsSetup) (m : Message) (now : ℕ) (before : Cache) (text : List ℕ) (r : KeptReply) where
  -- it was kept before, or it came in this step
  abbrev Was : CachedStep → Type 0
  Was s = Contains before.kept (text, r) ⊎ CameIn text r s

  put_anew : (capacity : ℕ) (sought : List ℕ) (others : Kept) (given : KeptReply) (b : Bool) (s : CachedStep) → may_keep sought given ≡ b
      → Contains (if b then (sought, given) ∷ take (capacity - 1) others else others) (text, r)
      → (Contains others (text, r) → Was s) → (sought ≡ text → given ≡ r → length sought + length given.reply ≤ 13500 → Was s) → Was s
  put_anew capacity sought others given true s few c old new = elim (Contains-cons (sought, given) (take (capacity - 1) others) (text, r) c) [
    | inl same ↦ new (ap (λ (e : List ℕ × KeptReply). e.0) same) (ap (λ (e : List ℕ × KeptReply). e.1) same) (grind (arith, nat_tests, few))
    | inr d ↦ old (Contains-take (capacity - 1) others (text, r) d)
  ]
  put_anew capacity sought others given false s few c old new = old c

  by_keeping : (capacity : ℕ) (i : ℕ) (route : Route) (token : Scheme × List ℕ) (exchanges : List Exchange) (answer : Guarded) (kept : Kept) (s : CachedStep)
      → s.setup ≡ setup → s.moment ≡ now → s.exchanges ≡ exchanges → Presents setup m i route token → Guards setup m now exchanges answer
      → Keeps capacity (question_text setup route token) now (to_others (question_text setup route token) before.kept) exchanges answer kept
      → Contains kept (text, r) → Was s
  by_keeping capacity i route token _ _ _ s one at es presents guards (allowed j request given moment access key says) c =
      put_anew capacity (question_text setup route token) (to_others (question_text setup route token) before.kept) given _ s refl c
      (λ old. inl (Contains-remove_entry (bytes_eq (question_text setup route token)) before.kept (text, r) old))
      (λ asks is few. inr (record {
        moment = ap (λ (k : KeptReply). k.moment) (sym is) ∙ moment ∙ sym at;
        introspected =
            subst (λ (x : RsSetup). IsIntrospected x s.moment text r.reply s.exchanges) (sym one)
            (subst (λ (n : ℕ). IsIntrospected setup n text r.reply s.exchanges) (sym at)
            (subst (λ (x : List Exchange). IsIntrospected setup now text r.reply x) (sym es)
            (subst (λ (t : List ℕ). IsIntrospected setup now t r.reply ((request, Some given.reply) ∷ [])) asks
            (subst (λ (k : KeptReply). IsIntrospected setup now (question_text setup route token) k.reply ((request, Some given.reply) ∷ [])) is
            (one_exchange setup m now j i route token request given.reply presents guards)))));
        access = access;
        key = key;
        active = subst (λ (k : KeptReply). SaysOfToken k.reply (Active access key k.exp)) is says;
        few = subst (λ (k : KeptReply). length text + length k.reply ≤ 13500) is
            (subst (λ (t : List ℕ). length t + length given.reply ≤ 13500) asks few);
      }))
  by_keeping capacity i route token _ _ _ s one at es presents guards (not_allowed exchanges answer never) c =
      inl (Contains-remove_entry (bytes_eq (question_text setup route token)) before.kept (text, r) c)

  by_step : (exchanges : List Exchange) (answer : Guarded) (after : Cache) (s : CachedStep) → s.setup ≡ setup → s.moment ≡ now → s.exchanges ≡ exchanges
      → Caches setup m now before exchanges answer after → Contains after.kept (text, r) → Was s
  by_step _ _ _ s one at es (at_once answer e) c = inl c
  by_step _ _ _ s one at es starved c = inl c
  by_step _ _ _ s one at es (again i route token presents k fresh answer judged) c =
      inl (Contains-promoted (bytes_eq (question_text setup route token)) before.kept (text, r) c)
  by_step _ _ _ s one at es (anew i route token presents none exchanges answer guards kept keeps) c =
      by_keeping before.capacity i route token exchanges answer kept s one at es presents guards keeps c

came_through : (steps : List CachedStep) (first last : Cache) (text : List ℕ) (r : KeptReply) → Chained first steps last → Contains last.kept (text, r)
    → Contains first.kept (text, r) ⊎ ((s : CachedStep) × Contains steps s × CameIn text r s)
came_through [] first last text r is c = inl (subst (λ (x : Cache). Contains x.kept (text, r)) is c)
came_through (s ∷ steps) first last text r (begins, rest) c = elim (came_through steps s.after last text r rest c) [
  | inl here ↦ elim (by_step s.setup s.message s.moment s.before text r s.exchanges s.answer s.after s refl refl refl s.caches here) [
    | inl old ↦ inl (subst (λ (x : Cache). Contains x.kept (text, r)) begins old)
    | inr came ↦ inr (s, Contains-head s steps, came)
  ]
  | inr later ↦ inr (later.0, Contains-tail s steps later.0 later.1, later.2)
]

pub kept_came_law : KeptCame
kept_came_law capacity steps last chained text r c = elim (came_through steps (new_cache capacity) last text r chained c) [
  | inl none ↦ absurd (Contains-nil (text, r) none)
  | inr came ↦ came
]

-- a fresh reply was kept
kept_of : (capacity : ℕ) (steps : List CachedStep) (before : Cache) → Chained (new_cache capacity) steps before → (text : List ℕ) (now : ℕ) (r : KeptReply)
    → fresh_to text now before.kept ≡ Some r → IsKept steps text r.reply now []
kept_of capacity steps before chained text now r fresh =
    let f : IsFresh text now before.kept r = fresh_is text now before.kept r fresh in
    let came = kept_came_law capacity steps before chained text r (found_among text before.kept r f.there) in
    record {
      silent = refl;
      kept = r;
      same = refl;
      step = came.0;
      among = came.1;
      came = came.2;
      begun = f.begun;
      recent = f.recent;
      lasts = f.lasts;
    }

-- ---- what lets a request through

abbrev Means : List CachedStep → RsSetup → Message → ℕ → ℕ → List Exchange → Type 0
Means steps setup m now i exchanges =
    (reply : List ℕ) × (by : AllowedByReply setup m now i reply)
    × (IsIntrospected setup now (question_text setup by.route by.token) reply exchanges
    ⊎ IsKept steps (question_text setup by.route by.token) reply now exchanges)

-- what it takes, by a reply that was judged, whether it was asked for or not
by_judged : (setup : RsSetup) (m : Message) (now i j : ℕ) (route : Route) (token : Scheme × List ℕ) (reply : List ℕ) (answer : Guarded)
    → Presents setup m j route token → Judged setup m now j (route.right ∷ []) (Ok reply) answer → answer ≡ guarded.Allow i
    → (by : AllowedByReply setup m now i reply) × (question_text setup by.route by.token ≡ question_text setup route token)
by_judged setup m now i j route token reply answer presents judged is =
    let sent = has_request setup now (question_text setup route token) in
    let guards : Guards setup m now ((sent.0, Some reply) ∷ []) answer =
    asked j token presents.question route presents.route_is sent.0 sent.1 (Ok reply) answer judged in
    let x : IsAllowed setup m now i ((sent.0, Some reply) ∷ []) =
    allow_means_law setup m now i ((sent.0, Some reply) ∷ []) (subst (Guards setup m now ((sent.0, Some reply) ∷ [])) is guards) in
    let heads : ◌≡◌ {A = Exchange} (sent.0, Some reply) (x.introspected.request, Some x.reply) = same_head x.introspected.exchanged in
    let replies : ◌≡◌ {A = Option (List ℕ)} (Some reply) (Some x.reply) = ap (λ (e : Exchange). e.1) heads in
    let one : reply ≡ x.reply = cc in
    subst (λ (r : List ℕ). (by : AllowedByReply setup m now i r) × (question_text setup by.route by.token ≡ question_text setup route token)) (sym one)
    (x.by_reply, same_question setup m i j x.by_reply.route route x.by_reply.token token x.by_reply.presents presents)

by_kept : (capacity : ℕ) (steps : List CachedStep) (before : Cache) → Chained (new_cache capacity) steps before → (setup : RsSetup) (m : Message) (now i j : ℕ)
    (route : Route) (token : Scheme × List ℕ) (r : KeptReply) (answer : Guarded) → Presents setup m j route token
    → fresh_to (question_text setup route token) now before.kept ≡ Some r → Judged setup m now j (route.right ∷ []) (Ok r.reply) answer
    → answer ≡ guarded.Allow i → Means steps setup m now i []
by_kept capacity steps before chained setup m now i j route token r answer presents fresh judged is =
    let x = by_judged setup m now i j route token r.reply answer presents judged is in (
      r.reply,
      x.0,
      inr (subst (λ (t : List ℕ). IsKept steps t r.reply now []) (sym x.1)
          (kept_of capacity steps before chained (question_text setup route token) now r fresh)),
    )

by_caches : (setup : RsSetup) (m : Message) (now i capacity : ℕ) (steps : List CachedStep) (before after : Cache) → Chained (new_cache capacity) steps before
    → (exchanges : List Exchange) (answer : Guarded) → Caches setup m now before exchanges answer after → answer ≡ guarded.Allow i
    → Means steps setup m now i exchanges
by_caches setup m now i capacity steps before _ chained _ _ (at_once answer e) is = absurd (subst IsRefusal is (refusal setup.routes m answer e))
by_caches setup m now i capacity steps before _ chained _ _ starved is = absurd (cc)
by_caches setup m now i capacity steps before _ chained _ _ (again j route token presents r fresh answer judged) is =
    by_kept capacity steps before chained setup m now i j route token r answer presents fresh judged is
by_caches setup m now i capacity steps before _ chained _ _ (anew j route token presents none exchanges answer guards kept keeps) is =
    let x : IsAllowed setup m now i exchanges = allow_means_law setup m now i exchanges (subst (Guards setup m now exchanges) is guards) in
    (x.reply, x.by_reply, inl x.introspected)

pub cached_allow_means_law : CachedAllowMeans
cached_allow_means_law capacity steps before after chained setup m now i exchanges c =
    by_caches setup m now i capacity steps before after chained exchanges (guarded.Allow i) c refl

-- ---- whose answer it is

guard_by_caches : (setup : RsSetup) (m : Message) (now capacity : ℕ) (steps : List CachedStep) (before after : Cache)
    → Chained (new_cache capacity) steps before → (exchanges : List Exchange) (answer : Guarded) → Caches setup m now before exchanges answer after
    → Guards setup m now exchanges answer ⊎ AnswersByKept steps setup m now exchanges answer
guard_by_caches setup m now capacity steps before _ chained _ _ (at_once answer e) = inl (refused_guard answer e)
guard_by_caches setup m now capacity steps before _ chained _ _ starved = inl starved_guard
guard_by_caches setup m now capacity steps before _ chained _ _ (again i route token presents r fresh answer judged) =
    let sent = has_request setup now (question_text setup route token) in
    inr (record {
      place = i;
      route = route;
      token = token;
      presents = presents;
      reply = r.reply;
      kept = kept_of capacity steps before chained (question_text setup route token) now r fresh;
      request = sent.0;
      request_is = sent.1;
      guards = asked i token presents.question route presents.route_is sent.0 sent.1 (Ok r.reply) answer judged;
    })
guard_by_caches setup m now capacity steps before _ chained _ _ (anew i route token presents none exchanges answer guards kept keeps) = inl guards

pub cached_is_guard_law : CachedIsGuard
cached_is_guard_law capacity steps before after chained setup m now exchanges answer caches =
    guard_by_caches setup m now capacity steps before after chained exchanges answer caches

-- ---- how many are kept

fewer : (test : List ℕ → Bool) (kept : Kept) → length (remove_entry test kept) ≤ length kept
fewer test [] = omega arith
fewer test (e ∷ kept) = by (test e.0) (fewer test kept)
  where
    by : (b : Bool) → length (remove_entry test kept) ≤ length kept → length (cond b kept (e ∷ remove_entry test kept)) ≤ length (e ∷ kept)
    by true h = omega arith
    by false h = omega (arith, h)

one_fewer : (test : List ℕ → Bool) (kept : Kept) (o : Option (List ℕ × KeptReply)) → lookup_entry test kept ≡ o
    → length (option_map_or (λ e. e ∷ remove_entry test kept) o kept) ≤ length kept
one_fewer test kept None is = omega arith
one_fewer test [] (Some f) is = absurd (cc)
one_fewer test (e ∷ kept) (Some f) is = by (test e.0) is (one_fewer test kept (Some f))
  where
    by : (b : Bool) → cond b (Some e) (lookup_entry test kept) ≡ Some f
        → (lookup_entry test kept ≡ Some f → length (f ∷ remove_entry test kept) ≤ length kept)
        → length (f ∷ cond b kept (e ∷ remove_entry test kept)) ≤ length (e ∷ kept)
    by true h rest = omega arith
    by false h rest = let few = rest h in omega (arith, few)

taken : (n : ℕ) (kept : Kept) → length (take n kept) ≤ n
taken zero kept = omega arith
taken (suc n) [] = omega arith
taken (suc n) (e ∷ kept) = let rest = taken n kept in omega (arith, rest)

with_reply_few : (capacity : ℕ) (text : List ℕ) (r : KeptReply) (others : Kept) (b : Bool) → 1 ≤ capacity → length others ≤ capacity
    → length (if b then (text, r) ∷ take (capacity - 1) others else others) ≤ capacity
with_reply_few capacity text r others true some few = let rest = taken (capacity - 1) others in omega (arith, rest, some)
with_reply_few capacity text r others false some few = few

keeps_few : (capacity : ℕ) (text : List ℕ) (now : ℕ) (others : Kept) (exchanges : List Exchange) (answer : Guarded) (kept : Kept) → 1 ≤ capacity
    → length others ≤ capacity → Keeps capacity text now others exchanges answer kept → length kept ≤ capacity
keeps_few capacity text now others _ _ _ some few (allowed i request r moment access key says) = with_reply_few capacity text r others _ some few
keeps_few capacity text now others _ _ _ some few (not_allowed exchanges answer never) = few

record IsFew (capacity : ℕ) (c : Cache) : Type 0 where
  same : c.capacity ≡ capacity
  few : length c.kept ≤ capacity

step_few : (capacity : ℕ) → 1 ≤ capacity → (setup : RsSetup) (m : Message) (now : ℕ) (before after : Cache) (exchanges : List Exchange) (answer : Guarded)
    → Caches setup m now before exchanges answer after → IsFew capacity before → IsFew capacity after
step_few capacity some setup m now before _ _ _ (at_once answer e) f = f
step_few capacity some setup m now before _ _ _ starved f = f
step_few capacity some setup m now before _ _ _ (again i route token presents r fresh answer judged) f =
    let rest = one_fewer (bytes_eq (question_text setup route token)) before.kept _ refl in
    record { same = f.same; few = omega (arith, rest, f.few) }
step_few capacity some setup m now before _ _ _ (anew i route token presents none exchanges answer guards kept keeps) f =
    let rest = fewer (bytes_eq (question_text setup route token)) before.kept in
    record {
      same = f.same;
      few = keeps_few capacity (question_text setup route token) now (to_others (question_text setup route token) before.kept) exchanges answer kept some
          (omega (arith, rest, f.few))
          (subst (λ (c : ℕ). Keeps c (question_text setup route token) now (to_others (question_text setup route token) before.kept) exchanges answer kept)
          f.same keeps);
    }

steps_few : (capacity : ℕ) → 1 ≤ capacity → (steps : List CachedStep) (first last : Cache) → Chained first steps last → IsFew capacity first
    → IsFew capacity last
steps_few capacity some [] first last is f = subst (IsFew capacity) (sym is) f
steps_few capacity some (s ∷ steps) first last (begins, rest) f =
    steps_few capacity some steps s.after last rest
    (step_few capacity some s.setup s.message s.moment s.before s.after s.exchanges s.answer s.caches (subst (IsFew capacity) (sym begins) f))

pub kept_are_few_law : KeptAreFew
kept_are_few_law capacity steps last chained some =
    (steps_few capacity some steps (new_cache capacity) last chained (record { same = refl; few = omega arith })).few
