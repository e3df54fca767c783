-- That each nonce stands in its second, and what a sweep makes of the nonces.
use Rattle.std.proofs.Common.{◌≡◌, ◌≢◌, ◌∙◌, ℕ, ◌≤◌, ◌<◌, ◌==◌, Bool, true, false, true≢false, cond, ◌&&◌, ◌||◌, not, nat_le, List, refl, ap, sym, subst, arith, Option, Some, None, Result, Ok, Err, OnOk, OnErr, if◌then◌else◌, ◌⊎◌, inl, inr}
use Rattle.std.specs.Cmp.Derive.{both_true}
use Rattle.std.proofs.Math.Bool.{or-true}
use Rattle.std.proofs.Math.Logic.{∥∥₁_elim}
use Rattle.std.specs.Coded.{Coded-set, coded_ℕ}
use Rattle.std.specs.BTreeMap.{BTreeMap}
use Rattle.std.proofs.lemmas.Bool.{cases_Bool, lt-leb, leb-false, leb-true}
use Rattle.gnap_model.specs.Common.{same_text}
use Rattle.signed_calls.specs.Remembering.{is_live_at, IsSwept}
use Rattle.nonce_store.specs.declared.run.Run.{Run}
use Rattle.nonce_store.specs.Kept.{Keys, until_in, many_in, has, is_noted, AreOrdered, Covers, IsPopped, IsSweptInPart}
use Rattle.nonce_store.proofs.Under.{none_counted}

abbrev pub Seconds : Type 0
Seconds = BTreeMap ℕ Run

-- ---- a nonce more in a second

more_is : (known other : Bool) → known ≡ true → (known || other) ≡ true
more_is known other is = ap (λ b. b || other) is

covers_noted : (seconds new : Seconds) (keys : Keys) (end : ℕ) (key nonce : List ℕ) → Covers seconds keys
    → ((e : ℕ) (k n : List ℕ) → is_noted new e k n ≡ (is_noted seconds e k n || (end == e && (same_text key k && same_text nonce n)))) → Covers new keys
covers_noted seconds new keys end key nonce covers noted k n u is =
    noted u k n ∙ more_is (is_noted seconds u k n) (end == u && (same_text key k && same_text nonce n)) (covers k n u is)

covers_equal : (seconds new : Seconds) (keys after : Keys) → Covers seconds keys → ((e : ℕ) (k n : List ℕ) → is_noted new e k n ≡ is_noted seconds e k n)
    → ((k n : List ℕ) → until_in after k n ≡ until_in keys k n) → Covers new after
covers_equal seconds new keys after covers same untils k n u is = same u k n ∙ covers k n u (sym (untils k n) ∙ is)

pub noted : {A E : Type 0} (r : Result A E) (seconds new : Seconds) (keys : Keys) (end : ℕ) (key nonce : List ℕ) → Covers seconds keys
    → OnOk r ((e : ℕ) (k n : List ℕ) → is_noted new e k n ≡ (is_noted seconds e k n || (end == e && (same_text key k && same_text nonce n))))
    → OnErr r ((e : ℕ) (k n : List ℕ) → is_noted new e k n ≡ is_noted seconds e k n) → Covers new keys
noted (Ok x) seconds new keys end key nonce covers ok err = covers_noted seconds new keys end key nonce covers ok
noted (Err e) seconds new keys end key nonce covers ok err = covers_equal seconds new keys keys covers err (λ k n. refl)

some_is : (a b : ℕ) → Some a ≡ Some b → a ≡ b
some_is a b is = cc

self_eq : (n : ℕ) → (n == n) ≡ true
self_eq n = grind (arith)

covers_more : (seconds new : Seconds) (keys after : Keys) (key nonce : List ℕ) (end : ℕ) → Covers seconds keys
    → ((e : ℕ) (k n : List ℕ) → is_noted new e k n ≡ (is_noted seconds e k n || (end == e && (same_text key k && same_text nonce n))))
    → ((k n : List ℕ) → until_in after k n ≡ cond (same_text key k && same_text nonce n) (Some end) (until_in keys k n)) → Covers new after
covers_more seconds new keys after key nonce end covers noted put k n u is =
    by (same_text key k && same_text nonce n) refl (sym (put k n) ∙ is)
  where
    by : (b : Bool) → (same_text key k && same_text nonce n) ≡ b → cond b (Some end) (until_in keys k n) ≡ Some u → is_noted new u k n ≡ true
    by true t at =
        noted u k n
        ∙ ap (λ b. is_noted seconds u k n || b) (both_true (subst (λ e. (end == e) ≡ true) (some_is end u at) (self_eq end)) t)
        ∙ or-true (is_noted seconds u k n)
    by false t at = covers_noted seconds new keys end key nonce covers noted k n u at

pub put_in : {A E : Type 0} (r : Result A E) (seconds new : Seconds) (keys after : Keys) (key nonce : List ℕ) (end : ℕ) (Same : Type 0)
    → Covers seconds keys
    → ((e : ℕ) (k n : List ℕ) → is_noted new e k n ≡ (is_noted seconds e k n || (end == e && (same_text key k && same_text nonce n))))
    → OnOk r ((k n : List ℕ) → until_in after k n ≡ cond (same_text key k && same_text nonce n) (Some end) (until_in keys k n))
    → OnErr r (((k n : List ℕ) → until_in after k n ≡ until_in keys k n) × Same) → Covers new after
put_in (Ok x) seconds new keys after key nonce end Same covers noted ok err = covers_more seconds new keys after key nonce end covers noted ok
put_in (Err e) seconds new keys after key nonce end Same covers noted ok err =
    covers_equal new new keys after (covers_noted seconds new keys end key nonce covers noted) (λ e k n. refl) err.0

-- ---- nonces less

pub still : (b : Bool) (o : Option ℕ) (u : ℕ) → cond b None o ≡ Some u → o ≡ Some u
still true o u is = absurd cc
still false o u is = is

pub covers_less : (seconds : Seconds) (keys after : Keys) (gone : List ℕ → List ℕ → Bool) → Covers seconds keys
    → ((k n : List ℕ) → until_in after k n ≡ cond (gone k n) None (until_in keys k n)) → Covers seconds after
covers_less seconds keys after gone covers taken k n u is = covers k n u (still (gone k n) (until_in keys k n) u (sym (taken k n) ∙ is))

-- ---- the sweep

pub swept_none : (latest : ℕ) (keys : Keys) → IsSweptInPart latest keys keys
swept_none latest keys = record { stay = λ k n live. refl; were = λ k n u is. is; counts = λ m le. refl }

stays : (named live : Bool) (o : Option ℕ) → live ≡ true → cond (named && not live) None o ≡ o
stays true true o is = refl
stays false true o is = refl
stays named false o is = absurd (true≢false (sym is))

pub swept_more : (latest : ℕ) (before keys after : Keys) (run : Run) → IsSweptInPart latest before keys
    → ((k n : List ℕ) → until_in after k n ≡ cond (has run k n && not (is_live_at latest (until_in keys k n))) None (until_in keys k n))
    → ((m : ℕ) → latest ≤ m → many_in after m ≡ many_in keys m) → IsSweptInPart latest before after
swept_more latest before keys after run part taken counts = record {
  stay = λ k n live. taken k n ∙ stays (has run k n) (is_live_at latest (until_in keys k n)) (until_in keys k n)
      (ap (is_live_at latest) (part.stay k n live) ∙ live) ∙ part.stay k n live;
  were = λ k n u is. part.were k n u (still (has run k n && not (is_live_at latest (until_in keys k n))) (until_in keys k n) u (sym (taken k n) ∙ is));
  counts = λ m le. counts m le ∙ part.counts m le;
}

same_or_not : (a b : ℕ) → (a ≡ b) ⊎ (a ≢ b)
same_or_not a b = elim (cases_Bool (a == b)) [
  | inl is ↦ inl (grind (arith, is))
  | inr is ↦ inr (λ e. let t = self_eq b in true≢false (sym t ∙ sym (ap (λ x. x == b) e) ∙ is))
]

gone_row : (named live : Bool) (o : Option ℕ) (u : ℕ) → named ≡ true → live ≡ false → cond (named && not live) None o ≡ Some u → ⊥
gone_row true false o u n l is = absurd cc
gone_row true true o u n l is = true≢false l
gone_row false live o u n l is = true≢false (sym n)

pub covers_popped : (latest : ℕ) (seconds new : Seconds) (keys after : Keys) (run : Run) → Covers seconds keys → IsPopped latest seconds run new
    → ((k n : List ℕ) → until_in after k n ≡ cond (has run k n && not (is_live_at latest (until_in keys k n))) None (until_in keys k n))
    → Covers new after
covers_popped latest seconds new keys after run covers popped taken k n u is =
    let was : until_in keys k n ≡ Some u = still (has run k n && not (is_live_at latest (until_in keys k n))) (until_in keys k n) u (sym (taken k n) ∙ is) in
    elim (same_or_not u popped.second) [
      | inl here ↦
          let over = popped.over in
          let named : has run k n ≡ true = sym (popped.run_is k n) ∙ sym (ap (λ e. is_noted seconds e k n) here) ∙ covers k n u was in
          let dead : is_live_at latest (until_in keys k n) ≡ false = ap (is_live_at latest) was ∙ lt-leb latest u (omega (arith, here, over)) in
          absurd (gone_row (has run k n) (is_live_at latest (until_in keys k n)) (until_in keys k n) u named dead (sym (taken k n) ∙ is))
      | inr other ↦ popped.others u k n other ∙ covers k n u was
    ]

-- no second that is over is left
pub swept_whole : (latest : ℕ) (seconds : Seconds) (before keys : Keys) → Covers seconds keys → IsSweptInPart latest before keys
    → ((second : ℕ) (k n : List ℕ) → second < latest → is_noted seconds second k n ≡ false)
    → IsSwept (until_in before) (many_in before) latest (until_in keys) (many_in keys)
swept_whole latest seconds before keys covers part none = record {
  rows = λ k n. by k n (until_in before k n) refl (until_in keys k n) refl;
  counts = part.counts;
}
  where
    by : (k n : List ℕ) (o : Option ℕ) → until_in before k n ≡ o → (p : Option ℕ) → until_in keys k n ≡ p
        → until_in keys k n ≡ (if is_live_at latest (until_in before k n) then until_in before k n else None)
    by k n None was None is = is ∙ sym (ap (λ o. if is_live_at latest o then o else None) was)
    by k n None was (Some u) is = absurd (let there = part.were k n u is in let none : None ≡ Some u = sym was ∙ there in cc)
    by k n (Some e) was p is = elim (cases_Bool (nat_le latest e)) [
      | inl live ↦
          part.stay k n (ap (is_live_at latest) was ∙ live)
          ∙ sym (ap (λ b. if b then until_in before k n else None) (ap (is_live_at latest) was ∙ live))
      | inr over ↦ gone k n e was (leb-false latest e over) p is ∙ sym (ap (λ b. if b then until_in before k n else None) (ap (is_live_at latest) was ∙ over))
    ]
      where
        gone : (k n : List ℕ) (e : ℕ) → until_in before k n ≡ Some e → e < latest → (p : Option ℕ) → until_in keys k n ≡ p → until_in keys k n ≡ None
        gone k n e was late None is = is
        gone k n e was late (Some u) is =
            let there : until_in before k n ≡ Some u = part.were k n u is in
            let equal : e ≡ u = some_is e u (sym was ∙ there) in
            absurd (true≢false (sym (covers k n u is) ∙ none u k n (subst (λ x. x < latest) equal late)))

-- where all seconds that are left are over too, nothing is remembered any more
pub none_live : (latest : ℕ) (seconds rest : Seconds) (keys : Keys) (run : Run) → Covers seconds keys → IsPopped latest seconds run rest
    → ((second : ℕ) (k n : List ℕ) → latest ≤ second → is_noted rest second k n ≡ false)
    → (k n : List ℕ) → is_live_at latest (until_in keys k n) ≡ false
none_live latest seconds rest keys run covers popped over k n = by (until_in keys k n) refl
  where
    by : (o : Option ℕ) → until_in keys k n ≡ o → is_live_at latest o ≡ false
    by None is = refl
    by (Some u) is = elim (cases_Bool (nat_le latest u)) [
      | inl live ↦
          let le = leb-true latest u live in
          let early = popped.over in
          absurd (true≢false (sym (covers k n u is) ∙ sym (popped.others u k n (λ e. absurd (omega (arith, e, le, early)))) ∙ over u k n le))
      | inr dead ↦ dead
    ]

pub covers_none : (seconds : Seconds) (keys : Keys) → ((k n : List ℕ) → until_in keys k n ≡ None) → Covers seconds keys
covers_none seconds keys none k n u is = absurd (let nothing : None ≡ Some u = sym (none k n) ∙ is in cc)

pub swept_all : (latest : ℕ) (before keys after : Keys) → ∥ AreOrdered keys ∥₁ → IsSweptInPart latest before keys
    → ((k n : List ℕ) → is_live_at latest (until_in keys k n) ≡ false)
    → ((k n : List ℕ) → until_in after k n ≡ None) → ((m : ℕ) → many_in after m ≡ 0)
    → IsSwept (until_in before) (many_in before) latest (until_in after) (many_in after)
swept_all latest before keys after ordered part dead rows counts = record {
  rows = λ k n. rows k n ∙ sym (ap (λ b. if b then until_in before k n else None) (by k n (is_live_at latest (until_in before k n)) refl));
  counts = λ m le.
      counts m ∙ sym (∥∥₁_elim ordered (Coded-set coded_ℕ _ _) (λ are. none_counted keys latest m are le dead)) ∙ part.counts m le;
}
  where
    by : (k n : List ℕ) (b : Bool) → is_live_at latest (until_in before k n) ≡ b → is_live_at latest (until_in before k n) ≡ false
    by k n true live = ap (is_live_at latest) (sym (part.stay k n live)) ∙ dead k n
    by k n false is = is
