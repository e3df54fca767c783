use Rattle.std.proofs.Common.{◌≡◌, ◌∙◌, ℕ, ◌+◌, ◌<◌, ◌≤◌, Bool, true, false, ◌&&◌, ◌||◌, if◌then◌else◌, not, List, length, get_or, take, refl, ap, sym, subst, Option, None}
use Rattle.std.specs.List.{list_any, slice_range}
use Rattle.std.proofs.lemmas.List.{take_all}
use Rattle.std.proofs.lemmas.List.Folds.{list_any_more}
use Rattle.gnap_model.specs.Common.{same_text}
use Rattle.signed_calls.specs.Remembering.{is_live_at}
use Rattle.nonce_store.specs.declared.run.Place.{Place}
use Rattle.nonce_store.specs.Places.{is_at}
use Rattle.nonce_store.specs.Kept.{until_in}
use Rattle.nonce_store.proofs.sweeping.take_over.Goals as goal

-- what is taken out twice, where a test holds that fails of none
taken_twice : (live : Option ℕ → Bool) (until : Option ℕ) (a b l : Bool) → live None ≡ false → live until ≡ l
    → (if b && not (live (if a && not l then None else until)) then None else (if a && not l then None else until)) ≡ (if (a || b) && not l then None else until)
taken_twice live until false false l none is = refl
taken_twice live until false true l none is = ap (λ x. if not x then None else until) is
taken_twice live until true false l none is = refl
taken_twice live until true true true none is = ap (λ x. if not x then None else until) is
taken_twice live until true true false none is = rw none refl

-- one more place was passed
passed_one : (latest : ℕ) (texts : List ℕ) (places items : List Place) (i : ℕ) (d : Place) (key nonce k n : List ℕ) (until was next : Option ℕ)
    → items ≡ places → i < length items → key ≡ slice_range texts (get_or items i d).start (get_or items i d).middle
    → nonce ≡ slice_range texts (get_or items i d).middle (get_or items i d).end
    → was ≡ (if list_any (is_at texts k n) (take i places) && not (is_live_at latest until) then None else until)
    → next ≡ (if (same_text key k && same_text nonce n) && not (is_live_at latest was) then None else was)
    → next ≡ (if list_any (is_at texts k n) (take (i + 1) places) && not (is_live_at latest until) then None else until)
passed_one latest texts places items i d key nonce k n until was next same inside key_is nonce_is before after =
    let here : (same_text key k && same_text nonce n) ≡ is_at texts k n (get_or places i d) =
    ap (λ (t : List ℕ). same_text t k && same_text nonce n) key_is
    ∙ ap (λ (t : List ℕ). same_text (slice_range texts (get_or items i d).start (get_or items i d).middle) k && same_text t n) nonce_is
    ∙ ap (λ (ps : List Place). is_at texts k n (get_or ps i d)) same in
    after ∙ ap (λ b. if b && not (is_live_at latest was) then None else was) here
    ∙ ap (λ (o : Option ℕ). if is_at texts k n (get_or places i d) && not (is_live_at latest o) then None else o) before
    ∙ taken_twice (is_live_at latest) until (list_any (is_at texts k n) (take i places)) (is_at texts k n (get_or places i d)) (is_live_at latest until) refl refl
    ∙ ap (λ b. if b && not (is_live_at latest until) then None else until)
    (sym (list_any_more (is_at texts k n) places i d (subst (λ (ps : List Place). i < length ps) same inside)))

pub loop-place-init : goal.loop-place-init
loop-place-init c = (λ k n. refl, λ m le. refl)

pub loop-place-preserved : goal.loop-place-preserved
loop-place-preserved c = (
  λ k n. passed_one c.args.latest c.args.run.now.texts.items c.args.run.now.places.items c.places-place-items.result.now c.loop-place.place-index _
      c.key.result.now c.nonce.result.now k n (until_in c.args.kept.now.keys k n) (until_in c.loop-place.kept.keys k n)
      (until_in c.take_if_over.new.self.keys k n) c.places-place-items.ensures c.loop-place-test.true c.key.ensures c.nonce.ensures
      (c.loop-place.invariant.0 k n) (c.take_if_over.ensures.rows k n),
  λ m le. c.take_if_over.ensures.counts m le ∙ c.loop-place.invariant.1 m le,
)

pub returns-clause-rows : goal.returns-clause-rows
returns-clause-rows c = λ k n. c.loop-place.invariant.0 k n
    ∙ ap (λ (ps : List Place). if list_any (is_at c.args.run.now.texts.items k n) ps && not (is_live_at c.args.latest (until_in c.args.kept.now.keys k n))
    then None else until_in c.args.kept.now.keys k n)
    (take_all c.loop-place.place-index c.args.run.now.places.items
    (subst (λ (ps : List Place). length ps ≤ c.loop-place.place-index) c.places-place-items.ensures c.loop-place-test.false))
