-- Workers that are made one after another, and taken apart again.
use Rattle.std.proofs.Common.{◌≡◌, ◌∙◌, ◌⊎◌, inl, inr, ⊎_elim, ℕ, zero, suc, ◌+◌, ◌<◌, List, [], ◌∷◌, ◌++◌, map, length, slice_index_or, refl, ap, sym, subst, arith, length-append, append_assoc}
use Rattle.std.specs.List.{remove}
use Rattle.std.proofs.lemmas.List.{map-append, length-map}
use mathlib.Core.Option.{some, some-injective, some-ne-none}
use lib.ListN.{get_elem?}
use Rattle.outside.specs.Outside.{Served}
use Rattle.outside.specs.Gears.{Log, GearState}
use Rattle.histories.specs.declared.entry.Entry.{Entry}
use Rattle.serving.specs.Logs.{IsAccount}
use Rattle.histories.specs.Turns.{Turn}
use Rattle.histories.specs.Whole.{own_of, AllKeep}
use Rattle.histories.proofs.WholeLemmas.{keep-append}
use Rattle.shared_server.specs.Passes.{Sharing}
use Rattle.serving.specs.Workers.{ArePlaced, accounts_of}

module _ {X : Type 0} where
  pub at_middle : (xs : List X) (x : X) (ys : List X) → get_elem? (xs ++ x ∷ ys) (length xs) ≡ some x
  at_middle [] x ys = refl
  at_middle (z ∷ xs) x ys = at_middle xs x ys

  pub at_end : (xs : List X) (a b : X) (k : ℕ) → get_elem? (xs ++ a ∷ []) k ≡ some b → (get_elem? xs k ≡ some b) ⊎ ((k ≡ length xs) × (a ≡ b))
  at_end [] a b zero e = inr (refl, some-injective a b e)
  at_end [] a b (suc k) e = absurd (some-ne-none b (sym e))
  at_end (x ∷ xs) a b zero e = inl e
  at_end (x ∷ xs) a b (suc k) e = ⊎_elim (λ p. inl p) (λ (p : (k ≡ length xs) × (a ≡ b)). inr (ap suc p.0, p.1)) (at_end xs a b k e)

  -- what holds at each place of a list, and at the place behind it
  pub each-next : (P : ℕ → X → Type 0) (xs : List X) (x : X) → ((k : ℕ) (y : X) → get_elem? xs k ≡ some y → P k y) → P (length xs) x
      → (k : ℕ) (y : X) → get_elem? (xs ++ x ∷ []) k ≡ some y → P k y
  each-next P xs x each next k y e = ⊎_elim
      (λ (p : get_elem? xs k ≡ some y). each k y p)
      (λ (p : (k ≡ length xs) × (x ≡ y)). subst (P k) p.1 (subst (λ j. P j x) (sym p.0) next))
      (at_end xs x y k e)

  -- the first of a list, and what is left of it
  pub first-taken : (xs ys : List X) (x : X) → 0 < length xs → x ≡ slice_index_or xs 0 x → ys ≡ remove xs 0 → xs ≡ x ∷ ys
  first-taken [] ys x more is left = absurd (omega (arith, more))
  first-taken (z ∷ xs) ys x more is left = ap (λ y. y ∷ xs) (sym is) ∙ ap (λ l. x ∷ l) (sym left)

  pub one-again : (xs : List X) (x : X) (ys : List X) → (xs ++ x ∷ []) ++ ys ≡ xs ++ x ∷ ys
  one-again xs x ys = append_assoc xs (x ∷ []) ys

  -- the place of the next one of those that are left
  pub next_at : (done rest rest_now whole : List X) (x : X) → done ++ rest ≡ whole → rest ≡ x ∷ rest_now → get_elem? whole (length done) ≡ some x
  next_at done rest rest_now whole x parts next = ap (λ l. get_elem? l (length done)) (sym parts ∙ ap (λ l. done ++ l) next) ∙ at_middle done x rest_now

  pub parts-next : (done rest rest_now whole : List X) (x : X) → done ++ rest ≡ whole → rest ≡ x ∷ rest_now → (done ++ x ∷ []) ++ rest_now ≡ whole
  parts-next done rest rest_now whole x parts next = one-again done x rest_now ∙ ap (λ l. done ++ l) (sym next) ∙ parts

  pub size-next : (done : List X) (x : X) → length (done ++ x ∷ []) ≡ length done + 1
  size-next done x = length-append done (x ∷ [])

pub none-placed : {Front Rules E : Type 0} (core : Sharing Rules) (front : Front) → ArePlaced {E = E} core front []
none-placed core front k w e = absurd (some-ne-none w (sym e))

pub made-next : {W G S : Type 0} (gear : W → S) (state : G → S) (workers : List W) (worker : W) (rest rest_now : List G) (g : G) (gears : List S)
    → map gear workers ++ map state rest ≡ gears → rest ≡ g ∷ rest_now → gear worker ≡ state g
    → map gear (workers ++ worker ∷ []) ++ map state rest_now ≡ gears
made-next gear state workers worker rest rest_now g gears made next is =
    ap (λ l. l ++ map state rest_now) (map-append gear workers (worker ∷ []))
    ∙ one-again (map gear workers) (gear worker) (map state rest_now)
    ∙ ap (λ s. map gear workers ++ s ∷ map state rest_now) is
    ∙ ap (λ l. map gear workers ++ map state l) (sym next) ∙ made

-- one more account
pub one-more-account : {Message Call Reply Note : Type 0} (account : Served → List (Turn Message (Entry Call Reply Note)) → Type 0) (gears : List GearState)
    (gear : GearState)
    (passes : List (List (Entry Call Reply Note))) (seen : List (Entry Call Reply Note)) (i : ℕ)
    → AllKeep i (accounts_of account gears) passes → IsAccount account gear.log (own_of (i + length passes) seen)
    → AllKeep i (accounts_of account (gears ++ gear ∷ [])) (passes ++ seen ∷ [])
one-more-account account gears gear passes seen i keeps whole =
    subst (λ l. AllKeep i l (passes ++ seen ∷ [])) (sym (accounts-append gears))
    (keep-append i (accounts_of account gears) passes (IsAccount account gear.log) seen keeps whole)
  where
    accounts-append : (gs : List GearState) → accounts_of account (gs ++ gear ∷ []) ≡ accounts_of account gs ++ IsAccount account gear.log ∷ []
    accounts-append [] = refl
    accounts-append (g ∷ gs) = ap (λ l. IsAccount account g.log ∷ l) (accounts-append gs)

pub account_as : {Front Message Call Reply Note : Type 0} (session : Front → Served → List (Turn Message (Entry Call Reply Note)) → Type 0)
    (front front' : Front) (log log' : Log) (n n' : ℕ) (seen : List (Entry Call Reply Note))
    → front ≡ front' → log ≡ log' → n ≡ n' → IsAccount (session front) log (own_of n seen) → IsAccount (session front') log' (own_of n' seen)
account_as session front front' log log' n n' seen same_front same_log same account =
    subst (λ r. IsAccount (session r) log' (own_of n' seen)) same_front
    (subst (λ l. IsAccount (session front) l (own_of n' seen)) same_log
    (subst (λ k. IsAccount (session front) log (own_of k seen)) same account))

pub map-next : {X Y : Type 0} (f : X → Y) (xs ys : List X) (x : X) → ys ≡ xs ++ x ∷ [] → map f ys ≡ map f xs ++ f x ∷ []
map-next f xs ys x is = ap (map f) is ∙ map-append f xs (x ∷ [])

-- one more gear and its pass
pub accounts-next : {Message Call Reply Note Gear Pass : Type 0} (account : Served → List (Turn Message (Entry Call Reply Note)) → Type 0)
    (state : Gear → GearState) (seen : Pass → List (Entry Call Reply Note)) (gears gears_now : List Gear) (gear : Gear)
    (passes passes_now : List Pass) (pass : Pass) → gears_now ≡ gears ++ gear ∷ [] → passes_now ≡ passes ++ pass ∷ []
    → AllKeep 0 (accounts_of account (map state gears)) (map seen passes)
    → IsAccount account (state gear).log (own_of (length passes) (seen pass))
    → AllKeep 0 (accounts_of account (map state gears_now)) (map seen passes_now)
accounts-next account state seen gears gears_now gear passes passes_now pass more_gears more_passes keeps whole =
    let place : length passes ≡ 0 + length (map seen passes) = (let size = length-map passes seen in omega (arith, size)) in
    subst (λ l. AllKeep 0 (accounts_of account l) (map seen passes_now)) (sym (map-next state gears gears_now gear more_gears))
    (subst (AllKeep 0 (accounts_of account (map state gears ++ state gear ∷ []))) (sym (map-next seen passes passes_now pass more_passes))
    (one-more-account account (map state gears) (state gear) (map seen passes) (seen pass) 0 keeps
    (subst (λ n. IsAccount account (state gear).log (own_of n (seen pass))) place whole)))
