-- Grants and the names of their rounds.
use Rattle.std.proofs.Common.{◌≡◌, ℕ, Bool, true, false, List, [], ◌∷◌, reverse, refl, Option, Some, None}
use Rattle.std.specs.Prelude.{not, ◌&&◌, ◌==◌, nat_le, if◌then◌else◌}
use Rattle.std.specs.List.{list_any}
use Rattle.std.specs.Option.{option_or, option_and_then}
use Rattle.std.proofs.lemmas.Bool.{or_parts, eqb-true}
use Rattle.gnap_model.specs.Common.{first_of, some_if}
use Rattle.gnap_model.specs.Standing.{StateChange, GrantState, state_change_in, state_after, grant_state, live_round}
use Rattle.gnap_model.specs.Standing.StateChange.{ToPending, ToApproved}
use Rattle.gnap_model.specs.Standing.GrantState.{IsPending, IsFinalized}
use Rattle.gnap_model.specs.declared.notes.Note.{Note}
use Rattle.gnap_model.specs.declared.notes.Note.TheVariants.{Opened, Terms, Approved, Issued, Door, Pended, DecidedAs, Finalized, Wrong, Retired}
use Rattle.gnap_model.specs.declared.notes.RoundNote.{RoundNote}
use Rattle.gnap_history.specs.Interactions.{round_where, is_round_elsewhere}
use Rattle.gnap_history.proofs.Holders.{not_held, none-reverse}

-- the change begins a round that passes the test
abbrev begins_where : (RoundNote → Bool) → Option StateChange → Bool
begins_where test (Some (ToPending r)) = test r
begins_where test (Some ToApproved) = false
begins_where test None = false

other_change : (trail : List Note) (g h : ℕ) (test : RoundNote → Bool) → list_any (is_round_elsewhere g test) trail ≡ false → (h == g) ≡ false
    → begins_where test (first_of (state_change_in h) trail) ≡ false
other_change [] g h test none other = refl
other_change (Pended r ∷ trail) g h test none other =
    let parts = or_parts (test r && not (r.grant == g)) (list_any (is_round_elsewhere g test) trail) none in
    step (r.grant == h) (λ same. not_held (test r) (r.grant == g) parts.0 (let is = eqb-true r.grant h same in rw is other))
    (other_change trail g h test parts.1 other)
  where
    step : (b : Bool) → (b ≡ true → test r ≡ false) → begins_where test (first_of (state_change_in h) trail) ≡ false
        → begins_where test (option_or (some_if b (ToPending r)) (first_of (state_change_in h) trail)) ≡ false
    step true here rest = here refl
    step false here rest = rest
other_change (Approved k consent ∷ trail) g h test none other = step (k == h) (other_change trail g h test none other)
  where
    step : (b : Bool) → begins_where test (first_of (state_change_in h) trail) ≡ false
        → begins_where test (option_or (some_if b ToApproved) (first_of (state_change_in h) trail)) ≡ false
    step true rest = refl
    step false rest = rest
other_change (Opened o ∷ trail) g h test none other = other_change trail g h test none other
other_change (Terms t ∷ trail) g h test none other = other_change trail g h test none other
other_change (Issued t ∷ trail) g h test none other = other_change trail g h test none other
other_change (Door k value earliest ∷ trail) g h test none other = other_change trail g h test none other
other_change (DecidedAs d ∷ trail) g h test none other = other_change trail g h test none other
other_change (Finalized k ∷ trail) g h test none other = other_change trail g h test none other
other_change (Wrong k ∷ trail) g h test none other = other_change trail g h test none other
other_change (Retired s why ∷ trail) g h test none other = other_change trail g h test none other

-- a grant whose last change begins no round that passes the test has no such live round
none_after : (trail : List Note) (now : ℕ) (test : RoundNote → Bool) (change : Option StateChange) → begins_where test change ≡ false
    → option_and_then (round_where test) (live_round trail now (state_after change now)) ≡ None
none_after trail now test None fails = refl
none_after trail now test (Some ToApproved) fails = refl
none_after trail now test (Some (ToPending r)) fails = step (nat_le r.over now)
  where
    kept : (b : Bool) → option_and_then (round_where test) (some_if b r) ≡ None
    kept true = rw fails refl
    kept false = refl

    step : (b : Bool) → option_and_then (round_where test) (live_round trail now (if b then IsFinalized else IsPending r)) ≡ None
    step true = refl
    step false = kept _

none_now : (trail : List Note) (now : ℕ) (test : RoundNote → Bool) (over : Bool) (state : GrantState)
    → option_and_then (round_where test) (live_round trail now state) ≡ None
    → option_and_then (round_where test) (live_round trail now (if over then IsFinalized else state)) ≡ None
none_now trail now test true state none = refl
none_now trail now test false state none = none

-- Where no grant but one had a round that passes the test, none is another grant's live round.
pub no_round_of_another : (notes : List Note) (now g h : ℕ) (test : RoundNote → Bool) → list_any (is_round_elsewhere g test) notes ≡ false → (h == g) ≡ false
    → option_and_then (round_where test) (live_round (reverse notes) now (grant_state (reverse notes) h now)) ≡ None
no_round_of_another notes now g h test none other =
    none_now (reverse notes) now test _ _
    (none_after (reverse notes) now test (first_of (state_change_in h) (reverse notes))
    (other_change (reverse notes) g h test (none-reverse (is_round_elsewhere g test) notes none) other))
