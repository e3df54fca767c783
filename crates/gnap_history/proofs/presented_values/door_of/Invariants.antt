use Rattle.std.proofs.Common.{◌≡◌, take, reverse}
use Rattle.std.specs.Prelude.{option_map}
use Rattle.gnap_model.specs.Standing.{door}
use Rattle.gnap_history.proofs.presented_values.door_of.Given as goal

abbrev pub invariant-loop-note : goal.invariant-loop-note
invariant-loop-note l = option_map (λ v. v.now) l.found ≡ door (reverse (take l.note-index l.notes)) l.grant
