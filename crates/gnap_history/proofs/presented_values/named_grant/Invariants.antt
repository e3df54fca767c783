use Rattle.std.proofs.Common.{◌≡◌, take, reverse}
use Rattle.std.specs.Prelude.{option_map}
use Rattle.gnap_model.specs.Common.{first_of}
use Rattle.gnap_model.specs.Standing.{named_in}
use Rattle.gnap_history.proofs.presented_values.named_grant.Given as goal

abbrev pub invariant-loop-note : goal.invariant-loop-note
invariant-loop-note l = option_map (λ o. o.now) l.found ≡ first_of (named_in (reverse l.notes) l.now l.value) (reverse (take l.note-index l.notes))
