use Rattle.std.proofs.Common.{◌≡◌, take, reverse}
use Rattle.std.specs.Option.{unwrap_or}
use Rattle.gnap_model.specs.Common.{first_of}
use Rattle.gnap_history.specs.Holders.{holder_in}
use Rattle.gnap_history.proofs.presented_values.last_holder.Given as goal

abbrev pub invariant-loop-note : goal.invariant-loop-note
invariant-loop-note l = l.found ≡ unwrap_or (first_of (holder_in l.value) (reverse (take l.note-index l.notes))) 0
