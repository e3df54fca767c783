use Rattle.std.proofs.Common.{◌≡◌, ◌≤◌, take}
use Rattle.std.specs.List.{count_by}
use Rattle.token_manager.specs.Tokens.{is_lasting}
use Rattle.token_manager.proofs.token_table.lasting_count.Given as goal

abbrev pub invariant-loop-place : goal.invariant-loop-place
invariant-loop-place l = (l.count ≡ count_by (is_lasting l.moment) (take l.place-index l.places)) × (l.count ≤ l.place-index)
