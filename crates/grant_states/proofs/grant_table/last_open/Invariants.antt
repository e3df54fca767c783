use Rattle.std.proofs.Common.{take}
use Rattle.std.specs.Prelude.{option_map}
use Rattle.grant_states.specs.Grants.{open_numbered, IsLatest}
use Rattle.grant_states.proofs.grant_table.last_open.Given as goal

abbrev pub invariant-loop-one : goal.invariant-loop-one
invariant-loop-one l = IsLatest (open_numbered l.places l.now l.name) (take l.one-index l.listed) (option_map (λ row. row.now) l.found)
