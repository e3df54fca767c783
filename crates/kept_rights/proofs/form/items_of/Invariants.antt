use Rattle.std.proofs.Common.{◌≡◌, ◌-◌, ◌++◌}
use Rattle.kept_rights.specs.Reading.{items_at, read_as}
use Rattle.kept_rights.proofs.form.items_of.Given as goal

abbrev pub invariant-loop : goal.invariant-loop
invariant-loop g l = read_as (λ others. l.items ++ others) (items_at g.T.Form.read_at (l.n - l.counter) l.left) ≡ items_at g.T.Form.read_at l.n l.bytes
