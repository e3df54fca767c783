use Rattle.std.proofs.Common.{◌≡◌, ◌++◌, length, take}
use Rattle.std.specs.List.{flat_map}
use Rattle.kept_rights.specs.Written.{written_length}
use Rattle.kept_rights.proofs.form.SeqForm.put.Given as goal

abbrev pub invariant-loop-item : goal.invariant-loop-item
invariant-loop-item g l = l.bytes ≡ (l.fn.bytes ++ written_length (length l.self)) ++ flat_map g.T.Form.written (take l.item-index l.self)
