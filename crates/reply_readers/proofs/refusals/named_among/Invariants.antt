use Rattle.std.proofs.Common.{◌≡◌, drop}
use Rattle.std.specs.List.{find}
use Rattle.reply_readers.specs.Grants.{is_code}
use Rattle.reply_readers.proofs.refusals.named_among.Given as goal

abbrev pub invariant-loop-code : goal.invariant-loop-code
invariant-loop-code l = find (is_code l.text) (drop l.code-index l.codes) ≡ find (is_code l.text) l.codes
