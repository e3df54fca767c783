use Rattle.std.proofs.Common.{◌+◌, arith}
use Rattle.std.proofs.lemmas.List.{length-drop}
use Rattle.kept_rights.proofs.LengthSteps.{passed, found, goes_on, ended}
use Rattle.kept_rights.proofs.lengths.length_of.Goals as goal
use Rattle.kept_rights.proofs.lengths.length_of.Goals.{then-rest-n-via-then-rest-n, then-rest-n-via-else-rest-n+then-rest-n-2}

pub returns-then-rest-n-clause-value : goal.returns-then-rest-n-clause-value
returns-then-rest-n-clause-value c =
    passed c.loop-i.n c.loop-i.i c.args.bytes.now (omega arith)
    (elim c.then-rest-n.branch [
      | then-rest-n-via-then-rest-n w ↦ omega (arith, length-drop (c.loop-i.i + 1) c.args.bytes.now)
      | then-rest-n-via-else-rest-n+then-rest-n-2 w ↦ omega (arith, length-drop (c.loop-i.i + 1) c.args.bytes.now)
    ])
    c.loop-i.invariant

pub returns-then-byte-lt255-clause-value : goal.returns-then-byte-lt255-clause-value
returns-then-byte-lt255-clause-value c =
    found c.loop-i.n c.loop-i.i c.args.bytes.now (omega arith) (omega arith) (omega (arith, length-drop (c.loop-i.i + 1) c.args.bytes.now)) c.loop-i.invariant

pub loop-i-preserved : goal.loop-i-preserved
loop-i-preserved c = goes_on c.loop-i.n c.loop-i.i c.args.bytes.now (omega arith) (omega arith) (omega (arith, length-drop (c.loop-i.i + 1) c.args.bytes.now))
    c.loop-i.invariant

pub returns-clause-value : goal.returns-clause-value
returns-clause-value c = ended c.loop-i.n c.loop-i.i c.args.bytes.now (omega arith) c.loop-i.invariant
