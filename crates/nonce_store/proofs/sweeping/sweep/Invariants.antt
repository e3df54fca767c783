use Rattle.std.specs.BTreeMap.{btree_map_len}
use Rattle.nonce_store.specs.Kept.{Covers, IsSweptInPart}
use Rattle.nonce_store.proofs.sweeping.sweep.Given as goal

abbrev pub invariant-loop-run : goal.invariant-loop-run
invariant-loop-run l = Covers l.seconds l.kept.keys × IsSweptInPart l.latest l.fn.kept.keys l.kept.keys

abbrev pub decreases-loop-run : goal.decreases-loop-run
decreases-loop-run l = btree_map_len l.seconds
