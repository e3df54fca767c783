use Rattle.derivation_requests.proofs.Derivations.{are_pairs}
use Rattle.derivation_requests.proofs.pair_reading.read_pairs.Goals as goal

pub returns-clause-pairs : goal.returns-clause-pairs
returns-clause-pairs c = are_pairs c.args.setup.now c.args.text.now c.pairs_of.result c.pairs_of.ensures.value c.pairs_of.ensures.fits
