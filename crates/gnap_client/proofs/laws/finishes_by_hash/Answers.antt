use Rattle.gnap_client.proofs.Hashes.{finishes_by_hash_law}
use Rattle.gnap_client.proofs.laws.finishes_by_hash.Goals as goal

pub returns : goal.returns
returns c = finishes_by_hash_law
