use Rattle.gnap_client.proofs.Tokens.{tokens_are_counted_law}
use Rattle.gnap_client.proofs.laws.tokens_are_counted.Goals as goal

pub returns : goal.returns
returns c = tokens_are_counted_law
