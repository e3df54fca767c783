use Rattle.gnap_client.proofs.Tokens.{tokens_are_last_law}
use Rattle.gnap_client.proofs.laws.tokens_are_last.Goals as goal

pub returns : goal.returns
returns c = tokens_are_last_law
