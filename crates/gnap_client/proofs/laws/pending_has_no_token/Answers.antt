use Rattle.gnap_client.proofs.Tokens.{pending_has_no_token_law}
use Rattle.gnap_client.proofs.laws.pending_has_no_token.Goals as goal

pub returns : goal.returns
returns c = pending_has_no_token_law
