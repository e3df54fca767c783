use Rattle.derivation_requests.proofs.Derivations.{paired_utf8}
use Rattle.derivation_requests.proofs.derive_calls.server_of.Goals as goal

pub returns-clause-utf8 : goal.returns-clause-utf8
returns-clause-utf8 c = paired_utf8 (λ server. server.now) c.args.pairs.now c.as_slice.result.now c.server_of.result c.server_of.ensures c.requires
