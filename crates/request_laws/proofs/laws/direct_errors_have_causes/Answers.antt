use Rattle.request_laws.proofs.DirectErrors.{direct_errors_have_causes}
use Rattle.request_laws.proofs.laws.direct_errors_have_causes.Goals as goal

pub returns : goal.returns
returns c = direct_errors_have_causes
