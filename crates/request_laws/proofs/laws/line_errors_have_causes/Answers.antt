use Rattle.request_laws.proofs.LineErrors.{line_errors_have_causes}
use Rattle.request_laws.proofs.laws.line_errors_have_causes.Goals as goal

pub returns : goal.returns
returns c = line_errors_have_causes
