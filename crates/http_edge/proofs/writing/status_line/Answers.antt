use Rattle.std.proofs.Common.{sym, ap}
use Rattle.http_edge.specs.Replies.{status_line}
use Rattle.http_edge.proofs.writing.status_line.Goals as goal

pub returns-in-200 : goal.returns-in-200
returns-in-200 c = sym (ap status_line c.in-200.is)

pub returns-in-204 : goal.returns-in-204
returns-in-204 c = sym (ap status_line c.in-204.is)

pub returns-in-400 : goal.returns-in-400
returns-in-400 c = sym (ap status_line c.in-400.is)

pub returns-in-401 : goal.returns-in-401
returns-in-401 c = sym (ap status_line c.in-401.is)

pub returns-in-403 : goal.returns-in-403
returns-in-403 c = sym (ap status_line c.in-403.is)

pub returns-in-404 : goal.returns-in-404
returns-in-404 c = sym (ap status_line c.in-404.is)

pub returns-in-405 : goal.returns-in-405
returns-in-405 c = sym (ap status_line c.in-405.is)

pub returns-in-413 : goal.returns-in-413
returns-in-413 c = sym (ap status_line c.in-413.is)

pub returns-in-501 : goal.returns-in-501
returns-in-501 c = sym (ap status_line c.in-501.is)

pub returns-in-502 : goal.returns-in-502
returns-in-502 c = sym (ap status_line c.in-502.is)

pub returns-in-503 : goal.returns-in-503
returns-in-503 c = sym (ap status_line c.in-503.is)
