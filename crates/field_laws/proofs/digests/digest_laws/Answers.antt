use Rattle.content_digest.proofs.Judging.{checked_says, says_checked}
use Rattle.content_digest.proofs.DigestLine.{line_fits}
use Rattle.field_laws.proofs.digests.digest_laws.Goals as goal

pub returns-clause-answered : goal.returns-clause-answered
returns-clause-answered c = record
    { says = λ field body fits. checked_says field body fits; only = λ field body answer fits s. says_checked field body answer fits s }

pub returns-clause-line : goal.returns-clause-line
returns-clause-line c = λ body. line_fits body
