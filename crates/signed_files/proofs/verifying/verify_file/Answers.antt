use Rattle.std.proofs.Common.{rules}
use Rattle.signed_files.proofs.Answers.{of_message, of_none, counts_none}
use Rattle.signed_files.proofs.verifying.verify_file.Goals as goal

pub returns-in_err-message-clause-answer : goal.returns-in_err-message-clause-answer
returns-in_err-message-clause-answer g c = λ rest known. of_none _ _ _ _ (c.in_err-message.ensures.message rest known) (search rules)

pub returns-clause-answer : goal.returns-clause-answer
returns-clause-answer g c = λ rest known. of_message _ _ c.in_ok-message.message c.verify_message.result (c.in_ok-message.ensures.message rest known)
    c.verify_message.ensures.answer

pub returns-clause-counts : goal.returns-clause-counts
returns-clause-counts g c = counts_none c.verify_message.result _ _ c.verify_message.ensures.unread c.in_ok-message.ensures.counts
