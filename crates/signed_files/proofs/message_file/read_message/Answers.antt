use Rattle.signed_files.proofs.ReadMessages.{fault_read, none_read, held_behind, came_behind, alone}
use Rattle.signed_files.proofs.message_file.read_message.Goals as goal

pub returns-in-Err-clause-message : goal.returns-in-Err-clause-message
returns-in-Err-clause-message g c = λ rest known.
    fault_read _ _ _ _ c.new-held.ensures c.requires.fresh c.refusal_stays.ensures c.in-Err.fault c.in-Err.ensures.next _ c.edge_fault.ensures rest known

pub returns-in-Ok-None-clause-message : goal.returns-in-Ok-None-clause-message
returns-in-Ok-None-clause-message g c = λ rest known.
    none_read _ _ _ _ c.new-held.ensures c.requires.fresh _ c.in-Ok-None.field-0-is c.in-Ok-None.ensures.next rest known

pub returns-then-not-is_empty-clause-message : goal.returns-then-not-is_empty-clause-message
returns-then-not-is_empty-clause-message g c = λ rest known.
    held_behind _ _ _ _ c.new-held.ensures c.requires.fresh c.message_stays.ensures _ _ c.in-Ok-Some.field-0-is c.in-Ok-Some.ensures.next
    _ c.is_empty.ensures c.if-not-is_empty.true rest

pub returns-in-Ok-true-clause-message : goal.returns-in-Ok-true-clause-message
returns-in-Ok-true-clause-message g c = λ rest known.
    came_behind _ _ _ _ c.new-held.ensures c.requires.fresh c.message_stays.ensures _ _ c.in-Ok-Some.field-0-is c.in-Ok-Some.ensures.next
    _ c.is_empty.ensures c.if-not-is_empty.false _ _ c.in-Ok-true.field-0-test c.in-Ok-true.ensures.told rest

pub returns-in-Ok-false-clause-message : goal.returns-in-Ok-false-clause-message
returns-in-Ok-false-clause-message g c = λ rest known.
    alone _ _ _ _ c.new-held.ensures c.requires.fresh c.message_stays.ensures _ _ c.in-Ok-Some.field-0-is c.in-Ok-Some.ensures.next
    _ c.is_empty.ensures c.if-not-is_empty.false _ _ c.in-Ok-false.field-0-test c.in-Ok-false.ensures.told rest known
