use Rattle.gnap_history.proofs.note_core.answer_call.Goals as goal

pub returns-in-Continue : goal.returns-in-Continue
returns-in-Continue c = rw c.in-Continue.is c.continue_grant.ensures

pub returns-in-Modify : goal.returns-in-Modify
returns-in-Modify c = rw (c.in-Modify.is, ← c.get-in-Modify.ensures) c.modify.ensures

pub returns-in-Cancel : goal.returns-in-Cancel
returns-in-Cancel c = rw c.in-Cancel.is c.cancel.ensures

pub returns-in-Rotate : goal.returns-in-Rotate
returns-in-Rotate c = rw c.in-Rotate.is c.rotate.ensures

pub returns-in-Revoke : goal.returns-in-Revoke
returns-in-Revoke c = rw c.in-Revoke.is c.revoke.ensures

pub returns-in-Introspect : goal.returns-in-Introspect
returns-in-Introspect c = rw c.in-Introspect.is c.introspect.ensures

pub returns-in-Look : goal.returns-in-Look
returns-in-Look c = rw c.in-Look.is c.look.ensures

pub returns-in-FindCode : goal.returns-in-FindCode
returns-in-FindCode c = rw c.in-FindCode.is c.find_code.ensures

pub returns-in-Decide : goal.returns-in-Decide
returns-in-Decide c = rw (c.in-Decide.is, ← c.get-in-Decide.ensures) c.decide.ensures
