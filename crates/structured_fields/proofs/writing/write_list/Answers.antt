use Rattle.structured_fields.proofs.Written.{list_text_is}
use Rattle.structured_fields.proofs.writing.write_list.Goals as goal

pub returns-clause-text : goal.returns-clause-text
returns-clause-text c = rw (c.in_ok-put_members.ensures, c.new-out.ensures) (list_text_is c.args.v.now c.requires)
