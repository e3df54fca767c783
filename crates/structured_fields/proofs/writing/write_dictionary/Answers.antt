use Rattle.structured_fields.proofs.Written.{dictionary_text_is}
use Rattle.structured_fields.proofs.writing.write_dictionary.Goals as goal

pub returns-clause-text : goal.returns-clause-text
returns-clause-text c = rw (c.in_ok-put_entries.ensures, c.new-out.ensures) (dictionary_text_is c.args.v.now c.requires)
