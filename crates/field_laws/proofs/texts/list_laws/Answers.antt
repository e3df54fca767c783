use Rattle.structured_fields.specs.Grammar.{IsListText}
use Rattle.structured_fields.specs.Canonical.{list_text, IsListInRange}
use Rattle.structured_fields.specs.Reading.{list_of}
use Rattle.field_laws.proofs.TextLaws.{one_value, read_by, printed_by}
use Rattle.structured_fields.proofs.Whole.{list_of_takes, list_of_again}
use Rattle.structured_fields.proofs.Ranges.{list_text_range}
use Rattle.structured_fields.proofs.Written.{list_text_is}
use Rattle.field_laws.proofs.texts.list_laws.Goals as goal

pub returns-clause-one : goal.returns-clause-one
returns-clause-one c = one_value IsListText list_of list_of_again

pub returns-clause-read : goal.returns-clause-read
returns-clause-read c = read_by IsListText list_of list_of_again list_of_takes

pub returns-clause-range : goal.returns-clause-range
returns-clause-range c = record { range = list_text_range }

pub returns-clause-printed : goal.returns-clause-printed
returns-clause-printed c = printed_by IsListText list_of list_of_again IsListInRange list_text list_text_is
