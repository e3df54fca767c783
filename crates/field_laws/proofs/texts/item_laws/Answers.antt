use Rattle.structured_fields.specs.Grammar.{IsItemText}
use Rattle.structured_fields.specs.Canonical.{item_text, IsItemInRange}
use Rattle.structured_fields.specs.Reading.{item_of}
use Rattle.field_laws.proofs.TextLaws.{one_value, read_by, printed_by}
use Rattle.structured_fields.proofs.Whole.{item_of_takes, item_of_again}
use Rattle.structured_fields.proofs.Ranges.{item_text_range}
use Rattle.structured_fields.proofs.Written.{item_text_is}
use Rattle.field_laws.proofs.texts.item_laws.Goals as goal

pub returns-clause-one : goal.returns-clause-one
returns-clause-one c = one_value IsItemText item_of item_of_again

pub returns-clause-read : goal.returns-clause-read
returns-clause-read c = read_by IsItemText item_of item_of_again item_of_takes

pub returns-clause-range : goal.returns-clause-range
returns-clause-range c = record { range = item_text_range }

pub returns-clause-printed : goal.returns-clause-printed
returns-clause-printed c = printed_by IsItemText item_of item_of_again IsItemInRange item_text item_text_is
