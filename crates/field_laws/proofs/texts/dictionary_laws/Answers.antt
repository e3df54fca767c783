use Rattle.structured_fields.specs.Grammar.{IsDictionaryText}
use Rattle.structured_fields.specs.Canonical.{dictionary_text, IsDictionaryInRange}
use Rattle.structured_fields.specs.Reading.{dictionary_of}
use Rattle.field_laws.proofs.TextLaws.{one_value, read_by, printed_by}
use Rattle.structured_fields.proofs.Whole.{dictionary_of_takes, dictionary_of_again}
use Rattle.structured_fields.proofs.Ranges.{dictionary_text_range}
use Rattle.structured_fields.proofs.Written.{dictionary_text_is}
use Rattle.field_laws.proofs.texts.dictionary_laws.Goals as goal

pub returns-clause-one : goal.returns-clause-one
returns-clause-one c = one_value IsDictionaryText dictionary_of dictionary_of_again

pub returns-clause-read : goal.returns-clause-read
returns-clause-read c = read_by IsDictionaryText dictionary_of dictionary_of_again dictionary_of_takes

pub returns-clause-range : goal.returns-clause-range
returns-clause-range c = record { range = dictionary_text_range }

pub returns-clause-printed : goal.returns-clause-printed
returns-clause-printed c = printed_by IsDictionaryText dictionary_of dictionary_of_again IsDictionaryInRange dictionary_text dictionary_text_is
