use Rattle.std.proofs.Common.{arith}
use Rattle.structured_fields.specs.Grammar.{IsDictionaryText}
use Rattle.structured_fields.specs.Canonical.{IsDictionaryInRange}
use Rattle.structured_fields.specs.Reading.{dictionary_of}
use Rattle.structured_fields.proofs.Read.{found_by, only_by, range_by}
use Rattle.structured_fields.proofs.Whole.{dictionary_of_takes, dictionary_of_again}
use Rattle.structured_fields.proofs.Ranges.{dictionary_text_range}
use Rattle.structured_fields.proofs.reading.read_dictionary.Goals as goal

pub returns-clause-found : goal.returns-clause-found
returns-clause-found c = found_by dictionary_of IsDictionaryText dictionary_of_takes c.args.text.now c.whole_dictionary.result
    (λ i. omega (arith, c.type_inv.text i)) c.whole_dictionary.ensures

pub returns-clause-only : goal.returns-clause-only
returns-clause-only c = only_by dictionary_of IsDictionaryText dictionary_of_again c.args.text.now c.whole_dictionary.result c.whole_dictionary.ensures

pub returns-clause-range : goal.returns-clause-range
returns-clause-range c = range_by dictionary_of IsDictionaryText IsDictionaryInRange dictionary_text_range c.args.text.now c.whole_dictionary.result
    (returns-clause-found c)
