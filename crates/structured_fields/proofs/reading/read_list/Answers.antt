use Rattle.std.proofs.Common.{arith}
use Rattle.structured_fields.specs.Grammar.{IsListText}
use Rattle.structured_fields.specs.Canonical.{IsListInRange}
use Rattle.structured_fields.specs.Reading.{list_of}
use Rattle.structured_fields.proofs.Read.{found_by, only_by, range_by}
use Rattle.structured_fields.proofs.Whole.{list_of_takes, list_of_again}
use Rattle.structured_fields.proofs.Ranges.{list_text_range}
use Rattle.structured_fields.proofs.reading.read_list.Goals as goal

pub returns-clause-found : goal.returns-clause-found
returns-clause-found c = found_by list_of IsListText list_of_takes c.args.text.now c.whole_list.result (λ i. omega (arith, c.type_inv.text i))
    c.whole_list.ensures

pub returns-clause-only : goal.returns-clause-only
returns-clause-only c = only_by list_of IsListText list_of_again c.args.text.now c.whole_list.result c.whole_list.ensures

pub returns-clause-range : goal.returns-clause-range
returns-clause-range c = range_by list_of IsListText IsListInRange list_text_range c.args.text.now c.whole_list.result (returns-clause-found c)
