use Rattle.std.proofs.Common.{arith}
use Rattle.structured_fields.specs.Grammar.{IsItemText}
use Rattle.structured_fields.specs.Canonical.{IsItemInRange}
use Rattle.structured_fields.specs.Reading.{item_of}
use Rattle.structured_fields.proofs.Read.{found_by, only_by, range_by}
use Rattle.structured_fields.proofs.Whole.{item_of_takes, item_of_again}
use Rattle.structured_fields.proofs.Ranges.{item_text_range}
use Rattle.structured_fields.proofs.reading.read_item.Goals as goal

pub returns-clause-found : goal.returns-clause-found
returns-clause-found c = found_by item_of IsItemText item_of_takes c.args.text.now c.whole_item.result (λ i. omega (arith, c.type_inv.text i))
    c.whole_item.ensures

pub returns-clause-only : goal.returns-clause-only
returns-clause-only c = only_by item_of IsItemText item_of_again c.args.text.now c.whole_item.result c.whole_item.ensures

pub returns-clause-range : goal.returns-clause-range
returns-clause-range c = range_by item_of IsItemText IsItemInRange item_text_range c.args.text.now c.whole_item.result (returns-clause-found c)
