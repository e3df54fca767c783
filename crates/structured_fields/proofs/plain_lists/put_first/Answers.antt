use Rattle.std.proofs.Common.{rules, ◌≡◌, length, get_or}
use Rattle.structured_fields.specs.Named.{with_value}
use Rattle.structured_fields.proofs.PlainLists.{opened, param_put, params_fit}
use Rattle.structured_fields.proofs.plain_lists.put_first.Goals as goal

pub returns : goal.returns
returns c =
    let set : c.set.new.self ≡ with_value c.args.params.now c.in_ok-name.name.now c.in_ok-value.value = search rules in
    let more : length c.set.new.self ≡ length c.args.params.now → ⊥ = search rules in
    let begins : get_or c.args.text.now 0 0 ≡ 59 = search rules in
    let key = c.in_ok-name.ensures in
    let value = c.in_ok-value.ensures in (
      param_put c.args.params.now c.set.new.self c.in_ok-name.name.now c.in_ok-value.value set more c.args.text.now _ c.in_ok-name.after.now
          c.in_ok-value.rest.now (opened 59 c.args.text.now c.in-59.len_at_least begins) key.0 value.0,
      params_fit c.args.params.now c.set.new.self c.in_ok-name.name.now c.in_ok-value.value set more key.1 value.1,
      c.len.ensures.distinct,
    )
