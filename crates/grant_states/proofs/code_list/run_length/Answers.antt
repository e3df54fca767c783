use Rattle.std.proofs.Common.{◌∙◌, ◌+◌, ◌-◌, ◌/◌, ℕ, Option, ap, arith, sym}
use Rattle.std.specs.Prelude.{is_some, slice_get}
use Rattle.grant_states.proofs.CodeLists.{at_key, number_there, run_there}
use Rattle.grant_states.proofs.code_list.run_length.Goals as goal

pub loop-run-init : goal.loop-run-init
loop-run-init c = record {
  ordered = omega arith;
  within = omega arith;
  there = λ k le lt. absurd (omega (arith, le, lt));
}

pub loop-run-preserved-then-is_some : goal.loop-run-preserved-then-is_some
loop-run-preserved-then-is_some c =
    let middle : ℕ = c.loop-run.run + (c.loop-run.end - c.loop-run.run) / 2 in
    let t = at_key c.args.items.now middle (c.args.key + middle)
    (sym (sym c.is_some.ensures ∙ c.if-is_some.true) ∙ ap (λ (o : Option ℕ). is_some o) c.number_at.ensures
    ∙ number_there (c.args.key + middle) (slice_get c.args.items.now middle)) in
    record {
      ordered = omega (arith, c.loop-run-test.true);
      within = c.loop-run.invariant.within;
      there = λ k le lt. run_there c.args.items.now c.args.key middle t.1 c.requires.ascend c.requires.from t.0 t.2 k le lt;
    }

pub loop-run-preserved : goal.loop-run-preserved
loop-run-preserved c = record {
  ordered = omega (arith, c.loop-run-test.true);
  within = omega (arith, c.loop-run-test.true, c.loop-run.invariant.within);
  there = c.loop-run.invariant.there;
}
