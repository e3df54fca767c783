use Rattle.std.proofs.Common.{◌≡◌, ◌∙◌, ℕ, ◌+◌, ◌-◌, sym, ap, arith}
use Rattle.std.specs.Prelude.{◌%◌}
use Rattle.gnap_model.specs.Values.{code_count, code_text, free_code}
use Rattle.table_core.specs.Entries.{supply, tables}
use Rattle.table_core.proofs.TakenCodes.{code_taken, passed_run}
use Rattle.table_core.proofs.asking.passed.Goals as goal

pub returns-clause-same : goal.returns-clause-same
returns-clause-same c =
    let number : ℕ = c.args.number in
    let past : ℕ = c.past_taken.result in
    let low = c.past_taken.ensures.low in
    let high = c.past_taken.ensures.high in
    let run : ℕ = past - number in
    let end : number + run ≡ past = omega (arith, low) in
    let taken = (supply c.args.entering.now).taken in (
      run,
      λ tries. passed_run run tries number taken (omega (arith, end, high)) (λ k le lt.
          sym (code_taken (code_text k) c.args.entering.now.supply.moment (tables c.args.entering.now).grants)
          ∙ c.past_taken.ensures.taken k le (omega (arith, end, lt)))
          ∙ ap (λ n. free_code tries (n % code_count) taken) end,
    )
