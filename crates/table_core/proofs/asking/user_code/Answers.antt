use Rattle.std.proofs.Common.{◌≡◌, ◌∙◌, ◌<◌, ◌+◌, ◌-◌, ◌%◌, ℕ, suc, true, false, length, sym, ap, arith, rules}
use Rattle.std.specs.Prelude.{slice_index}
use Rattle.std.specs.List.{list_any}
use Rattle.std.proofs.Math.Nat.{mod-eq_of_lt, mod-lt}
use Rattle.gnap_model.specs.Common.{same_text}
use Rattle.gnap_model.specs.Values.{code_count, code_text, free_code}
use Rattle.grant_rules.proofs.UserCodes.{free_code-free, free_code-mod, free_code-taken}
use Rattle.table_core.specs.Entries.{supply, tables}
use Rattle.table_core.proofs.TakenCodes.{enough_tries}
use Rattle.table_core.proofs.asking.user_code.Goals as goal

pub loop-init : goal.loop-init
loop-init c =
    let taken = (supply c.args.entering.now).taken in
    let rows = (tables c.args.entering.now).grants in
    let grants = length rows in
    let number = slice_index c.args.entering.now.supply.words.now 47 in
    let many = c.len-grants.ensures in
    let most = c.if-grants-ge-CODE_COUNT.false in
    let few : length rows < code_count = omega (arith, many, most) in
    let all : grants - 0 ≡ grants = omega arith in
    let one : ℕ = c.passed-first.ensures.same.0 in
    let two : ℕ = c.passed-tried.ensures.same.0 in
    record {
      in_circle = c.passed-tried.ensures.within;
      same =
          ap (λ n. free_code n c.passed-tried.result taken) all ∙ sym (c.passed-tried.ensures.same.1 grants)
          ∙ sym (c.passed-first.ensures.same.1 (two + grants))
          ∙ ap (λ w. free_code (one + (two + grants)) (w % code_count) taken) c.word.ensures
          ∙ free_code-mod (one + (two + grants)) number taken
          ∙ enough_tries (one + (two + grants)) number c.args.entering.now.supply.moment rows (omega arith) few;
    }

pub loop-preserved : goal.loop-preserved
loop-preserved c =
    let taken = (supply c.args.entering.now).taken in
    let grants = length (tables c.args.entering.now).grants in
    let tried = c.loop.tried in
    let rest = grants - (c.loop.counter + 1) in
    let below = c.loop-test.true in
    let more : grants - c.loop.counter ≡ suc rest = omega (arith, below) in
    let is : list_any (same_text (code_text tried)) taken ≡ true = search rules in
    record {
      in_circle = mod-lt (tried + 1) (omega arith);
      same = sym (free_code-taken rest tried taken c.loop.invariant.in_circle is) ∙ ap (λ n. free_code n tried taken) (sym more) ∙ c.loop.invariant.same;
    }

pub returns-then-not-is_taken : goal.returns-then-not-is_taken
returns-then-not-is_taken c =
    let rows = (tables c.args.entering.now).grants in
    let taken = (supply c.args.entering.now).taken in
    let tried = c.loop.tried in
    let rest = length rows - (c.loop.counter + 1) in
    let below = c.loop-test.true in
    let many = c.len-grants.ensures in
    let more : length rows - c.loop.counter ≡ suc rest = omega (arith, below, many) in
    let is : list_any (same_text (code_text tried)) taken ≡ false = search rules in
    c.code_text-code.ensures ∙ sym (free_code-free rest tried taken c.loop.invariant.in_circle is) ∙ ap (λ n. free_code n tried taken) (sym more)
    ∙ c.loop.invariant.same

pub returns : goal.returns
returns c =
    let rows = (tables c.args.entering.now).grants in
    let taken = (supply c.args.entering.now).taken in
    let tried = c.loop.tried in
    let past = c.loop-test.false in
    let many = c.len-grants.ensures in
    let none : length rows - c.loop.counter ≡ 0 = omega (arith, past, many) in
    c.code_text.ensures ∙ ap code_text (sym (mod-eq_of_lt c.loop.invariant.in_circle)) ∙ ap (λ n. free_code n tried taken) (sym none) ∙ c.loop.invariant.same
