use Rattle.std.proofs.Common.{◌≡◌, ◌∙◌, ◌+◌, ◌-◌, suc, true, length, sym, ap, arith, rules}
use Rattle.std.specs.List.{list_any}
use Rattle.std.proofs.Math.Nat.{mod-lt}
use Rattle.gnap_model.specs.Common.{same_text}
use Rattle.gnap_model.specs.Values.{code_text, free_code}
use Rattle.grant_rules.proofs.UserCodes.{free_code-mod, free_code-taken}
use Rattle.grant_rules.proofs.user_codes.free_code.Goals as goal

pub loop-init : goal.loop-init
loop-init c =
    let taken = c.args.taken.now in
    let all : length taken - 0 ≡ length taken = omega arith in
    record {
      in_circle = mod-lt c.args.number (omega arith);
      same = rw all (free_code-mod (length taken) c.args.number taken);
    }

pub loop-preserved : goal.loop-preserved
loop-preserved c =
    let taken = c.args.taken.now in
    let tried = c.loop.tried in
    let rest = length taken - (c.loop.index + 1) in
    let more : length taken - c.loop.index ≡ suc rest = omega arith in
    let is : list_any (same_text (code_text tried)) taken ≡ true = search rules in
    record {
      in_circle = mod-lt (tried + 1) (omega arith);
      same = sym (free_code-taken rest tried taken c.loop.invariant.in_circle is) ∙ ap (λ n. free_code n tried taken) (sym more) ∙ c.loop.invariant.same;
    }
