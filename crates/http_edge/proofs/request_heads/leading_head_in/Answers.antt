use Rattle.std.proofs.Common.{◌≡◌, ℕ, true, false, List, inr, sym, ◌∙◌}
use Rattle.std.specs.Prelude.{fold}
use Rattle.httparse.specs.Grammar.{NeverHasRequest}
use Rattle.http_edge.specs.declared.places.RequestPlace.TheVariants.{BlankLines}
use Rattle.http_edge.specs.Steps.{next_place, is_target}
use Rattle.http_edge.proofs.Fronts.{never_now}
use Rattle.http_edge.proofs.Targets.{in_target_only, in_target_true, target_only, false_at}
use Rattle.http_edge.proofs.request_heads.leading_head_in.Goals as goal

pub returns-then-ends_in_target : goal.returns-then-ends_in_target
returns-then-ends_in_target c =
    let w : List ℕ = c.args.w.now in
    let never : NeverHasRequest w = c.in-Err.ensures.invalid c.in_default.not-TooManyHeaders in
    let at : is_target (fold next_place BlankLines w) ≡ true = sym c.ends_in_target.ensures ∙ c.if-ends_in_target.true in
    record {
      some = record { none = never_now w never; may = inr (in_target_only w (target_only _ at)) };
      over = tt;
      exceeds = tt;
    }

pub returns-else-ends_in_target : goal.returns-else-ends_in_target
returns-else-ends_in_target c =
    let w : List ℕ = c.args.w.now in
    let never : NeverHasRequest w = c.in-Err.ensures.invalid c.in_default.not-TooManyHeaders in
    let at : is_target (fold next_place BlankLines w) ≡ false = sym c.ends_in_target.ensures ∙ c.if-ends_in_target.false in
    record {
      some = record { never = never; outside = λ t. false_at w at (in_target_true w t) };
      over = tt;
      exceeds = tt;
    }
