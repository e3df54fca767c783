use Rattle.std.proofs.Common.{ℕ, List, sym, subst, arith}
use Rattle.http_edge.specs.declared.held.Arrival.TheVariants.{End, Failed, Memory}
use Rattle.http_edge.specs.Steps.{EndsAt}
use Rattle.http_edge.proofs.Growing.{read_more, arrived_then}
use Rattle.http_edge.proofs.Outcomes.{ends_at_more, open_no_message, open_in_body}
use Rattle.http_edge.proofs.reading.read_body.Goals as goal

pub fill-requires-clause-waiting : goal.fill-requires-clause-waiting
fill-requires-clause-waiting g c =
    open_no_message c.loop-held.held
    (open_in_body c.loop-held.held c.args.end c.loop-held.invariant.waiting (omega (arith, c.loop-held-test.true, c.len.ensures.value)))

pub loop-held-preserved : goal.loop-held-preserved
loop-held-preserved g c =
    let before = c.loop-held.invariant in
    let arrived = c.in-More.ensures.arrived in
    record {
      so_far = read_more _ _ _ _ _ _ _ _ _ before.so_far arrived;
      waiting = subst (λ (b : List ℕ). EndsAt b c.args.end) (sym arrived.0.behind) (ends_at_more c.loop-held.held arrived.0.came c.args.end before.waiting);
    }

pub returns-in-End-clause-arrived : goal.returns-in-End-clause-arrived
returns-in-End-clause-arrived g c = arrived_then End _ _ _ _ _ _ _ _ _ c.loop-held.invariant.so_far c.in-End.ensures.arrived

pub returns-in-Failed-clause-arrived : goal.returns-in-Failed-clause-arrived
returns-in-Failed-clause-arrived g c = arrived_then Failed _ _ _ _ _ _ _ _ _ c.loop-held.invariant.so_far c.in-Failed.ensures.arrived

pub returns-in-Memory-clause-arrived : goal.returns-in-Memory-clause-arrived
returns-in-Memory-clause-arrived g c = arrived_then Memory _ _ _ _ _ _ _ _ _ c.loop-held.invariant.so_far c.in-Memory.ensures.arrived
