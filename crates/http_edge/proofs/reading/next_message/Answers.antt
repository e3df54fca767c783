use Rattle.std.proofs.Common.{◌≡◌, ◌∙◌, ℕ, List, length, ◌≤◌, Bool, sym, ap, subst, inr, false, true, arith}
use Rattle.http_edge.specs.Limits.{message_limit}
use Rattle.http_edge.specs.Streams.{IsOpen}
use Rattle.http_edge.specs.Steps.{IsWaiting}
use Rattle.http_edge.proofs.Fronts.{nothing_open}
use Rattle.http_edge.proofs.Growing.{next_truncated, some_held, needed_so, open_first, grows_then}
use Rattle.http_edge.proofs.MessageLines.{message_lines}
use Rattle.http_edge.proofs.Outcomes.{waiting_open}
use Rattle.http_edge.proofs.reading.next_message.Goals as goal
use Rattle.http_edge.proofs.reading.next_message.Goals.{then-is_empty, else-is_empty+in-Ok-Unfinished}

pub returns-in-Ok-Whole-clause-needed : goal.returns-in-Ok-Whole-clause-needed
returns-in-Ok-Whole-clause-needed g c = needed_so c.loop-held.held _ _ _ c.loop-held.invariant.needed

pub returns-in-Ok-Whole-clause-lines : goal.returns-in-Ok-Whole-clause-lines
returns-in-Ok-Whole-clause-lines g c = message_lines _ _ _ (rw c.in-Ok-Whole.field-0-is at c.in-Ok-Whole.ensures).1

pub returns-in-Ok-Refused-clause-needed : goal.returns-in-Ok-Refused-clause-needed
returns-in-Ok-Refused-clause-needed g c = needed_so c.loop-held.held _ _ _ c.loop-held.invariant.needed

pub returns-in-Err-clause-needed : goal.returns-in-Err-clause-needed
returns-in-Err-clause-needed g c = needed_so c.loop-held.held _ _ _ c.loop-held.invariant.needed

pub returns-then-is_empty-2-clause-needed : goal.returns-then-is_empty-2-clause-needed
returns-then-is_empty-2-clause-needed g c = needed_so c.loop-held.held _ _ _ c.loop-held.invariant.needed

pub returns-else-is_empty-2-clause-needed : goal.returns-else-is_empty-2-clause-needed
returns-else-is_empty-2-clause-needed g c = needed_so c.loop-held.held _ _ _ c.loop-held.invariant.needed

pub read_on-requires : goal.read_on-requires
read_on-requires g c = elim c.if-is_empty.branch [
  | then-is_empty w ↦ subst (IsWaiting c.loop-held.held) (sym w.want-is) (nothing_open c.loop-held.held (c.is_empty.ensures.0 w.if-is_empty.true))
  | else-is_empty+in-Ok-Unfinished w ↦
      let waiting = rw w.in-Ok-Unfinished.field-0-is at w.in-Ok-Unfinished.ensures in
      subst (λ (b : List ℕ). IsWaiting b c.if-is_empty.want) w.as_slice.ensures.value
      (subst (IsWaiting w.as_slice.result.now) (sym w.want-is) waiting)
]

pub returns-else-is_empty-2-clause-next : goal.returns-else-is_empty-2-clause-next
returns-else-is_empty-2-clause-next g c =
    let before = c.loop-held.invariant in
    let opens : IsOpen c.loop-held.held = elim c.if-is_empty.branch [
      | then-is_empty w ↦ (nothing_open c.loop-held.held (c.is_empty.ensures.0 w.if-is_empty.true)).0
      | else-is_empty+in-Ok-Unfinished w ↦
          let waiting = rw w.in-Ok-Unfinished.field-0-is at w.in-Ok-Unfinished.ensures in
          subst IsOpen w.as_slice.ensures.value (waiting_open w.as_slice.result.now w.in-Ok-Unfinished.want waiting)
    ] in
    let few : length c.loop-held.held ≤ message_limit = elim c.if-is_empty.branch [
      | then-is_empty w ↦ omega (arith, ap length (c.is_empty.ensures.0 w.if-is_empty.true))
      | else-is_empty+in-Ok-Unfinished w ↦ w.as_slice.ensures.bound
    ] in
    next_truncated _ c.loop-held.held _ _ before.grows few opens
    (some_held c.loop-held.held c.is_empty-then-ended.result c.is_empty-then-ended.ensures.1 c.if-is_empty-2.false)
    (before.end c.if-ended.true)

pub loop-held-preserved-in-More : goal.loop-held-preserved-in-More
loop-held-preserved-in-More g c =
    let before = c.loop-held.invariant in
    let arrived = c.in-More.ensures.arrived in
    record {
      grows = grows_then _ c.loop-held.held _ _ _ _ before.grows arrived.0;
      kept = arrived.2 ∙ before.kept;
      end = λ e. let wrong : ◌≡◌ {A = Bool} false true = sym c.if-ended.false ∙ e in absurd (cc);
      needed = inr (open_first c.loop-held.held _ _ _ before.needed c.in-More.ensures.open);
    }

pub loop-held-preserved : goal.loop-held-preserved
loop-held-preserved g c =
    let before = c.loop-held.invariant in
    let arrived = c.in-End.ensures.arrived in
    record {
      grows = grows_then _ c.loop-held.held _ _ _ _ before.grows arrived.0;
      kept = arrived.2 ∙ before.kept;
      end = λ _. arrived.1;
      needed = inr (open_first c.loop-held.held _ _ _ before.needed c.in-End.ensures.open);
    }

pub returns-in-Failed-clause-needed : goal.returns-in-Failed-clause-needed
returns-in-Failed-clause-needed g c = inr (open_first c.loop-held.held _ _ _ c.loop-held.invariant.needed c.in-Failed.ensures.open)

pub returns-in-Memory-clause-needed : goal.returns-in-Memory-clause-needed
returns-in-Memory-clause-needed g c = inr (open_first c.loop-held.held _ _ _ c.loop-held.invariant.needed c.in-Memory.ensures.open)
