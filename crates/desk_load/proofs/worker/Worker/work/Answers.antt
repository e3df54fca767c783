use Rattle.std.proofs.Common.{arith}
use Rattle.desk_load.proofs.Working.{room_for_all, counted_now}
use Rattle.desk_load.proofs.worker.Worker.work.Goals as goal

pub do_share-self-inside-requires-clause-room : goal.do_share-self-inside-requires-clause-room
do_share-self-inside-requires-clause-room g c =
    room_for_all c.self.inside.station c.self.inside.grants (omega arith) (c.self.invariant.unseen c.if-self.false)

pub invariant_of-self : goal.invariant_of-self
invariant_of-self g c = record {
  some = c.self.invariant.some;
  unseen = λ no. absurd cc;
  counted = counted_now c.self.inside.station c.do_share-self-inside.new.desk c.self.inside.grants c.self.inside.start c.self.inside.workers
      c.self.inside.worker c.do_share-self-inside.result
      c.do_share-self-inside.ensures.number (c.self.invariant.unseen c.if-self.false) c.do_share-self-inside.ensures.shares c.do_share-self-inside.ensures.most;
}
