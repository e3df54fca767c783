use Rattle.shared_server.specs.Passes.{Sharing}
use Rattle.shared_server.proofs.Places.{seat_is, idle_after}
use Rattle.shared_server.proofs.shared.Pass.call_with_words.Goals as goal

pub invariant_of-self : goal.invariant_of-self
invariant_of-self g c =
    let core : Sharing _ = record {
      table = c.shared.inside.table.shared.table_id;
      rules = g.C.Core.rules c.shared.inside.table.shared.key.core.value;
      count =
          c.shared.inside.table.shared.key.count;
    } in
    let of = seat_is c.args.shared.now core c.args.self.now c.self.inside.seat c.shared.view_is c.self.view_is c.requires.of in
    let same = c.call_once.ensures.seat.0 in
    idle_after g.C.M.Machine.law core c.args.moment c.or_made-words.result.now c.args.call.now c.self.inside.seat c.call_once.new.seat of same
    c.call_once.result c.call_once.ensures.ok c.call_once.ensures.err c.self.invariant
