use Rattle.std.proofs.Common.{arith, length}
use Rattle.nonce_store.proofs.Places.{kept_within, kept_any, pushed_within, pushed_any}
use Rattle.nonce_store.proofs.Under.{on_err_always}
use Rattle.nonce_store.proofs.run.Run.push.Goals as goal

pub invariant_of-self-in-Break-branch-3 : goal.invariant_of-self-in-Break-branch-3
invariant_of-self-in-Break-branch-3 c = record {
  within = kept_within (length c.args.self.now.texts.items) (length c.append.new.texts.items) c.args.self.now.places.items c.make_room.new.items.items
      c.make_room.ensures.items c.append.ensures.longer c.args.self.now.within;
}

pub returns-in_err-append-clause-err : goal.returns-in_err-append-clause-err
returns-in_err-append-clause-err c =
    on_err_always c.from_residual-in_err-append.result _
    (kept_any c.args.self.now.texts.items c.append.new.texts.items c.args.self.now.places.items c.make_room.new.items.items
    c.make_room.ensures.items c.append.ensures.stays c.args.self.now.within)

pub invariant_of-self-2 : goal.invariant_of-self-2
invariant_of-self-2 c = record {
  within = pushed_within c.args.self.now.texts.items c.append.new.texts.items c.args.key.now c.args.nonce.now
      c.make_room.new.items.items c.push_reserved.new.self.items c.in_ok-place.place c.push_reserved.ensures.items
      (kept_within (length c.args.self.now.texts.items) (length c.args.self.now.texts.items) c.args.self.now.places.items c.make_room.new.items.items
      c.make_room.ensures.items (omega arith) c.args.self.now.within)
      c.in_ok-append.ensures.ok (rw c.as_slice.ensures.value at c.in_ok-place.ensures);
}

pub returns-clause-ok : goal.returns-clause-ok
returns-clause-ok c =
    pushed_any c.args.self.now.texts.items c.append.new.texts.items c.args.key.now c.args.nonce.now c.args.self.now.places.items
    c.make_room.new.items.items c.push_reserved.new.self.items c.in_ok-place.place c.make_room.ensures.items c.push_reserved.ensures.items
    c.in_ok-append.ensures.ok c.args.self.now.within (rw c.as_slice.ensures.value at c.in_ok-place.ensures)
