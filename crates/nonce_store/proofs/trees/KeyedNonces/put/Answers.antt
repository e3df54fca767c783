use Rattle.std.proofs.Common.{sym, ◌∙◌}
use Rattle.std.proofs.Math.Logic.{∥∥₁_elim, ∥∥₁_prop}
use Rattle.nonce_store.proofs.Under.{counted_more}
use Rattle.nonce_store.proofs.Short.{short_put, short_same}
use Rattle.nonce_store.proofs.trees.KeyedNonces.put.Goals as goal

pub invariant_of-self : goal.invariant_of-self
invariant_of-self c = record {
  counted = c.args.self.now.counted ∙ sym (c.in_err-put_in.ensures.err.1 0);
  ordered = ∥∥₁_elim c.args.self.now.ordered ∥∥₁_prop (λ ordered. ∣ c.put_in.ensures.ordered ordered ∣₁);
  short = short_same c.args.self.now.keys c.put_in.new.keys c.args.self.now.short c.in_err-put_in.ensures.err.0;
}

pub invariant_of-self-2 : goal.invariant_of-self-2
invariant_of-self-2 c = record {
  counted = counted_more c.args.self.now.keys c.put_in.new.keys c.args.self.now.count c.args.end c.args.self.now.counted c.in_ok-put_in.ensures.counts;
  ordered = ∥∥₁_elim c.args.self.now.ordered ∥∥₁_prop (λ ordered. ∣ c.put_in.ensures.ordered ordered ∣₁);
  short = short_put c.args.self.now.keys c.put_in.new.keys c.args.key.now c.args.nonce.now c.in-Some.key.bytes.items c.in-Some.nonce.bytes.items c.args.end
      c.args.self.now.short c.in-Some.ensures.same.0 c.in-Some.ensures.same.1 (sym c.in-Some.ensures.short) c.in_ok-put_in.ensures.rows;
}
