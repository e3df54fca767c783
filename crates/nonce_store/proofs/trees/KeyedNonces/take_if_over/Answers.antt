use Rattle.std.proofs.Common.{◌≡◌, ◌+◌, ◌&&◌, true, false, arith}
use Rattle.std.proofs.Math.Logic.{∥∥₁_elim, ∥∥₁_prop}
use Rattle.gnap_model.specs.Common.{same_text}
use Rattle.nonce_store.specs.Kept.{many_in}
use Rattle.nonce_store.proofs.Under.{counted_over}
use Rattle.nonce_store.proofs.Short.{short_less}
use Rattle.nonce_store.proofs.trees.KeyedNonces.take_if_over.Goals as goal

pub invariant_of-self : goal.invariant_of-self
invariant_of-self c = record {
  counted = let less : many_in c.take_out_over.new.keys 0 + 1 ≡ c.args.self.now.count
      = counted_over c.args.self.now.keys c.take_out_over.new.keys c.in-Some.key.bytes.items c.in-Some.nonce.bytes.items c.args.latest c.args.self.now.count
      c.take_out_over.result true c.take_out_over.ensures.over c.if-take_out_over.true c.args.self.now.counted c.take_out_over.ensures.counts in omega
      (arith, less);
  ordered = ∥∥₁_elim c.args.self.now.ordered ∥∥₁_prop (λ ordered. ∣ c.take_out_over.ensures.ordered ordered ∣₁);
  short = short_less c.args.self.now.keys c.take_out_over.new.keys
      (λ k n. c.take_out_over.result && (same_text c.in-Some.key.bytes.items k && same_text c.in-Some.nonce.bytes.items n))
      c.args.self.now.short c.take_out_over.ensures.rows;
}

pub invariant_of-self-else-take_out_over : goal.invariant_of-self-else-take_out_over
invariant_of-self-else-take_out_over c = record {
  counted = let less : many_in c.take_out_over.new.keys 0 + 0 ≡ c.args.self.now.count
      = counted_over c.args.self.now.keys c.take_out_over.new.keys c.in-Some.key.bytes.items c.in-Some.nonce.bytes.items c.args.latest c.args.self.now.count
      c.take_out_over.result false c.take_out_over.ensures.over c.if-take_out_over.false c.args.self.now.counted c.take_out_over.ensures.counts in omega
      (arith, less);
  ordered = ∥∥₁_elim c.args.self.now.ordered ∥∥₁_prop (λ ordered. ∣ c.take_out_over.ensures.ordered ordered ∣₁);
  short = short_less c.args.self.now.keys c.take_out_over.new.keys
      (λ k n. c.take_out_over.result && (same_text c.in-Some.key.bytes.items k && same_text c.in-Some.nonce.bytes.items n))
      c.args.self.now.short c.take_out_over.ensures.rows;
}
