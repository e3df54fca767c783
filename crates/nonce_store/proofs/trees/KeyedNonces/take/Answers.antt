use Rattle.std.proofs.Common.{◌≡◌, ◌+◌, ◌&&◌, true, false, arith}
use Rattle.std.proofs.Math.Logic.{∥∥₁_elim, ∥∥₁_prop}
use Rattle.gnap_model.specs.Common.{same_text}
use Rattle.nonce_store.specs.Kept.{many_in}
use Rattle.nonce_store.proofs.Under.{counted_less}
use Rattle.nonce_store.proofs.Short.{short_less}
use Rattle.nonce_store.proofs.trees.KeyedNonces.take.Goals as goal

pub invariant_of-self : goal.invariant_of-self
invariant_of-self c = record {
  counted = let less : many_in c.take_out.new.keys 0 + 1 ≡ c.args.self.now.count
      = counted_less c.args.self.now.keys c.take_out.new.keys c.in-Some.key.bytes.items c.in-Some.nonce.bytes.items c.args.self.now.count
      c.take_out.result true c.take_out.ensures.there c.if-take_out.true c.args.self.now.counted c.take_out.ensures.counts in omega (arith, less);
  ordered = ∥∥₁_elim c.args.self.now.ordered ∥∥₁_prop (λ ordered. ∣ c.take_out.ensures.ordered ordered ∣₁);
  short = short_less c.args.self.now.keys c.take_out.new.keys (λ k n. same_text c.in-Some.key.bytes.items k && same_text c.in-Some.nonce.bytes.items n)
      c.args.self.now.short c.take_out.ensures.rows;
}

pub invariant_of-self-else-take_out : goal.invariant_of-self-else-take_out
invariant_of-self-else-take_out c = record {
  counted = let less : many_in c.take_out.new.keys 0 + 0 ≡ c.args.self.now.count
      = counted_less c.args.self.now.keys c.take_out.new.keys c.in-Some.key.bytes.items c.in-Some.nonce.bytes.items c.args.self.now.count
      c.take_out.result false c.take_out.ensures.there c.if-take_out.false c.args.self.now.counted c.take_out.ensures.counts in omega (arith, less);
  ordered = ∥∥₁_elim c.args.self.now.ordered ∥∥₁_prop (λ ordered. ∣ c.take_out.ensures.ordered ordered ∣₁);
  short = short_less c.args.self.now.keys c.take_out.new.keys (λ k n. same_text c.in-Some.key.bytes.items k && same_text c.in-Some.nonce.bytes.items n)
      c.args.self.now.short c.take_out.ensures.rows;
}
