use Rattle.std.proofs.Common.{◌&&◌}
use Rattle.gnap_model.specs.Common.{same_text}
use Rattle.nonce_store.proofs.Covered.{covers_less}
use Rattle.nonce_store.proofs.store.NonceStoreNonces.forget.Goals as goal

pub invariant_of-self : goal.invariant_of-self
invariant_of-self c = record {
  covered = covers_less c.args.self.now.seconds c.args.self.now.kept.keys c.take.new.self.keys
      (λ k n. same_text c.as_slice.result.now k && same_text c.as_slice-2.result.now n)
      c.args.self.now.covered c.take.ensures.rows;
}
