use Rattle.nonce_store.proofs.Covered.{noted, put_in}
use Rattle.nonce_store.proofs.store.NonceStoreNonces.remember.Goals as goal

pub invariant_of-self : goal.invariant_of-self
invariant_of-self c = record {
  covered = noted c.note.result c.args.self.now.seconds c.note.new.seconds c.args.self.now.kept.keys c.args.end c.as_slice-key.result.now
      c.as_slice-nonce.result.now
      c.args.self.now.covered c.note.ensures.ok c.note.ensures.err;
}

pub invariant_of-self-2 : goal.invariant_of-self-2
invariant_of-self-2 c = record {
  covered = put_in c.put.result c.args.self.now.seconds c.note.new.seconds c.args.self.now.kept.keys c.put.new.self.keys c.as_slice-key.result.now
      c.as_slice-nonce.result.now
      c.args.end _ c.args.self.now.covered c.in_ok-note.ensures.ok c.put.ensures.rows c.put.ensures.err;
}
