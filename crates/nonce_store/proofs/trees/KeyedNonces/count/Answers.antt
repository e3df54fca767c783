use Rattle.std.proofs.Common.{◌∙◌}
use Rattle.std.proofs.Math.Logic.{∥∥₁_elim}
use Rattle.std.specs.Coded.{Coded-set, coded_ℕ}
use Rattle.nonce_store.proofs.Under.{all_counted}
use Rattle.nonce_store.proofs.trees.KeyedNonces.count.Goals as goal

pub returns : goal.returns
returns c = λ m live.
    c.args.self.now.counted ∙ ∥∥₁_elim c.args.self.now.ordered (Coded-set coded_ℕ _ _) (λ ordered. all_counted c.args.self.now.keys m ordered live)
