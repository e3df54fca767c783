-- What guarding requests did, one after another.
use Rattle.std.specs.Prelude.{◌≡◌, ℕ, List, [], ◌∷◌, ◌++◌}
use Rattle.outside.specs.Links.{Exchange}
use Rattle.bytes_and_lists.specs.declared.message.Message.{Message}
use Rattle.resource_server.specs.declared.setup.RsSetup.{RsSetup}
use Rattle.resource_server.specs.declared.guarded.Guarded.{Guarded}
use Rattle.resource_server.specs.Guarding.{Guards}

-- What a request comes to at a moment: by what was kept, with these exchanges, and what is kept then.
abbrev pub GuardsKeeping : Type 0 → Type 1
GuardsKeeping K = RsSetup → Message → ℕ → K → List Exchange → Guarded → K → Type 0

-- nothing is kept: the token of each request is asked about anew
abbrev pub guards_asking : GuardsKeeping (Unit {0})
guards_asking setup m now before exchanges answer after = Guards setup m now exchanges answer

-- What guarding a request did: the exchanges that were made for it, its answer, and what was kept before and after.
pub record GuardedStep (K : Type 0) : Type 0 where
  pub before : K
  pub exchanges : List Exchange
  pub answer : Guarded
  pub after : K

-- each step begins with what the one before it kept
abbrev pub Chained : {K : Type 0} → K → List (GuardedStep K) → K → Type 0
Chained first [] last = last ≡ first
Chained first (s ∷ steps) last = (s.before ≡ first) × Chained s.after steps last

-- all exchanges that were made
abbrev pub exchanges_in : {K : Type 0} → List (GuardedStep K) → List Exchange
exchanges_in [] = []
exchanges_in (s ∷ steps) = s.exchanges ++ exchanges_in steps
