-- A decision that says nothing of rights has all that were asked for.
use Rattle.std.proofs.Common.{◌≡◌, true, List}
use Rattle.gnap_model.specs.Rights.{covers}
use Rattle.gnap_model.specs.declared.rights.Right.{Right}
use Rattle.gnap_model.proofs.Covering.{covers_includes}

-- Rights cover themselves.
pub covers_itself : (rights : List Right) → covers rights rights ≡ true
covers_itself rights = (covers_includes rights rights).1 (λ atom has. has)
