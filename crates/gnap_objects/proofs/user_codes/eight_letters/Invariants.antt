use Rattle.std.proofs.Common.{◌≡◌, ◌++◌, drop}
use Rattle.gnap_objects.specs.UserCodes.{letters_of}
use Rattle.gnap_objects.proofs.user_codes.eight_letters.Given as goal

abbrev pub invariant-loop-b : goal.invariant-loop-b
invariant-loop-b l = l.letters.items ++ letters_of (drop l.b-index l.typed) ≡ letters_of l.typed
