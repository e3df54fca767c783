-- What is known of the server of a pair, and of a call that asks for a grant.
use Rattle.std.proofs.Common.{◌≡◌, ℕ, List, [], ◌∷◌, Bool, true, false, Option, Some, None, option_map, Result, Ok, Err, refl, sym, subst}
use Rattle.std.specs.Prelude.{if◌then◌else◌, IfSome, IfOk}
use Rattle.std.specs.List.{AllByRecursion}
use Rattle.std.specs.Str.{IsUtf8, bytes_eq}
use Rattle.structured_fields.specs.Named.{value_at}
use Rattle.json_objects.specs.Reading.{Gives}
use Rattle.gnap_model.specs.Common.{Text}
use Rattle.gnap_model.specs.declared.objects.Setup.{Setup}
use Rattle.gnap_model.specs.declared.calls.Call.{Call}
use Rattle.gnap_model.specs.declared.calls.Call.TheVariants.{Begin}
use Rattle.gnap_objects.specs.declared.setups.SetupFault.{SetupFault}
use Rattle.gnap_objects.specs.declared.setups.SetupFault.TheVariants.{OutOfMemory}
use Rattle.derivation_requests.specs.Pairs.{Pair, PairFits, ArePairs, pairs_of}
use Rattle.derivation_requests.specs.Deriving.{beginner, IsBegin}

pub paired_fits : (pairs : List Pair) (client server : Text) → value_at pairs client ≡ Some server → AllByRecursion PairFits pairs → IsUtf8 server
paired_fits [] client server is fits = absurd cc
paired_fits (p ∷ ps) client server is fits = by (bytes_eq client p.0) is (λ rest. paired_fits ps client server rest fits.1)
  where
    by : (b : Bool) → (if b then Some p.1 else value_at ps client) ≡ Some server → (value_at ps client ≡ Some server → IsUtf8 server) → IsUtf8 server
    by true is later = let same : p.1 ≡ server = cc in subst IsUtf8 same fits.0.1
    by false is later = later is

pub paired_utf8 : {X : Type 0} (view : X → Text) (pairs : List Pair) (client : Text) (found : Option X) → option_map view found ≡ value_at pairs client
    → AllByRecursion PairFits pairs → IfSome found (λ x. IsUtf8 (view x))
paired_utf8 view pairs client None is fits = tt
paired_utf8 view pairs client (Some x) is fits = paired_fits pairs client (view x) (sym is) fits

-- what a reader gives are pairs of the setup
pub are_pairs : (setup : Setup) (text : List ℕ) (result : Result (List Pair) SetupFault) → Gives OutOfMemory (λ p. p) result (pairs_of setup text)
    → IfOk result (AllByRecursion PairFits) → IfOk result (ArePairs setup)
are_pairs setup text (Ok pairs) value fits = record { text = text; read_as = value; fits = fits }
are_pairs setup text (Err fault) value fits = tt

pub begins : (call : Call) (key : Text) → beginner call ≡ Some key → IsBegin call
begins (Begin key request not_after) k is = (key, request, not_after, refl)
begins _ k is = absurd cc
