-- The `Connection` fields of a head.
use Rattle.std.proofs.Common.{◌≡◌, ◌∙◌, ℕ, List, [], ◌∷◌, ◌++◌, ap, sym, refl, Bool, false, cond, codes, zero, suc, arith}
use Rattle.std.specs.Prelude.{◌==◌, ◌||◌}
use Rattle.std.specs.List.{list_any}
use Rattle.std.proofs.lemmas.Bool.{or_parts}
use Rattle.std.proofs.lemmas.Bool.Decides.{nat_tests}
use Rattle.http1.specs.Fields.{Header, is_named, elements, elements_named, has_option}
use Rattle.http_edge.specs.Framing.{asks_to_close}

none_named : (name : List ℕ) (headers : List Header) → list_any (is_named name) headers ≡ false → elements_named name headers ≡ []
none_named name [] none = refl
none_named name (h ∷ headers) none =
    let parts = or_parts (is_named name h) (list_any (is_named name) headers) none in
    ap (λ (b : Bool). cond b (elements h.1) [] ++ elements_named name headers) parts.0 ∙ none_named name headers parts.1

-- where there is none, none asks to close
pub none_asks : (headers : List Header) → list_any (is_named (codes "connection")) headers ≡ false → asks_to_close headers ≡ false
none_asks headers none = ap (has_option (codes "close")) (none_named (codes "connection") headers none)

-- ---- whether a connection closes, of HTTP/1.0 and of a later version

pub oldest_version : (minor : ℕ) (last asks : Bool) → last ≡ (minor == 0) → minor ≡ 0 → last ≡ (minor == 0 || asks)
oldest_version zero last asks is first = is
oldest_version (suc minor) last asks is first = absurd (omega arith)

not_first : (minor : ℕ) → ¬ (minor ≡ 0) → (minor == 0) ≡ false
not_first minor other = grind (arith, nat_tests)

pub other_version : (minor : ℕ) (last asks : Bool) → last ≡ asks → ¬ (minor ≡ 0) → last ≡ (minor == 0 || asks)
other_version minor last asks is other = is ∙ ap (λ (b : Bool). b || asks) (sym (not_first minor other))
