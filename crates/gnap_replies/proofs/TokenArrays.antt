-- When tokens stand in an array.
use Rattle.std.proofs.Common.{◌≡◌, ℕ, ◌≤◌, List, [], ◌∷◌, length, map, Bool, true, false, Some, refl, arith}
use Rattle.serde_json.specs.Data.{array}
use Rattle.json_objects.specs.Objects.{items}
use Rattle.gnap_model.specs.declared.calls.TokenOut.{TokenOut}
use Rattle.gnap_replies.specs.Tokens.{token_data, tokens_data}

pub several_tokens : (base : List ℕ) (single : Bool) (ts : List TokenOut) → single ≡ false → 1 ≤ length ts
    → tokens_data base single ts ≡ Some (array (items (map (token_data base) ts)))
several_tokens base single [] one some = absurd (omega (arith, some))
several_tokens base true (t ∷ ts) one some = cc
several_tokens base false (t ∷ ts) one some = refl
