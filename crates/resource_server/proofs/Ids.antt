-- An id can be written as a parameter of a signature.
use Rattle.std.proofs.Common.{◌≡◌, ℕ, List, [], ◌∷◌, true, Ok, refl, subst, arith}
use Rattle.std.specs.List.{list_all}
use Rattle.std.proofs.lemmas.Bool.{and_parts, and_from}
use Rattle.std.proofs.lemmas.Bool.Decides.{nat_tests}
use Rattle.serde_json.specs.Data.{Data}
use Rattle.structured_fields.specs.Letters.{is_string_byte}
use Rattle.gnap_objects.specs.Forms.{is_id_byte, is_id}
use Rattle.gnap_objects.specs.Reading.{text_of, checked, id_of}
use Rattle.gnap_objects.proofs.ReadParts.{bind_ok, checked_ok}

one : (b : ℕ) → is_id_byte b ≡ true → is_string_byte b ≡ true
one b e = grind (arith, nat_tests)

each : (s : List ℕ) → list_all is_id_byte s ≡ true → list_all is_string_byte s ≡ true
each [] e = refl
each (b ∷ s) e = let h = and_parts _ _ e in and_from _ _ (one b h.0) (each s h.1)

is_string : (s : List ℕ) → is_id s ≡ true → list_all is_string_byte s ≡ true
unfolding is_id
is_string s e = each s (and_parts _ _ e).1

pub read_string : (name : List ℕ) (d : Data) (id : List ℕ) → id_of name d ≡ Ok id → list_all is_string_byte id ≡ true
unfolding id_of
read_string name d id is =
    let text = bind_ok (text_of name d) (checked is_id name) id is in
    let form = checked_ok (is_id text.0) _ text.0 id text.2 in
    is_string id (subst (λ x. is_id x ≡ true) form.1 form.0)
