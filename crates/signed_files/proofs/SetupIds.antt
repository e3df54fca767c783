-- The ids of a setup's keys can stand in a signature's parameters.
use Rattle.std.proofs.Common.{◌≡◌, ◌∙◌, ℕ, List, [], ◌∷◌, ◌++◌, length, refl, ap, sym, subst, arith}
use Rattle.std.specs.Prelude.{Bool, true, false, ◌&&◌, Option, Some, None, Result, Ok, Err, nat_lt, nat_le, if◌then◌else◌, codes}
use Rattle.std.specs.List.{list_all, AllByRecursion}
use Rattle.std.specs.Option.{option_or}
use Rattle.std.specs.Str.{bytes_eq}
use Rattle.std.proofs.lemmas.Bool.{and_parts, and_from}
use Rattle.std.proofs.lemmas.Bool.Decides.{nat_tests}
use Rattle.std.proofs.lemmas.Slice.Eq.{bytes_eq-Decides}
use Rattle.serde_json.specs.Data.{Data, Items, no_items, item}
use Rattle.json_objects.specs.Reading.{◌>>=◌}
use Rattle.json_objects.specs.Members.{other_member}
use Rattle.json_objects.specs.Bodies.{body_of}
use Rattle.structured_fields.specs.Letters.{is_string_byte}
use Rattle.gnap_model.specs.declared.objects.KeyRow.{KeyRow}
use Rattle.gnap_model.specs.declared.objects.Setup.{Setup}
use Rattle.gnap_model.specs.Common.{same_text, first_of, some_if}
use Rattle.gnap_model.specs.Keys.{key_of}
use Rattle.gnap_objects.specs.Forms.{is_id, is_id_byte, is_sized}
use Rattle.gnap_objects.specs.Reading.{required, required_items, text_of, checked, id_of, without_others}
use Rattle.gnap_objects.specs.Setups.{base_of, has_id, key_id_of, role_of, secret_of, client_rights, server_names, key_members, key_row_of, in_setup, in_key, keys_from, few_keys, keys_of, object_in, setup_of, IsSetup}
use Rattle.gnap_objects.proofs.ReadParts.{bind_ok, chosen_ok, checked_ok, others_ok, setup_ok, key_ok}

-- ---- the ids

abbrev HasIdForm : KeyRow → Type 0
HasIdForm key = is_id key.id ≡ true

read_id : (before : List KeyRow) (d : Data) (id : List ℕ) → key_id_of before d ≡ Ok id → is_id id ≡ true
unfolding key_id_of id_of
read_id before d id is =
    let outer = bind_ok (required (codes "id") d >>= id_of (codes "id")) _ id is in
    let same = checked_ok _ _ outer.0 id outer.2 in
    let inner = bind_ok (required (codes "id") d) (id_of (codes "id")) outer.0 outer.1 in
    let text = bind_ok (text_of (codes "id") inner.0) (checked is_id (codes "id")) outer.0 inner.2 in
    let form = checked_ok (is_id text.0) _ text.0 outer.0 text.2 in
    subst (λ x. is_id x ≡ true) (form.1 ∙ same.1) form.0

read_row : (before : List KeyRow) (d : Data) (key : KeyRow) → key_row_of before d ≡ Ok key → HasIdForm key
unfolding key_row_of
read_row before d key is =
    let id = bind_ok (key_id_of before d) _ key is in
    let role = bind_ok (role_of d) _ key id.2 in
    let secret = bind_ok (secret_of d) _ key role.2 in
    let auto_rights = bind_ok (client_rights role.0 (codes "auto") d) _ key secret.2 in
    let ask_rights = bind_ok (client_rights role.0 (codes "ask") d) _ key auto_rights.2 in
    let serves = bind_ok (server_names role.0 d) _ key ask_rights.2 in
    let row = others_ok (other_member (key_members role.0) d) _ key serves.2 in
    subst HasIdForm row (read_id before d id.0 id.1)

all_push : (keys : List KeyRow) (key : KeyRow) → AllByRecursion HasIdForm keys → HasIdForm key → AllByRecursion HasIdForm (keys ++ key ∷ [])
all_push [] key all one = (one, tt)
all_push (first ∷ keys) key all one = (all.0, all_push keys key all.1 one)

read_keys : (before : List KeyRow) (items : Items) (keys : List KeyRow) → AllByRecursion HasIdForm before → keys_from before items ≡ Ok keys
    → AllByRecursion HasIdForm keys
read_keys before no_items keys all is = let same : before ≡ keys = cc in subst (AllByRecursion HasIdForm) same all
read_keys before (item d ds) keys all is =
    let key = bind_ok (in_key (length before) (key_row_of before d)) _ keys is in
    read_keys (before ++ key.0 ∷ []) ds keys (all_push before key.0 all (read_row before d key.0 (key_ok (length before) (key_row_of before d) key.0 key.1)))
    key.2

read_all : (d : Data) (keys : List KeyRow) → keys_of d ≡ Ok keys → AllByRecursion HasIdForm keys
unfolding keys_of
read_all d keys is =
    let listed = bind_ok (in_setup (required_items (codes "keys") d) >>= keys_from []) few_keys keys is in
    let items = bind_ok (in_setup (required_items (codes "keys") d)) (keys_from []) listed.0 listed.1 in
    let same : listed.0 ≡ keys = chosen_ok (nat_lt 4096 (length listed.0)) _ listed.0 keys listed.2 in
    subst (AllByRecursion HasIdForm) same (read_keys [] items.0 listed.0 tt items.2)

setup_ids : (text : List ℕ) (s : Setup) → setup_of text ≡ Ok s → AllByRecursion HasIdForm s.keys
unfolding setup_of
setup_ids text s is =
    let d = bind_ok (object_in (body_of text)) _ s is in
    let base = bind_ok (in_setup (base_of (codes "base") d.0)) _ s d.2 in
    let front = bind_ok (in_setup (base_of (codes "front") d.0)) _ s base.2 in
    let keys = bind_ok (keys_of d.0) _ s front.2 in
    let row = others_ok (other_member (codes "base" ∷ codes "front" ∷ codes "keys" ∷ []) d.0) _ s (setup_ok _ s keys.2) in
    subst (λ (x : Setup). AllByRecursion HasIdForm x.keys) row (read_all d.0 keys.0 keys.1)

-- ---- the key that an id has

one_found : (row : KeyRow) (rest : Option KeyRow) (id : List ℕ) (key : KeyRow) (b : Bool) → same_text row.id id ≡ b → HasIdForm row
    → (rest ≡ Some key → is_id id ≡ true)
    → option_or (some_if b row) rest ≡ Some key → is_id id ≡ true
one_found row rest id key true same form later is = subst (λ x. is_id x ≡ true) ((bytes_eq-Decides row.id id).0 same) form
one_found row rest id key false other form later is = later is

found_id : (keys : List KeyRow) (id : List ℕ) (key : KeyRow) → AllByRecursion HasIdForm keys
    → first_of (λ (row : KeyRow). some_if (same_text row.id id) row) keys ≡ Some key → is_id id ≡ true
found_id [] id key all is = absurd cc
found_id (row ∷ keys) id key all is =
    one_found row (first_of (λ (k : KeyRow). some_if (same_text k.id id) k) keys) id key (same_text row.id id) refl all.0 (found_id keys id key all.1) is

id_byte : (b : ℕ) → is_id_byte b ≡ true → is_string_byte b ≡ true
id_byte b is = grind (arith, nat_tests)

id_bytes : (id : List ℕ) → list_all is_id_byte id ≡ true → list_all is_string_byte id ≡ true
id_bytes [] all = refl
id_bytes (b ∷ id) all =
    let parts = and_parts (is_id_byte b) (list_all is_id_byte id) all in
    and_from _ _ (id_byte b parts.0) (id_bytes id parts.1)

id_text : (id : List ℕ) → is_id id ≡ true → list_all is_string_byte id ≡ true
unfolding is_id
id_text id is = id_bytes id (and_parts (is_sized 64 id) (list_all is_id_byte id) is).1

-- an id that a key of a setup has can stand in a signature's parameters
pub key_id_text : (s : Setup) (id : List ℕ) (key : KeyRow) → IsSetup s → key_of s id ≡ Some key → list_all is_string_byte id ≡ true
key_id_text s id key setup found = id_text id (found_id s.keys id key (setup_ids setup.text s setup.read_as) found)
