-- The ids of a setup are distinct, so each key adds its secret to the ring.
use Rattle.std.proofs.Common.{◌≡◌, ◌∙◌, ℕ, suc, ◌+◌, ◌<◌, Bool, true, false, not, ◌||◌, List, [], ◌∷◌, ◌++◌, length, map, drop, get_or, Ok, None, refl, sym, ap, subst, add-one, append_assoc}
use Rattle.std.specs.Prelude.{nat_lt, codes}
use Rattle.std.specs.List.{list_any}
use Rattle.std.specs.Str.{bytes_eq}
use Rattle.std.proofs.Math.Seq.{drop-cons}
use Rattle.std.proofs.lemmas.List.{append-nil, map-append}
use Rattle.serde_json.specs.Data.{Data, Items, no_items, item}
use Rattle.json_objects.specs.Reading.{◌>>=◌}
use Rattle.structured_fields.specs.Named.{value_at}
use Rattle.structured_fields.proofs.Entries.{turned}
use Rattle.hmac_key.specs.Keyring.{with_secret}
use Rattle.gnap_model.specs.Common.{Text}
use Rattle.gnap_model.specs.declared.objects.KeyRow.{KeyRow}
use Rattle.gnap_model.specs.declared.objects.Setup.{Setup}
use Rattle.gnap_objects.specs.Reading.{without_others, checked, required, required_items, id_of}
use Rattle.gnap_objects.specs.Setups.{has_id, key_id_of, role_of, secret_of, client_rights, server_names, key_members, key_row_of, in_setup, in_key, keys_from, few_keys, keys_of, object_in, base_of, setup_of, IsSetup}
use Rattle.gnap_objects.proofs.ReadParts.{bind_ok, chosen_ok, checked_ok, others_ok, setup_ok, key_ok}
use Rattle.json_objects.specs.Bodies.{body_of}
use Rattle.json_objects.specs.Members.{other_member}

-- ---- a key's id is new

abbrev secrets : List KeyRow → List (Text × Text)
secrets ks = map (λ k. (k.id, k.secret)) ks

-- each key is under an id that neither the ring has nor a key before it
abbrev pub AreNew : List (Text × Text) → List KeyRow → Type 0
AreNew ring [] = Unit {0}
AreNew ring (k ∷ ks) = (value_at ring k.id ≡ None) × AreNew (ring ++ (k.id, k.secret) ∷ []) ks

no_id : (ks : List KeyRow) (id : Text) → list_any (has_id id) ks ≡ false → value_at (secrets ks) id ≡ None
no_id [] id e = refl
no_id (k ∷ ks) id e = by (bytes_eq k.id id) refl e (no_id ks id)
  where
    by : (b : Bool) → bytes_eq k.id id ≡ b → (b || list_any (has_id id) ks) ≡ false → (list_any (has_id id) ks ≡ false → value_at (secrets ks) id ≡ None)
        → value_at (secrets (k ∷ ks)) id ≡ None
    by true same e others = absurd cc
    by false other e others = rw (turned k.id id other) (others e)

not_so : (b : Bool) → not b ≡ true → b ≡ false
not_so true e = absurd cc
not_so false e = refl

id_new : (before : List KeyRow) (d : Data) (id : Text) → key_id_of before d ≡ Ok id → value_at (secrets before) id ≡ None
unfolding key_id_of
id_new before d id e =
    let test : Text → Bool = λ id. not (list_any (has_id id) before) in
    let last = bind_ok (required (codes "id") d >>= id_of (codes "id")) (checked test (codes "id")) id e in
    let form = checked_ok (test last.0) _ last.0 id last.2 in
    no_id before id (not_so (list_any (has_id id) before) (subst (λ x. test x ≡ true) form.1 form.0))

key_new : (before : List KeyRow) (d : Data) (k : KeyRow) → key_row_of before d ≡ Ok k → value_at (secrets before) k.id ≡ None
unfolding key_row_of
key_new before d k e =
    let id = bind_ok (key_id_of before d) _ k e in
    let role = bind_ok (role_of d) _ k id.2 in
    let secret = bind_ok (secret_of d) _ k role.2 in
    let auto = bind_ok (client_rights role.0 (codes "auto") d) _ k secret.2 in
    let ask = bind_ok (client_rights role.0 (codes "ask") d) _ k auto.2 in
    let serves = bind_ok (server_names role.0 d) _ k ask.2 in
    subst (λ (row : KeyRow). value_at (secrets before) row.id ≡ None) (others_ok (other_member (key_members role.0) d) _ k serves.2) (id_new before d id.0 id.1)

-- ---- the keys of a setup

record AreAdded (before ks : List KeyRow) : Type 0 where
  more : List KeyRow
  split : ks ≡ before ++ more
  new : AreNew (secrets before) more

keys_new : (before : List KeyRow) (ds : Items) (ks : List KeyRow) → keys_from before ds ≡ Ok ks → AreAdded before ks
keys_new before no_items ks e = record { more = []; split = (let same : before ≡ ks = cc in sym same ∙ sym (append-nil before)); new = tt }
keys_new before (item d ds) ks e =
    let first = bind_ok (in_key (length before) (key_row_of before d)) _ ks e in
    let k = first.0 in
    let others = keys_new (before ++ k ∷ []) ds ks first.2 in
    record {
      more = k ∷ others.more;
      split = others.split ∙ append_assoc before (k ∷ []) others.more;
      new = (
        key_new before d k (key_ok (length before) (key_row_of before d) k first.1),
        subst (λ ring. AreNew ring others.more)
            (map-append (λ k. (k.id, k.secret)) before (k ∷ [])) others.new,
      );
    }

read_new : (d : Data) (ks : List KeyRow) → keys_of d ≡ Ok ks → AreNew [] ks
unfolding keys_of
read_new d ks e =
    let few = bind_ok (in_setup (required_items (codes "keys") d) >>= keys_from []) few_keys ks e in
    let read = bind_ok (in_setup (required_items (codes "keys") d)) (keys_from []) few.0 few.1 in
    let added = keys_new [] read.0 few.0 read.2 in
    subst (AreNew []) (sym added.split ∙ chosen_ok (nat_lt 4096 (length few.0)) _ few.0 ks few.2) added.new

-- the keys of a setup are under distinct ids
setup_new : (s : Setup) → IsSetup s → AreNew [] s.keys
unfolding setup_of
setup_new s is =
    let d = bind_ok (object_in (body_of is.text)) _ s is.read_as in
    let base = bind_ok (in_setup (base_of (codes "base") d.0)) _ s d.2 in
    let front = bind_ok (in_setup (base_of (codes "front") d.0)) _ s base.2 in
    let keys = bind_ok (keys_of d.0) _ s front.2 in
    let setup : Setup = record { base = base.0; front = front.0; keys = keys.0 } in
    let names = codes "base" ∷ codes "front" ∷ codes "keys" ∷ [] in
    subst (λ (x : Setup). AreNew [] x.keys) (others_ok (other_member names d.0) setup s (setup_ok (without_others names d.0 setup) s keys.2))
    (read_new d.0 keys.0 keys.1)

-- ---- the ring, key by key

-- The ring so far, and the secrets of the keys that are left, are those of all keys; and those are new to it.
pub record IsUpTo (keys : List KeyRow) (i : ℕ) (ring : List (Text × Text)) : Type 0 where
  pub whole : ring ++ secrets (drop i keys) ≡ secrets keys
  pub new : AreNew ring (drop i keys)

pub none_added : (s : Setup) → IsSetup s → IsUpTo s.keys 0 []
none_added s is = record { whole = refl; new = setup_new s is }

pub next_key : (keys : List KeyRow) (i : ℕ) (ring : List (Text × Text)) (k : KeyRow) → i < length keys → k ≡ get_or keys i k → IsUpTo keys i ring
    → IsUpTo keys (i + 1) (with_secret ring k.id k.secret)
next_key keys i ring k within is so_far = at (drop i keys)
    (drop-cons keys i k within ∙ ap (λ x. x ∷ drop (suc i) keys) (sym is) ∙ ap (λ j. k ∷ drop j keys) (sym (add-one i))) so_far.whole so_far.new
  where
    at : (rest : List KeyRow) → rest ≡ k ∷ drop (i + 1) keys → ring ++ secrets rest ≡ secrets keys → AreNew ring rest
        → IsUpTo keys (i + 1) (with_secret ring k.id k.secret)
    at rest opened whole new =
        let here = subst (AreNew ring) opened new in
        let added : with_secret ring k.id k.secret ≡ ring ++ (k.id, k.secret) ∷ [] = rw here.0 refl in
        subst (IsUpTo keys (i + 1)) (sym added) (record {
          whole = append_assoc ring ((k.id, k.secret) ∷ []) (secrets (drop (i + 1) keys)) ∙ sym (ap (λ l. ring ++ secrets l) opened) ∙ whole;
          new = here.1;
        })
