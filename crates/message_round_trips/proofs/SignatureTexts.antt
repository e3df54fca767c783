-- The values of the fields that signing adds can stand in a field line.
use Rattle.std.proofs.Common.{◌≡◌, ◌∙◌, ℕ, zero, suc, ◌+◌, ◌*◌, ◌/◌, ◌%◌, ◌<◌, ◌^◌, Bool, true, false, cond, List, [], ◌∷◌, ◌++◌, length, get_or, map, reverse, replicate, Option, Some, None, refl, sym, ap, subst, arith, append_assoc, append-nil}
use Rattle.std.specs.Prelude.{IfSome, codes, pos, decimal}
use Rattle.std.specs.List.{flat_map, list_all}
use Rattle.std.specs.Char.{is_ascii_digit, digit_value}
use Rattle.std.specs.Str.Parse.{AllDigits}
use Rattle.std.proofs.lemmas.Bool.{and_parts, and_from}
use Rattle.std.proofs.lemmas.Bool.Decides.{nat_tests}
use Rattle.std.proofs.lemmas.Fmt.{decimal_is_IsNumeral}
use Rattle.std.proofs.lemmas.List.{reverse-append}
use Rattle.std.proofs.lemmas.List.Folds.{list_all-append}
use Rattle.std.proofs.lemmas.List.Sums.{AllPass-from_list_all}
use Rattle.base64.specs.Rfc4648.{encode_symbols, padding_len}
use Rattle.base64.specs.GeneralPurpose.{encode_of, IsBytes}
use Rattle.base64.specs.Engines.{standard}
use Rattle.sha2.specs.Sha256.{sha256}
use Rattle.httparse.specs.Grammar.{AllPass, is_token_byte, is_value_byte, is_ows, skip_ows, trim_ows}
use Rattle.httparse.proofs.TrimLemmas.{trim_ows_space}
use Rattle.structured_fields.specs.declared.bare.Bare.{Bare}
use Rattle.structured_fields.specs.declared.bare.Bare.TheVariants.{Integer, Str, Binary}
use Rattle.structured_fields.specs.declared.item.Member.TheVariants.{Item as Single, Inner}
use Rattle.structured_fields.specs.Letters.{is_string_byte, is_quoted}
use Rattle.structured_fields.specs.Grammar.{in_string}
use Rattle.structured_fields.specs.Canonical.{value_text, item_text, separated_text, params_text, dictionary_text}
use Rattle.bytes_and_lists.specs.declared.message.Message.{Message}
use Rattle.content_digest.specs.Digest.{digest_text}
use Rattle.content_digest.proofs.DigestBytes.{sha_bytes}
use Rattle.content_digest.proofs.Ends.{EndsIn, digest_ends}
use Rattle.hmac_key.specs.Hmac.{hmac_sha256}
use Rattle.message_signature.specs.Marks.{has_nonce_length, is_nonce_byte, is_nonce}
use Rattle.message_signature.specs.Verified.{has_body, has_field}
use Rattle.message_signature.specs.Signed.{component_item, params_of, signature_input, under_label, label}
use Rattle.message_round_trips.proofs.Headers.{IsWritable}

-- ---- bytes

pub all_from : (p q : ℕ → Bool) → ((b : ℕ) → p b ≡ true → q b ≡ true) → (t : List ℕ) → list_all p t ≡ true → list_all q t ≡ true
all_from p q from [] e = refl
all_from p q from (b ∷ t) e = let h = and_parts _ _ e in and_from _ _ (from b h.0) (all_from p q from t h.1)

value_byte : (b : ℕ) → is_string_byte b ≡ true → is_value_byte b ≡ true
value_byte b e = grind (arith, nat_tests)

-- what can stand in a String can stand in a field line
writes : (t : List ℕ) → list_all is_string_byte t ≡ true → AllPass is_value_byte t
writes t e = AllPass-from_list_all is_value_byte t (all_from is_string_byte is_value_byte value_byte t e)

pub written : (name value : List ℕ) → 0 < length name → list_all is_token_byte name ≡ true → list_all is_string_byte value ≡ true → trim_ows value ≡ value
    → IsWritable (name, value)
written name value more token fit same = record { name = (more, AllPass-from_list_all is_token_byte name token); value = writes value fit; trimmed = same }

abbrev fits : List ℕ → Type 0
fits t = list_all is_string_byte t ≡ true

pub joined_fit : (a b : List ℕ) → list_all is_string_byte a ≡ true → list_all is_string_byte b ≡ true → list_all is_string_byte (a ++ b) ≡ true
joined_fit a b first second = list_all-append is_string_byte a b ∙ and_from _ _ first second

-- ---- numbers and Strings

digit_is : (c : ℕ) → digit_value c < 10 → is_ascii_digit c ≡ true
digit_is c e = grind (arith, nat_tests)

pub all_digits : (ds : List ℕ) → AllDigits 10 ds → list_all is_ascii_digit ds ≡ true
all_digits [] e = refl
all_digits (c ∷ ds) e = and_from _ _ (digit_is c e.0) (all_digits ds e.1)

from_digit : (c : ℕ) → is_ascii_digit c ≡ true → is_string_byte c ≡ true
from_digit c e = grind (arith, nat_tests)

pub number_fits : (n : ℕ) → n < 2 ^ 64 → list_all is_string_byte (decimal n) ≡ true
number_fits n small = all_from is_ascii_digit is_string_byte from_digit (decimal n) (all_digits (decimal n) (decimal_is_IsNumeral n small).0.1)

escaped : (c : ℕ) → is_string_byte c ≡ true → fits (in_string c)
escaped c e = by (is_quoted c)
  where
    by : (quoted : Bool) → fits (cond quoted (92 ∷ c ∷ []) (c ∷ []))
    by true = and_from _ _ e refl
    by false = and_from _ _ e refl

string_fits : (s : List ℕ) → fits s → fits (flat_map in_string s)
string_fits [] e = refl
string_fits (c ∷ s) e =
    let h = and_parts _ _ e in
    joined_fit (in_string c) (flat_map in_string s) (escaped c h.0) (string_fits s h.1)

quoted_fits : (s : List ℕ) → fits s → fits (34 ∷ flat_map in_string s ++ 34 ∷ [])
quoted_fits s e = joined_fit (34 ∷ flat_map in_string s) (34 ∷ []) (string_fits s e) refl

-- ---- base64

symbol_fits : (t : List ℕ) → fits t → (k : ℕ) → k < length t → is_string_byte (get_or t k 0) ≡ true
symbol_fits t e k below = AllPass-from_list_all is_string_byte t e k 0 below

module _ (t : List ℕ) (at : (k : ℕ) → k < 64 → is_string_byte (get_or t k 0) ≡ true) where
  symbols_fit : (b : List ℕ) → IsBytes b → fits (encode_symbols t b)
  unfolding encode_symbols
  symbols_fit [] bytes = refl
  symbols_fit (x ∷ []) bytes =
      let a : x < 256 = bytes 0 in
      rw (at (x / 4) (omega (arith, a)), at (x % 4 * 16) (omega arith)) refl
  symbols_fit (x ∷ y ∷ []) bytes =
      let a : x < 256 = bytes 0 in
      let b : y < 256 = bytes 1 in
      rw (at (x / 4) (omega (arith, a)), at (x % 4 * 16 + y / 16) (omega (arith, b)), at (y % 16 * 4) (omega arith)) refl
  symbols_fit (x ∷ y ∷ z ∷ more) bytes =
      let a : x < 256 = bytes 0 in
      let b : y < 256 = bytes 1 in
      let c : z < 256 = bytes 2 in
      rw (at (x / 4) (omega (arith, a)), at (x % 4 * 16 + y / 16) (omega (arith, b)), at (y % 16 * 4 + z / 64) (omega (arith, c)), at (z % 64) (omega arith))
      (symbols_fit more (λ i. bytes (suc (suc (suc i)))))

padding_fits : (n : ℕ) → fits (replicate n 61)
padding_fits zero = refl
padding_fits (suc n) = padding_fits n

base64_fits : (b : List ℕ) → IsBytes b → fits (encode_of standard b)
base64_fits b bytes =
    joined_fit (encode_symbols standard.encode_table b) (replicate (padding_len (length b)) 61)
    (symbols_fit standard.encode_table (symbol_fits standard.encode_table refl) b bytes) (padding_fits (padding_len (length b)))

-- ---- nothing to be trimmed

ends_more : {last : ℕ} (a : List ℕ) {text : List ℕ} → EndsIn last text → EndsIn last (a ++ text)
ends_more {last} a e = record { front = a ++ e.front; is = ap (λ (t : List ℕ). a ++ t) e.is ∙ sym (append_assoc a e.front (last ∷ [])) }

ends_nil : {last : ℕ} {text : List ℕ} → EndsIn last text → EndsIn last (text ++ [])
ends_nil {last} {text} e = subst (EndsIn last) (sym (append-nil text)) e

-- no blank stands first and none stands last
pub same_text : (t : List ℕ) (last : ℕ) → EndsIn last t → skip_ows t ≡ t → is_ows last ≡ false → trim_ows t ≡ t
unfolding trim_ows
same_text t last e first other =
    let turned : reverse t ≡ last ∷ reverse e.front = ap reverse e.is ∙ reverse-append e.front (last ∷ []) in
    let stops : skip_ows (last ∷ reverse e.front) ≡ last ∷ reverse e.front = rw other refl in
    trim_ows_space t first (ap skip_ows turned ∙ stops ∙ sym turned)

-- ---- the digest and the signature

pub digest_fits : (body : List ℕ) → list_all is_string_byte (digest_text body) ≡ true
digest_fits body = joined_fit (codes "sha-256=:" ++ encode_of standard (sha256 body)) (codes ":") (base64_fits (sha256 body) (sha_bytes body)) refl

pub same_digest : (body : List ℕ) → trim_ows (digest_text body) ≡ digest_text body
same_digest body = same_text (digest_text body) 58 (digest_ends body) refl refl

-- the bytes of a signature
abbrev pub signature_text : List ℕ → List ℕ
signature_text bytes = dictionary_text (under_label label (Single (record { bare = Binary bytes; params = [] })))

hmac_bytes : (secret text : List ℕ) → IsBytes (hmac_sha256 secret text)
unfolding hmac_sha256
hmac_bytes secret text = sha_bytes _

pub signature_fits : (secret text : List ℕ) → list_all is_string_byte (signature_text (hmac_sha256 secret text)) ≡ true
signature_fits secret text =
    let bytes : List ℕ = hmac_sha256 secret text in
    let value : List ℕ = 58 ∷ encode_of standard bytes ++ 58 ∷ [] in
    let fit : list_all is_string_byte value ≡ true = joined_fit (58 ∷ encode_of standard bytes) (58 ∷ []) (base64_fits bytes (hmac_bytes secret text)) refl in
    joined_fit (codes "sig1=" ++ (value ++ [])) [] (joined_fit value [] fit refl) refl

pub same_signature : (bytes : List ℕ) → trim_ows (signature_text bytes) ≡ signature_text bytes
same_signature bytes =
    same_text (signature_text bytes) 58
    (ends_nil (ends_more (codes "sig1=") (ends_nil (record { front = 58 ∷ encode_of standard bytes; is = refl })))) refl refl

-- ---- the signature's input

abbrev pub gnap_params : List ℕ → ℕ → Option (List ℕ) → List (List ℕ × Bare)
gnap_params id created nonce = params_of id created nonce (codes "gnap")

-- what a signature covers, and its parameters
abbrev pub input_text : Message → List (List ℕ × Bare) → List ℕ
input_text m params = dictionary_text (under_label label (Inner (signature_input m params)))

-- the covered components: of a body, and of an access token
abbrev names : Bool → Bool → List (List ℕ)
names body token = codes "@method" ∷ codes "@target-uri" ∷ (cond body (codes "content-digest" ∷ []) [] ++ cond token (codes "authorization" ∷ []) [])

abbrev items_text : Bool → Bool → List ℕ
items_text body token = 40 ∷ separated_text (32 ∷ []) item_text (map component_item (names body token))

items_fit : (body token : Bool) → fits (items_text body token)
items_fit false false = refl
items_fit false true = refl
items_fit true false = refl
items_fit true true = refl

nonce_byte : (c : ℕ) → is_nonce_byte c ≡ true → is_string_byte c ≡ true
nonce_byte c e = grind (arith, nat_tests)

nonce_fits : (n : List ℕ) → is_nonce n ≡ true → fits n
nonce_fits n fine = all_from is_nonce_byte is_string_byte nonce_byte n (and_parts (has_nonce_length n) (list_all is_nonce_byte n) fine).1

-- one parameter
number_param : ℕ → List ℕ
number_param created = 59 ∷ codes "created" ++ value_text (Integer (pos created))

text_param : List ℕ → List ℕ → List ℕ
text_param name s = 59 ∷ name ++ value_text (Str s)

number_param_fits : (created : ℕ) → created < 10 ^ 15 → fits (number_param created)
unfolding number_param
number_param_fits created moment = number_fits created (omega (arith, moment))

text_param_fits : (name s : List ℕ) → fits name → fits s → fits (text_param name s)
unfolding text_param
text_param_fits name s named written = joined_fit (59 ∷ name) (value_text (Str s)) named (quoted_fits s written)

last_param : List ℕ
last_param = 59 ∷ codes "tag" ++ value_text (Str (codes "gnap")) ++ []

params_fit : (id : List ℕ) (created : ℕ) (nonce : Option (List ℕ)) → fits id → created < 10 ^ 15 → IfSome nonce (λ n. is_nonce n ≡ true)
    → fits (params_text (gnap_params id created nonce))
unfolding number_param text_param last_param
params_fit id created None key moment once =
    joined_fit (number_param created) (text_param (codes "keyid") id ++ last_param) (number_param_fits created moment)
    (joined_fit (text_param (codes "keyid") id) last_param (text_param_fits (codes "keyid") id refl key) refl)
params_fit id created (Some n) key moment once =
    joined_fit (number_param created) (text_param (codes "keyid") id ++ (text_param (codes "nonce") n ++ last_param)) (number_param_fits created moment)
    (joined_fit (text_param (codes "keyid") id) (text_param (codes "nonce") n ++ last_param) (text_param_fits (codes "keyid") id refl key)
    (joined_fit (text_param (codes "nonce") n) last_param (text_param_fits (codes "nonce") n refl (nonce_fits n once)) refl))

params_end : (id : List ℕ) (created : ℕ) (nonce : Option (List ℕ)) → EndsIn 34 (params_text (gnap_params id created nonce))
unfolding number_param text_param last_param
params_end id created None =
    ends_more (number_param created) (ends_more (text_param (codes "keyid") id) (record { front = codes ";tag=" ++ 34 ∷ codes "gnap"; is = refl }))
params_end id created (Some n) =
    ends_more (number_param created) (ends_more (text_param (codes "keyid") id) (ends_more (text_param (codes "nonce") n)
    (record { front = codes ";tag=" ++ 34 ∷ codes "gnap"; is = refl })))

module _ (m : Message) (id : List ℕ) (created : ℕ) (nonce : Option (List ℕ)) where
  abbrev items : List ℕ
  items = items_text (has_body m) (has_field (codes "authorization") m)

  abbrev params : List ℕ
  params = params_text (gnap_params id created nonce)

  pub input_fits : list_all is_string_byte id ≡ true → created < 10 ^ 15 → IfSome nonce (λ n. is_nonce n ≡ true)
      → list_all is_string_byte (input_text m (gnap_params id created nonce)) ≡ true
  input_fits key moment once =
      joined_fit (codes "sig1=" ++ (items ++ 41 ∷ params)) []
      (joined_fit items (41 ∷ params) (items_fit (has_body m) (has_field (codes "authorization") m)) (params_fit id created nonce key moment once)) refl

  pub same_input : trim_ows (input_text m (gnap_params id created nonce)) ≡ input_text m (gnap_params id created nonce)
  same_input =
      same_text (input_text m (gnap_params id created nonce)) 34
      (ends_nil (ends_more (codes "sig1=") (ends_more items (ends_more (41 ∷ []) (params_end id created nonce))))) refl refl
