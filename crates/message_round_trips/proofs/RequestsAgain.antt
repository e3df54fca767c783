-- A signed request is read as the message that was signed.
use Rattle.std.proofs.Common.{◌≡◌, ◌∙◌, ℕ, ◌+◌, ◌<◌, ◌≤◌, ◌^◌, Bool, true, false, cond, not, ◌&&◌, List, [], ◌∷◌, ◌++◌, length, map, reverse, Option, Some, None, refl, sym, ap, subst, arith, append_assoc, append-nil}
use Rattle.std.specs.Prelude.{nat_lt, nat_le, IfSome, IsAscii, codes, decimal, option_map}
use Rattle.std.specs.List.{flat_map, list_all, AllByRecursion}
use Rattle.std.specs.Char.{is_ascii_digit, is_ascii_alphanumeric}
use Rattle.std.specs.Str.Parse.{digits_value}
use Rattle.std.proofs.lemmas.Bool.{and_parts, and_from}
use Rattle.std.proofs.lemmas.Bool.Decides.{nat_tests}
use Rattle.std.proofs.lemmas.Fmt.{decimal_is_IsNumeral}
use Rattle.std.proofs.lemmas.Grind.{flat_map-append}
use Rattle.std.proofs.lemmas.List.Folds.{flat_map-map}
use Rattle.std.proofs.lemmas.List.Sums.{AllPass-from_list_all, list_all-from_AllPass}
use Rattle.std.proofs.lemmas.List.{length-reverse, reverse-append}
use Rattle.std.proofs.lemmas.Str.{IsUtf8-from_ascii}
use Rattle.std.proofs.lemmas.Str.Ascii.{IsAscii-nil, IsAscii-cons}
use Rattle.httparse.specs.Grammar.{IsToken, is_token_byte, is_uri_byte, is_ows, skip_ows, trim_ows}
use Rattle.httparse.proofs.TrimLemmas.{AllPass-reverse, trim_ows_space}
use Rattle.http1.specs.Text.{eq_ignore_case}
use Rattle.http1.specs.Fields.{Header, elements}
use Rattle.bytes_and_lists.specs.declared.message.Field.{Field}
use Rattle.bytes_and_lists.specs.declared.message.Message.{Message}
use Rattle.structured_fields.specs.declared.bare.Bare.{Bare}
use Rattle.structured_fields.specs.Letters.{is_string_byte}
use Rattle.structured_fields.proofs.Fronts.{mapped}
use Rattle.content_digest.specs.Digest.{digest_text}
use Rattle.hmac_key.specs.Hmac.{hmac_sha256}
use Rattle.message_signature.specs.Components.{authority_of, field_value}
use Rattle.message_signature.specs.Marks.{is_nonce}
use Rattle.message_signature.specs.Signed.{with_fields, with_digest, params_of, signature_input, signature_lines, signed_under}
use Rattle.http_edge.specs.declared.fault.EdgeFault.TheVariants.{BadHead, TooLarge}
use Rattle.http_edge.specs.declared.framing.Framing.TheVariants.{Refused, Body}
use Rattle.http_edge.specs.Framing.{is_digits, length_framing, framing_of, asks_to_close}
use Rattle.http_edge.specs.Streams.{field_of, IsMessage}
use Rattle.signed_requests.specs.declared.unsigned.UnsignedRequest.{UnsignedRequest}
use Rattle.signed_requests.specs.declared.unsigned.Scheme.{Scheme}
use Rattle.signed_requests.specs.declared.unsigned.Scheme.TheVariants.{Gnap, Bearer}
use Rattle.signed_requests.specs.Forms.{is_capital, is_method, is_visible, begins_with_slash, is_target}
use Rattle.signed_requests.specs.Requests.{scheme_text, unsigned_message, spelt, spelt_line, body_length_line, request_bytes, signed_request, marked_request}
use Rattle.message_round_trips.specs.SignedRequests.{HasVisibleToken, CanBeRead, length_fields, IsReadAsSigned, SignedRequestsReadBack, MarkedRequestsReadBack}
use Rattle.message_round_trips.proofs.Headers.{header_line, IsWritable, text_with, message_with, read_back}
use Rattle.message_round_trips.proofs.SignatureTexts.{all_from, written, joined_fit, all_digits, number_fits, digest_fits, signature_fits, input_fits, same_digest, same_signature, same_input, signature_text, input_text, gnap_params}
use Rattle.message_round_trips.proofs.Signing.{signed_is}

-- ---- the method and the target

some : (n : ℕ) → nat_lt 0 n ≡ true → 0 < n
some n e = grind (arith, nat_tests)

capital_alnum : (b : ℕ) → is_capital b ≡ true → is_ascii_alphanumeric b ≡ true
capital_alnum b e = grind (arith, nat_tests)

capital_token : (b : ℕ) → is_capital b ≡ true → is_token_byte b ≡ true
unfolding is_token_byte
capital_token b e = rw (capital_alnum b e) refl

method_token : (s : List ℕ) → is_method s ≡ true → IsToken s
method_token s e =
    let outer = and_parts (nat_lt 0 (length s) && nat_le (length s) 15) (list_all is_capital s) e in
    let inner = and_parts (nat_lt 0 (length s)) (nat_le (length s) 15) outer.0 in
    (some (length s) inner.0, AllPass-from_list_all is_token_byte s (all_from is_capital is_token_byte capital_token s outer.1))

visible_uri : (b : ℕ) → is_visible b ≡ true → is_uri_byte b ≡ true
visible_uri b e = grind (arith, nat_tests)

visible_ascii : (b : ℕ) → is_visible b ≡ true → b < 128
visible_ascii b e = grind (arith, nat_tests)

ascii : (s : List ℕ) → list_all is_visible s ≡ true → IsAscii s
ascii [] e = IsAscii-nil
ascii (b ∷ s) e = let h = and_parts (is_visible b) (list_all is_visible s) e in IsAscii-cons b s (visible_ascii b h.0) (ascii s h.1)

some_target : (s : List ℕ) → begins_with_slash s ≡ true → 0 < length s
some_target [] e = absurd cc
some_target (b ∷ s) e = omega arith

-- the two tests of a target
record IsVisibleTarget (s : List ℕ) : Type 0 where
  some : 0 < length s
  visible : list_all is_visible s ≡ true

target_parts : (s : List ℕ) → is_target s ≡ true → IsVisibleTarget s
target_parts s e =
    let outer = and_parts (begins_with_slash s && nat_le (length s) 2048) (list_all is_visible s) e in
    let inner = and_parts (begins_with_slash s) (nat_le (length s) 2048) outer.0 in
    record { some = some_target s inner.0; visible = outer.1 }

-- ---- visible texts have nothing to be trimmed

visible_text : (b : ℕ) → is_visible b ≡ true → is_string_byte b ≡ true
visible_text b e = grind (arith, nat_tests)

visible_ows : (b : ℕ) → is_visible b ≡ true → is_ows b ≡ false
visible_ows b e = grind (arith, nat_tests)

stays : (v : List ℕ) → list_all is_visible v ≡ true → skip_ows v ≡ v
stays [] e = refl
stays (c ∷ v) e = rw (visible_ows c (and_parts _ _ e).0) refl

turned : (v : List ℕ) → list_all is_visible v ≡ true → list_all is_visible (reverse v) ≡ true
turned v e = list_all-from_AllPass is_visible (reverse v) (AllPass-reverse is_visible v (AllPass-from_list_all is_visible v e))

same_visible : (v : List ℕ) → list_all is_visible v ≡ true → trim_ows v ≡ v
unfolding trim_ows
same_visible v e = trim_ows_space v (stays v e) (stays (reverse v) (turned v e))

begins_visible : (a b : List ℕ) → 0 < length a → list_all is_visible a ≡ true → skip_ows (a ++ b) ≡ a ++ b
begins_visible [] b more e = absurd (omega (arith, more))
begins_visible (c ∷ a) b more e = rw (visible_ows c (and_parts _ _ e).0) refl

-- a text that begins and ends so
same_ends : (first : ℕ) (front back : List ℕ) → is_ows first ≡ false → 0 < length back → list_all is_visible back ≡ true
    → trim_ows ((first ∷ front) ++ back) ≡ (first ∷ front) ++ back
unfolding trim_ows
same_ends first front back other more e =
    let around : reverse ((first ∷ front) ++ back) ≡ reverse back ++ reverse (first ∷ front) = reverse-append (first ∷ front) back in
    let many : 0 < length (reverse back) = omega (arith, length-reverse back, more) in
    trim_ows_space ((first ∷ front) ++ back) (rw other refl)
    (ap skip_ows around ∙ begins_visible (reverse back) (reverse (first ∷ front)) many (turned back e) ∙ sym around)

-- ---- numbers

digit_visible : (c : ℕ) → is_ascii_digit c ≡ true → is_visible c ≡ true
digit_visible c e = grind (arith, nat_tests)

number_visible : (n : ℕ) → n < 2 ^ 64 → list_all is_visible (decimal n) ≡ true
number_visible n small = all_from is_ascii_digit is_visible digit_visible (decimal n) (all_digits (decimal n) (decimal_is_IsNumeral n small).0.1)

framed_by : (ok over : Bool) (n k : ℕ) → ok ≡ true → over ≡ false → n ≡ k
    → cond (not ok) (Refused BadHead) (cond over (Refused TooLarge) (Body n)) ≡ Body k
framed_by true false n k p q same = ap (λ (x : ℕ). Body x) same
framed_by true true n k p q same = absurd cc
framed_by false over n k p q same = absurd cc

within : (n : ℕ) → n ≤ 65536 → nat_lt 65536 n ≡ false
within n few = grind (arith, nat_tests)

is_some_length : (n : ℕ) → 0 < n → nat_lt 0 n ≡ true
is_some_length n e = grind (arith, nat_tests)

length_framed : (n : ℕ) → n ≤ 65536 → length_framing (decimal n) ≡ Body n
length_framed n few =
    let numeral = decimal_is_IsNumeral n (omega (arith, few)) in
    framed_by (is_digits (decimal n)) (nat_lt 65536 (digits_value 10 (decimal n))) (digits_value 10 (decimal n)) n
    (and_from _ _ (is_some_length (length (decimal n)) numeral.0.0) (all_digits (decimal n) numeral.0.1))
    (ap (nat_lt 65536) numeral.1 ∙ within n few) numeral.1

-- ---- the field lines

abbrev spelt_header : Field → Header
spelt_header f = (spelt f.name, f.value)

abbrev length_headers : List ℕ → List Header
length_headers [] = []
length_headers (byte ∷ body) = (codes "Content-Length", decimal (length (byte ∷ body))) ∷ []

abbrev sent_headers : Message → List Header
sent_headers n = map spelt_header n.fields ++ length_headers n.body

length_text : (body : List ℕ) → flat_map header_line (length_headers body) ≡ body_length_line body
length_text [] = refl
length_text (byte ∷ body) = append-nil (codes "Content-Length: " ++ (decimal (length (byte ∷ body)) ++ codes "\r\n"))

sent_text : (n : Message) → request_bytes n ≡ text_with n.method n.target (sent_headers n) n.body
sent_text n =
    let lines : List ℕ = flat_map spelt_line n.fields in
    let size : List ℕ = body_length_line n.body in
    let tail : List ℕ = codes "\r\n" ++ n.body in
    let both : flat_map header_line (sent_headers n) ≡ lines ++ size =
    flat_map-append header_line (map spelt_header n.fields) (length_headers n.body)
    ∙ ap (λ t. t ++ flat_map header_line (length_headers n.body)) (flat_map-map header_line spelt_header n.fields)
    ∙ ap (λ t. lines ++ t) (length_text n.body) in
    ap (λ t. n.method ++ (codes " " ++ (n.target ++ (codes " HTTP/1.1\r\n" ++ t)))) (sym (append_assoc lines size tail) ∙ ap (λ t. t ++ tail) (sym both))

-- ---- each line of a request

host_line : (host : List ℕ) → list_all is_visible host ≡ true → IsWritable (codes "Host", host)
unfolding is_token_byte
host_line host e = written (codes "Host") host (omega arith) refl (all_from is_visible is_string_byte visible_text host e) (same_visible host e)

close_line : IsWritable (codes "Connection", codes "close")
unfolding is_token_byte trim_ows
close_line = written (codes "Connection") (codes "close") (omega arith) refl refl refl

token_line : (scheme : Scheme) (token : List ℕ) → 0 < length token → list_all is_visible token ≡ true
    → IsWritable (codes "Authorization", scheme_text scheme ++ token)
unfolding is_token_byte
token_line Gnap token more e = written (codes "Authorization") (codes "GNAP " ++ token) (omega arith) refl
    (joined_fit (codes "GNAP ") token refl (all_from is_visible is_string_byte visible_text token e)) (same_ends 71 (codes "NAP ") token refl more e)
token_line Bearer token more e = written (codes "Authorization") (codes "Bearer " ++ token) (omega arith) refl
    (joined_fit (codes "Bearer ") token refl (all_from is_visible is_string_byte visible_text token e)) (same_ends 66 (codes "earer ") token refl more e)

type_line : IsWritable (codes "Content-Type", codes "application/json")
unfolding is_token_byte trim_ows
type_line = written (codes "Content-Type") (codes "application/json") (omega arith) refl refl refl

digest_line : (body : List ℕ) → IsWritable (codes "Content-Digest", digest_text body)
unfolding is_token_byte
digest_line body = written (codes "Content-Digest") (digest_text body) (omega arith) refl (digest_fits body) (same_digest body)

input_line : (w : Message) (id : List ℕ) (created : ℕ) (nonce : Option (List ℕ)) → list_all is_string_byte id ≡ true → created < 10 ^ 15
    → IfSome nonce (λ n. is_nonce n ≡ true) → IsWritable (codes "Signature-Input", input_text w (gnap_params id created nonce))
unfolding is_token_byte
input_line w id created nonce key moment once =
    written (codes "Signature-Input") (input_text w (gnap_params id created nonce)) (omega arith) refl
    (input_fits w id created nonce key moment once) (same_input w id created nonce)

signature_line : (secret text : List ℕ) → IsWritable (codes "Signature", signature_text (hmac_sha256 secret text))
unfolding is_token_byte
signature_line secret text =
    written (codes "Signature") (signature_text (hmac_sha256 secret text)) (omega arith) refl
    (signature_fits secret text) (same_signature (hmac_sha256 secret text))

length_line : (n : ℕ) → n ≤ 65536 → IsWritable (codes "Content-Length", decimal n)
unfolding is_token_byte
length_line n few =
    let small : n < 2 ^ 64 = omega (arith, few) in
    written (codes "Content-Length") (decimal n) (omega arith) refl (number_fits n small) (same_visible (decimal n) (number_visible n small))

-- ---- the message that is sent

-- what its lines say, and that they can be read
record IsSent (method target body : List ℕ) (n : Message) : Type 0 where
  method_is : n.method ≡ method
  target_is : n.target ≡ target
  body_is : n.body ≡ body
  framed : framing_of (sent_headers n) ≡ Body (length n.body)
  closes : asks_to_close (sent_headers n) ≡ n.last
  fields : map field_of (sent_headers n) ≡ n.fields ++ length_fields n.body
  good : AllByRecursion IsWritable (sent_headers n)

module _ (base method target id : List ℕ) (created : ℕ) (nonce : Option (List ℕ)) (secret text : List ℕ) (host : list_all is_visible (authority_of base) ≡ true)
    (key : list_all is_string_byte id ≡ true) (moment : created < 10 ^ 15) (once : IfSome nonce (λ n. is_nonce n ≡ true)) where
  abbrev digested : Option (Scheme × List ℕ) → List ℕ → Message
  digested presented body = with_digest (unsigned_message base (record { method = method; target = target; presented = presented; body = body }))

  abbrev made : Option (Scheme × List ℕ) → List ℕ → Message
  made presented body =
      let w = digested presented body in
      with_fields (signature_lines (signature_input w (params_of id created nonce (codes "gnap"))) (hmac_sha256 secret text)) w

  is_sent : (presented : Option (Scheme × List ℕ)) (body : List ℕ) → HasVisibleToken presented → length body ≤ 65536
      → IsSent method target body (made presented body)
  unfolding field_value spelt eq_ignore_case elements trim_ows
  is_sent None [] token few = record {
    method_is = refl;
    target_is = refl;
    body_is = refl;
    framed = refl;
    closes = refl;
    fields = refl;
    good = (
      host_line (authority_of base) host,
      (
        close_line,
        (input_line (digested None []) id created nonce key moment once, (signature_line secret text, tt)),
      ),
    );
  }
  is_sent None (byte ∷ body) token few = record {
    method_is = refl;
    target_is = refl;
    body_is = refl;
    framed = length_framed (length (byte ∷ body)) few;
    closes = refl;
    fields = refl;
    good = (
      host_line (authority_of base) host,
      (
        close_line,
        (
          type_line,
          (
            digest_line (byte ∷ body),
            (
              input_line (digested None (byte ∷ body)) id created nonce key moment once,
              (
                signature_line secret text,
                (length_line (length (byte ∷ body)) few, tt),
              ),
            ),
          ),
        ),
      ),
    );
  }
  is_sent (Some presented) [] token few = record {
    method_is = refl;
    target_is = refl;
    body_is = refl;
    framed = refl;
    closes = refl;
    fields = refl;
    good = (
      host_line (authority_of base) host,
      (
        close_line,
        (
          token_line presented.0 presented.1 token.0 token.1,
          (input_line (digested (Some presented) []) id created nonce key moment once, (signature_line secret text, tt)),
        ),
      ),
    );
  }
  is_sent (Some presented) (byte ∷ body) token few = record {
    method_is = refl;
    target_is = refl;
    body_is = refl;
    framed = length_framed (length (byte ∷ body)) few;
    closes = refl;
    fields = refl;
    good = (
      host_line (authority_of base) host,
      (
        close_line,
        (
          token_line presented.0 presented.1 token.0 token.1,
          (
            type_line,
            (
              digest_line (byte ∷ body),
              (
                input_line (digested (Some presented) (byte ∷ body)) id created nonce key moment once,
                (signature_line secret text, (length_line (length (byte ∷ body)) few, tt)),
              ),
            ),
          ),
        ),
      ),
    );
  }

-- ---- it is read

module _ (method target body : List ℕ) (n : Message) (sent : IsSent method target body n) where
  abbrev hs : List Header
  hs = sent_headers n

  message_is : message_with n.method n.target hs n.body ≡ with_fields (length_fields body) n
  message_is =
      ap (λ (fs : List Field). record { method = n.method; target = n.target; fields = fs; body = n.body; last = asks_to_close hs }) sent.fields
      ∙ ap (λ (l : Bool). record { method = n.method; target = n.target; fields = n.fields ++ length_fields n.body; body = n.body; last = l }) sent.closes
      ∙ ap (λ (b : List ℕ). with_fields (length_fields b) n) sent.body_is

  reads_sent : IsToken method → IsVisibleTarget target → length (request_bytes n) ≤ 16384 + length n.body
      → IsMessage (request_bytes n) (with_fields (length_fields body) n) []
  reads_sent token seen short =
      let same : request_bytes n ≡ text_with n.method n.target hs n.body = sent_text n in
      let fine : IsVisibleTarget n.target = subst IsVisibleTarget (sym sent.target_is) seen in
      let uri = AllPass-from_list_all is_uri_byte n.target (all_from is_visible is_uri_byte visible_uri n.target fine.visible) in
      let read : IsMessage (text_with n.method n.target hs n.body) (message_with n.method n.target hs n.body) [] =
      read_back n.method n.target hs n.body (subst IsToken (sym sent.method_is) token) (fine.some, uri)
      (IsUtf8-from_ascii n.target (ascii n.target fine.visible))
      sent.good sent.framed (subst (λ t. length t ≤ 16384 + length n.body) same short) in
      subst (λ t. IsMessage t (with_fields (length_fields body) n) []) (sym same)
      (subst (λ (k : Message). IsMessage (text_with n.method n.target hs n.body) k []) message_is read)

module _ (base id secret : List ℕ) (now : ℕ) (nonce : Option (List ℕ)) (request : UnsignedRequest) (bytes : List ℕ) (can : CanBeRead base id now request)
    (once : IfSome nonce (λ n. is_nonce n ≡ true)) where
  abbrev params : List (List ℕ × Bare)
  params = params_of id now nonce (codes "gnap")

  read_as_signed : option_map request_bytes (signed_under (unsigned_message base request) base params secret) ≡ Some bytes
      → IsReadAsSigned base id secret now nonce request bytes
  read_as_signed is =
      let m = unsigned_message base request in
      let made_of = mapped request_bytes (signed_under m base params secret) bytes is in
      let made = signed_is m made_of.0 base params secret made_of.1 in
      let n : Message = made_of.0 in
      let sent : IsSent request.method request.target request.body n = subst (IsSent request.method request.target request.body) made.is
      (is_sent base request.method request.target id now nonce secret made.text can.authority can.key can.moment once
      request.presented request.body can.token can.body) in
      let size : length (request_bytes n) ≡ length bytes = ap length made_of.2 in
      let body_size : length n.body ≡ length request.body = ap length sent.body_is in
      record {
        signed = n;
        signs = made_of.1;
        reads = λ short. subst (λ t. IsMessage t (with_fields (length_fields request.body) n) []) made_of.2
            (reads_sent request.method request.target request.body n sent (method_token request.method can.method) (target_parts request.target can.target)
            (omega (arith, size, body_size, short)));
      }

pub signed_read_back : SignedRequestsReadBack
unfolding signed_request
signed_read_back base id secret now request bytes can is = read_as_signed base id secret now None request bytes can tt is

pub marked_read_back : MarkedRequestsReadBack
unfolding marked_request
marked_read_back base id secret now nonce request bytes can once is = read_as_signed base id secret now (Some nonce) request bytes can once is
