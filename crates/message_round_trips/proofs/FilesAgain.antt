-- A signed file is read as the message that was signed.
use Rattle.std.proofs.Common.{◌≡◌, ◌∙◌, ℕ, ◌+◌, ◌<◌, ◌≤◌, ◌^◌, Bool, true, false, cond, not, ◌&&◌, ◌||◌, List, [], ◌∷◌, ◌++◌, get_or, length, map, Option, Result, Ok, refl, sym, ap, subst, arith, append_assoc}
use Rattle.std.specs.Prelude.{IsTrue, IsUtf8, All, IfSome, bytes_eq, codes, nat_lt}
use Rattle.std.specs.List.{flat_map, list_all, list_any, AllByRecursion}
use Rattle.std.specs.Char.{to_ascii_lowercase, is_ascii_alphanumeric, is_ascii_uppercase}
use Rattle.std.proofs.lemmas.Bool.Decides.{nat_tests}
use Rattle.std.proofs.lemmas.List.{length-map, map-append}
use Rattle.std.proofs.lemmas.List.Elements.{All-head, All-tail, All-map}
use Rattle.std.proofs.lemmas.List.Folds.{flat_map-map}
use Rattle.std.proofs.lemmas.Str.Ascii.{lowercase-lowercase}
use Rattle.httparse.specs.Grammar.{Field as HeadField, IsField, IsToken, AllPass, is_token_byte, is_uri_byte, is_value_byte}
use Rattle.httparse.specs.Spans.{name_and_value}
use Rattle.httparse.proofs.TrimLemmas.{AllPass-trim_ows}
use Rattle.http1.specs.Text.{eq_ignore_case}
use Rattle.http1.specs.Fields.{Header, is_named}
use Rattle.bytes_and_lists.specs.declared.message.Field.{Field}
use Rattle.bytes_and_lists.specs.declared.message.Message.{Message}
use Rattle.structured_fields.specs.Letters.{is_string_byte}
use Rattle.content_digest.specs.Digest.{digest_text}
use Rattle.hmac_key.specs.Hmac.{hmac_sha256}
use Rattle.message_signature.specs.Marks.{is_nonce}
use Rattle.message_signature.specs.Verified.{has_body, has_field}
use Rattle.message_signature.specs.Signed.{field, with_fields, with_digest, signature_input, signature_lines}
use Rattle.http_edge.specs.declared.fault.EdgeFault.TheVariants.{TooLarge, Coded}
use Rattle.http_edge.specs.declared.framing.Framing.{Framing}
use Rattle.http_edge.specs.declared.framing.Framing.TheVariants.{Refused, Body}
use Rattle.http_edge.specs.Framing.{is_coded, lengths_of, lengths_framing, framing_of, asks_to_close}
use Rattle.http_edge.specs.Streams.{headers_of, field_of, IsMessage}
use Rattle.gnap_model.specs.declared.objects.Setup.{Setup}
use Rattle.signed_files.specs.MessageFiles.{IsMessageFile, message, bad_head, too_large, coded, unfinished, empty, followed, to_message, no_message}
use Rattle.signed_files.specs.SignedText.{field_line, message_text, SignsMessage, no_key, signed_before, signs, SignsFile}
use Rattle.message_round_trips.specs.SignedFiles.{headers_in, as_printed, HasReadSize, IsSignedFile, SignedFilesReadBack}
use Rattle.message_round_trips.proofs.Headers.{header_line, IsWritable, text_with, message_with, read_back}
use Rattle.message_round_trips.proofs.SignatureTexts.{written, digest_fits, signature_fits, input_fits, same_digest, same_signature, same_input, signature_text, input_text, gnap_params}
use Rattle.message_round_trips.proofs.Signing.{signed_is}
use Rattle.message_round_trips.proofs.Trimming.{trim_twice}

-- ---- names in lower case

lowered_alnum : (c : ℕ) → is_ascii_uppercase c ≡ true → is_ascii_alphanumeric (to_ascii_lowercase c) ≡ true
lowered_alnum c e = grind (arith, nat_tests)

not_upper : (c : ℕ) → is_ascii_uppercase c ≡ false → to_ascii_lowercase c ≡ c
not_upper c e = grind (arith, nat_tests)

lowered_upper : (c : ℕ) → is_ascii_uppercase c ≡ true → is_token_byte (to_ascii_lowercase c) ≡ true
unfolding is_token_byte
lowered_upper c e = rw (lowered_alnum c e) refl

lowered_token : (c : ℕ) → is_token_byte c ≡ true → is_token_byte (to_ascii_lowercase c) ≡ true
lowered_token c token = by (is_ascii_uppercase c) refl
  where
    by : (b : Bool) → is_ascii_uppercase c ≡ b → is_token_byte (to_ascii_lowercase c) ≡ true
    by true e = lowered_upper c e
    by false e = subst (λ d. is_token_byte d ≡ true) (sym (not_upper c e)) token

lower_twice : (t : List ℕ) → map to_ascii_lowercase (map to_ascii_lowercase t) ≡ map to_ascii_lowercase t
lower_twice [] = refl
lower_twice (c ∷ t) = λ i. lowercase-lowercase c i ∷ lower_twice t i

abbrev lowered : Header → Header
lowered h = (map to_ascii_lowercase h.0, h.1)

abbrev header_of : Field → Header
header_of f = (f.name, f.value)

headers_again : (hs : List Header) → map header_of (map field_of hs) ≡ map lowered hs
headers_again [] = refl
headers_again (h ∷ hs) = ap (λ (more : List Header). lowered h ∷ more) (headers_again hs)

fields_again : (hs : List Header) → map field_of (map lowered hs) ≡ map field_of hs
fields_again [] = refl
fields_again (h ∷ hs) = λ i. record { name = lower_twice h.0 i; value = h.1 } ∷ fields_again hs i

-- ---- the fields of a message that was read

writable : (f : HeadField) → IsField f → IsWritable (lowered (name_and_value f))
writable f valid =
    let size : length (map to_ascii_lowercase f.name) ≡ length f.name = length-map f.name to_ascii_lowercase in
    let some : 0 < length (map to_ascii_lowercase f.name) = omega (arith, size, valid.name.0) in
    record {
      name = (
        some,
        All-map (λ (c : ℕ). IsTrue (is_token_byte c)) to_ascii_lowercase f.name
            (λ k d below. lowered_token (get_or f.name k d) (valid.name.1 k d below)),
      );
      value = AllPass-trim_ows is_value_byte f.raw valid.raw;
      trimmed = trim_twice f.raw;
    }

all_writable : (fs : List HeadField) → All IsField fs → AllByRecursion IsWritable (map lowered (map name_and_value fs))
all_writable [] valid = tt
all_writable (f ∷ fs) valid = (writable f (All-head IsField f fs valid), all_writable fs (All-tail IsField f fs valid))

all_append : (hs more : List Header) → AllByRecursion IsWritable hs → AllByRecursion IsWritable more → AllByRecursion IsWritable (hs ++ more)
all_append [] more first second = second
all_append (h ∷ hs) more first second = (first.0, all_append hs more first.1 second)

-- ---- what they say of the body

same_name : (name : List ℕ) (h : Header) → is_named name (lowered h) ≡ is_named name h
unfolding eq_ignore_case
same_name name h = ap (λ t. bytes_eq t (map to_ascii_lowercase name)) (lower_twice h.0)

module _ (more : List Header) (uncoded : list_any is_coded more ≡ false) (unsized : lengths_of more ≡ []) where
  same_coding : (hs : List Header) → list_any is_coded (map lowered hs ++ more) ≡ list_any is_coded hs
  same_coding [] = uncoded
  same_coding (h ∷ hs) = λ i.
      (same_name (codes "transfer-encoding") h i || same_name (codes "content-encoding") h i) || same_coding hs i

  same_lengths : (hs : List Header) → lengths_of (map lowered hs ++ more) ≡ lengths_of hs
  same_lengths [] = unsized
  same_lengths (h ∷ hs) = λ i. cond (same_name (codes "content-length") h i) (h.1 ∷ []) [] ++ same_lengths hs i

  few : (n : ℕ) → n ≤ 64 → nat_lt 64 n ≡ false
  few n e = grind (arith, nat_tests)

  not_refused : (many : Bool) (x : Framing) (n : ℕ) → cond many (Refused TooLarge) x ≡ Body n → x ≡ Body n
  not_refused true x n e = absurd cc
  not_refused false x n e = e

  same_framing : (hs : List Header) (n : ℕ) → framing_of hs ≡ Body n → length (map lowered hs ++ more) ≤ 64 → framing_of (map lowered hs ++ more) ≡ Body n
  same_framing hs n framed size =
      let all : List Header = map lowered hs ++ more in
      ap (λ (b : Bool). cond b (Refused TooLarge) (cond (list_any is_coded all) (Refused Coded) (lengths_framing (lengths_of all)))) (few (length all) size)
      ∙ ap (λ (b : Bool). cond b (Refused Coded) (lengths_framing (lengths_of all))) (same_coding hs)
      ∙ ap (λ (l : List (List ℕ)). cond (list_any is_coded hs) (Refused Coded) (lengths_framing l)) (same_lengths hs)
      ∙ not_refused (nat_lt 64 (length hs)) (cond (list_any is_coded hs) (Refused Coded) (lengths_framing (lengths_of hs))) n framed

-- ---- a message with more fields

-- field lines that can be read, and say nothing of the body
record AreBeside (more : List Field) : Type 0 where
  good : AllByRecursion IsWritable (map header_of more)
  same : map field_of (map header_of more) ≡ more
  uncoded : list_any is_coded (map header_of more) ≡ false
  unsized : lengths_of (map header_of more) ≡ []

text_is : (m : Message) → message_text m ≡ text_with m.method m.target (headers_in m) m.body
text_is m =
    let behind : List ℕ = flat_map field_line m.fields ++ (codes "\r\n" ++ m.body) in
    append_assoc m.method (codes " " ++ (m.target ++ codes " HTTP/1.1\r\n")) behind
    ∙ ap (λ t. m.method ++ (codes " " ++ t)) (append_assoc m.target (codes " HTTP/1.1\r\n") behind)
    ∙ ap (λ t. m.method ++ (codes " " ++ (m.target ++ (codes " HTTP/1.1\r\n" ++ (t ++ (codes "\r\n" ++ m.body))))))
    (sym (flat_map-map header_line header_of m.fields))

module _ (file : List ℕ) (m : Message) (read : IsMessage file m []) (more : List Field) (beside : AreBeside more) where
  abbrev longer : Message
  longer = with_fields more m

  abbrev hs : List Header
  hs = headers_of read.head

  abbrev all : List Header
  all = map lowered hs ++ map header_of more

  fields_are : m.fields ≡ map field_of hs
  fields_are = ap (λ (k : Message). k.fields) read.is

  headers_are : headers_in longer ≡ all
  headers_are =
      map-append header_of m.fields more
      ∙ ap (λ (l : List Header). l ++ map header_of more) (ap (map header_of) fields_are ∙ headers_again hs)

  message_is : message_with m.method m.target (headers_in longer) m.body ≡ as_printed longer
  message_is =
      let fields : map field_of (headers_in longer) ≡ m.fields ++ more =
      ap (map field_of) headers_are ∙ map-append field_of (map lowered hs) (map header_of more)
      ∙ ap (λ (l : List Field). l ++ map field_of (map header_of more)) (fields_again hs ∙ sym fields_are)
      ∙ ap (λ (l : List Field). m.fields ++ l) beside.same in
      ap (λ (fs : List Field). record { method = m.method; target = m.target; fields = fs; body = m.body; last = asks_to_close (headers_in longer) }) fields

  longer_read : HasReadSize (message_text longer) longer → IsMessage (message_text longer) (as_printed longer) []
  longer_read size =
      let valid = read.begins.reads.0 in
      let body_is : m.method ≡ read.head.method = ap (λ (k : Message). k.method) read.is in
      let target_is : m.target ≡ read.head.target = ap (λ (k : Message). k.target) read.is in
      let count : length all ≡ length longer.fields = ap length (sym headers_are) ∙ length-map longer.fields header_of in
      let framed : framing_of all ≡ Body (length m.body) =
      same_framing (map header_of more) beside.uncoded beside.unsized hs (length m.body) read.framed (omega (arith, count, size.fields)) in
      let same : message_text longer ≡ text_with m.method m.target (headers_in longer) m.body = text_is longer in
      let at : IsMessage (text_with m.method m.target (headers_in longer) m.body) (message_with m.method m.target (headers_in longer) m.body) [] =
      read_back m.method m.target (headers_in longer) m.body
      (subst IsToken (sym body_is) valid.method)
      (subst (λ t. (0 < length t) × AllPass is_uri_byte t) (sym target_is) valid.target)
      (subst IsUtf8 (sym target_is) valid.target_text)
      (subst (AllByRecursion IsWritable) (sym headers_are)
      (all_append (map lowered hs) (map header_of more) (all_writable read.head.fields valid.fields) beside.good))
      (ap framing_of headers_are ∙ framed)
      (subst (λ t. length t ≤ 16384 + length m.body) same size.head) in
      subst (λ t. IsMessage t (as_printed longer) []) (sym same)
      (subst (λ (k : Message). IsMessage (text_with m.method m.target (headers_in longer) m.body) k []) message_is at)

-- ---- the signed message

module _ (id : List ℕ) (created : ℕ) (nonce : Option (List ℕ)) (secret text : List ℕ) (w : Message)
    (key : list_all is_string_byte id ≡ true) (moment : created < 10 ^ 15) (once : IfSome nonce (λ n. is_nonce n ≡ true)) where
  abbrev lines : List Field
  lines = signature_lines (signature_input w (gnap_params id created nonce)) (hmac_sha256 secret text)

  input_line : IsWritable (codes "signature-input", input_text w (gnap_params id created nonce))
  unfolding is_token_byte
  input_line = written (codes "signature-input") (input_text w (gnap_params id created nonce)) (omega arith) refl
      (input_fits w id created nonce key moment once) (same_input w id created nonce)

  signature_line : IsWritable (codes "signature", signature_text (hmac_sha256 secret text))
  unfolding is_token_byte
  signature_line = written (codes "signature") (signature_text (hmac_sha256 secret text)) (omega arith) refl
      (signature_fits secret text) (same_signature (hmac_sha256 secret text))

  digest_line : (body : List ℕ) → IsWritable (codes "content-digest", digest_text body)
  unfolding is_token_byte
  digest_line body = written (codes "content-digest") (digest_text body) (omega arith) refl (digest_fits body) (same_digest body)

  lines_beside : AreBeside lines
  unfolding eq_ignore_case
  lines_beside = record { good = (input_line, (signature_line, tt)); same = refl; uncoded = refl; unsized = refl }

  more_beside : (body : List ℕ) → AreBeside (field (codes "content-digest") (digest_text body) ∷ lines)
  unfolding eq_ignore_case
  more_beside body = record { good = (digest_line body, (input_line, (signature_line, tt))); same = refl; uncoded = refl; unsized = refl }

  -- with the digest of its body, where it is added
  signed_read : (file : List ℕ) (m : Message) → IsMessage file m [] → (adds : Bool)
      → (let n : Message = with_fields lines (cond adds (with_fields (field (codes "content-digest") (digest_text m.body) ∷ []) m) m) in
      HasReadSize (message_text n) n → IsMessage (message_text n) (as_printed n) [])
  signed_read file m read false size = longer_read file m read lines lines_beside size
  signed_read file m read true size =
      let digest : Field = field (codes "content-digest") (digest_text m.body) in
      let same : with_fields (digest ∷ lines) m ≡ with_fields lines (with_fields (digest ∷ []) m) =
      ap (λ (fs : List Field). record m { fields = fs }) (sym (append_assoc m.fields (digest ∷ []) lines)) in
      subst (λ (n : Message). HasReadSize (message_text n) n → IsMessage (message_text n) (as_printed n) []) same
      (longer_read file m read (digest ∷ lines) (more_beside m.body)) size

-- ---- a file

file_is : (text : List ℕ) (r : Result Message (List ℕ)) (m : Message) → IsMessageFile text r → r ≡ Ok m → IsMessage text m []
file_is text _ m (message n is) e = let same : n ≡ m = cc in subst (λ (k : Message). IsMessage text k []) same is
file_is text _ m (bad_head f) e = absurd cc
file_is text _ m (too_large f) e = absurd cc
file_is text _ m (coded f) e = absurd cc
file_is text _ m (unfinished f) e = absurd cc
file_is text _ m (empty f) e = absurd cc
file_is text _ m (followed n byte more f) e = absurd cc

module _ (setup : Setup) (id : List ℕ) (created : ℕ) (nonce : Option (List ℕ)) (file answer : List ℕ)
    (key : list_all is_string_byte id ≡ true) (moment : created < 10 ^ 15) (once : IfSome nonce (λ n. is_nonce n ≡ true)) where
  of_message : (m : Message) → IsMessageFile file (Ok m) → (r : Result (List ℕ) (List ℕ)) → SignsMessage setup id created nonce m r → r ≡ Ok answer
      → IsSignedFile setup id created nonce file answer
  of_message m is _ (no_key none) e = absurd cc
  of_message m is _ (signed_before row found has) e = absurd cc
  of_message m is _ (signs row n found none made) e =
      let printed : message_text n ≡ answer = cc in
      let params = gnap_params id created nonce in
      let made_of = signed_is m n setup.base params row.secret made in
      record {
        message = m;
        is_message = is;
        key = row;
        has_key = found;
        signed = n;
        signs = made;
        prints = sym printed;
        reads = λ size. message (as_printed n) (subst (λ t. IsMessage t (as_printed n) []) printed
            (subst (λ (k : Message). HasReadSize (message_text k) k → IsMessage (message_text k) (as_printed k) []) made_of.is
            (signed_read id created nonce row.secret made_of.text (with_digest m) key moment once file m (file_is file (Ok m) m is refl)
            (has_body m && not (has_field (codes "content-digest") m))) (subst (λ t. HasReadSize t n) (sym printed) size)));
      }

  of_file : (r : Result (List ℕ) (List ℕ)) → SignsFile setup id created nonce file r → r ≡ Ok answer → IsSignedFile setup id created nonce file answer
  of_file _ (to_message m r is made) e = of_message m is r made e
  of_file _ (no_message name is) e = absurd cc

pub files_read_back : SignedFilesReadBack
files_read_back setup id created nonce file answer key moment once made = of_file setup id created nonce file answer key moment once (Ok answer) made refl
