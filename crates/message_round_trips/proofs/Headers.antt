-- A message whose head was written with these field lines is read as they say.
use Rattle.std.proofs.Common.{◌≡◌, ◌∙◌, ℕ, ◌+◌, ◌<◌, ◌≤◌, List, [], ◌∷◌, ◌++◌, length, length-append, map, refl, sym, ap, arith, append_assoc, append-nil}
use Rattle.std.specs.Prelude.{IsTrue, All, IsUtf8, codes}
use Rattle.std.specs.List.{flat_map, AllByRecursion}
use Rattle.std.proofs.lemmas.List.Elements.{All-nil, All-cons}
use Rattle.httparse.specs.Grammar.{Field, crlf, IsField, IsToken, AllPass, is_uri_byte, is_value_byte, trim_ows, print_field, print_request, RequestHead}
use Rattle.httparse.specs.Spans.{name_and_value}
use Rattle.httparse.proofs.GrammarLemmas.{print_request-append}
use Rattle.http1.specs.Fields.{Header}
use Rattle.bytes_and_lists.specs.declared.message.Message.{Message}
use Rattle.http_edge.specs.declared.framing.Framing.TheVariants.{Body}
use Rattle.http_edge.specs.Limits.{head_limit}
use Rattle.http_edge.specs.Framing.{framing_of, asks_to_close}
use Rattle.http_edge.specs.Streams.{headers_of, field_of, IsMessage}

-- ---- field lines

abbrev pub header_line : Header → List ℕ
header_line h = h.0 ++ (codes ": " ++ (h.1 ++ codes "\r\n"))

-- a name that is a token, and a value of one line with no blanks around it
pub record IsWritable (h : Header) : Type 0 where
  pub name : IsToken h.0
  pub value : AllPass is_value_byte h.1
  pub trimmed : trim_ows h.1 ≡ h.1

abbrev line : Header → Field
line h = record { name = h.0; raw = 32 ∷ h.1; end = crlf }

lines_text : (hs : List Header) → flat_map print_field (map line hs) ≡ flat_map header_line hs
lines_text [] = refl
lines_text (h ∷ hs) =
    ap (λ t. t ++ flat_map print_field (map line hs)) (append_assoc h.0 (58 ∷ 32 ∷ h.1) (codes "\r\n")) ∙ ap (λ t. header_line h ++ t) (lines_text hs)

headers_are : (hs : List Header) → AllByRecursion IsWritable hs → map name_and_value (map line hs) ≡ hs
unfolding trim_ows
headers_are [] good = refl
headers_are (h ∷ hs) good = λ i. (h.0, good.0.trimmed i) ∷ headers_are hs good.1 i

good_fields : (hs : List Header) → AllByRecursion IsWritable hs → All IsField (map line hs)
good_fields [] good = All-nil IsField
good_fields (h ∷ hs) good = All-cons IsField (line h) (map line hs)
    (record { name = good.0.name; raw = All-cons (λ b. IsTrue (is_value_byte b)) 32 h.1 refl good.0.value }) (good_fields hs good.1)

-- ---- the message

module _ (method target : List ℕ) (hs : List Header) (body : List ℕ) where
  abbrev pub text_with : List ℕ
  text_with = method ++ (codes " " ++ (target ++ (codes " HTTP/1.1\r\n" ++ (flat_map header_line hs ++ (codes "\r\n" ++ body)))))

  abbrev pub message_with : Message
  message_with = record { method = method; target = target; fields = map field_of hs; body = body; last = asks_to_close hs }

  abbrev head : RequestHead
  head = record { blank = []; method = method; target = target; minor = 1; line_end = crlf; fields = map line hs; last = crlf }

  head_text : text_with ≡ print_request head ++ body
  head_text =
      ap (λ t. method ++ (codes " " ++ (target ++ (codes " HTTP/1.1\r\n" ++ t))))
      (ap (λ s. s ++ (codes "\r\n" ++ body)) (sym (lines_text hs)) ∙ sym (append_assoc (flat_map print_field (map line hs)) (codes "\r\n") body))
      ∙ sym (print_request-append head body)

  pub read_back : IsToken method → (0 < length target) × AllPass is_uri_byte target → IsUtf8 target → AllByRecursion IsWritable hs
      → framing_of hs ≡ Body (length body) → length text_with ≤ head_limit + length body → IsMessage text_with message_with []
  read_back token uri utf8 good framed short =
      let same : headers_of head ≡ hs = headers_are hs good in
      let size : length text_with ≡ length (print_request head) + length body = ap length head_text ∙ length-append (print_request head) body in
      record {
        head = head;
        begins = record {
          reads = (
            record { method = token; target = uri; target_text = utf8; minor = omega arith; fields = good_fields hs good },
            head_text ∙ ap (λ b. print_request head ++ b) (sym (append-nil body)),
          );
          short = omega (arith, size, short);
        };
        framed = ap framing_of same ∙ framed;
        is = ap (λ (l : List Header). record { method = method; target = target; fields = map field_of l; body = body; last = asks_to_close l }) (sym same);
      }
