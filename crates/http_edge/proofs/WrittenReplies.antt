-- A reply that was written is read.
use Rattle.std.proofs.Common.{◌≡◌, ◌∙◌, ℕ, ◌<◌, ◌≤◌, ◌^◌, List, [], ◌∷◌, ◌++◌, length, reverse, map, Bool, true, false, cond, refl, sym, ap, subst, arith, append_assoc, append-nil}
use Rattle.std.specs.Prelude.{Option, Some, None, All, ◌||◌, ◌==◌, nat_le, nat_lt, not, decimal, codes}
use Rattle.std.specs.List.{list_all, flat_map}
use Rattle.std.specs.Char.{is_ascii_digit, digit_value}
use Rattle.std.specs.Str.Parse.{digits_value, AllDigits}
use Rattle.std.proofs.lemmas.Fmt.{decimal_is_IsNumeral}
use Rattle.std.proofs.lemmas.Grind.{flat_map-append}
use Rattle.std.proofs.lemmas.Bool.Decides.{nat_tests}
use Rattle.std.proofs.lemmas.Bool.{and_parts, and_from}
use Rattle.std.proofs.lemmas.List.Sums.{AllPass-from_list_all, list_all-from_AllPass}
use Rattle.std.proofs.lemmas.List.Elements.{All-nil, All-cons, All-append}
use Rattle.httparse.proofs.GrammarLemmas.{print_response-append, cons-append}
use Rattle.httparse.specs.Grammar.{Field, crlf, IsField, AllPass, is_token_byte, is_value_byte, is_ows, skip_ows, trim_ows, print_field, print_response, ResponseHead, IsResponseHead}
use Rattle.httparse.specs.Spans.{name_and_value}
use Rattle.httparse.proofs.TrimLemmas.{trim_ows_space, AllPass-reverse}
use Rattle.http.specs.StatusCode.{IsStatusCode, code_digits}
use Rattle.http1.specs.Text.{eq_ignore_case}
use Rattle.http_edge.specs.declared.reply.HttpReply.{HttpReply}
use Rattle.http_edge.specs.declared.reply.Extra.{Extra}
use Rattle.http_edge.specs.declared.reply.Extra.TheVariants.{Nothing, Allow, Challenge}
use Rattle.http_edge.specs.ReadReplies.{says_length, frames, fits_body}
use Rattle.http_edge.specs.Replies.{is_used, phrase_of, type_line, extra_line, close_line, length_line, body_bytes, head_bytes, reply_bytes, is_method_byte, HasMethods, MayWrite}
use Rattle.http_edge.specs.Laws.{WrittenIsRead}
use Rattle.http_edge.proofs.Targets.{eqb-eq}

-- ---- the statuses

data Used : ℕ → Type 0 where
  ok : Used 200
  no_content : Used 204
  bad_request : Used 400
  unauthorized : Used 401
  forbidden : Used 403
  not_found : Used 404
  not_allowed : Used 405
  too_large : Used 413
  not_implemented : Used 501
  bad_gateway : Used 502
  unavailable : Used 503

pick : (s k : ℕ) (b : Bool) → (s == k) ≡ b → Used k → ((s == k) ≡ false → Used s) → Used s
pick s k true e used next = subst Used (sym (eqb-eq s k e)) used
pick s k false e used next = next e

none_left : (s : ℕ) → is_used s ≡ true → (s == 200) ≡ false → (s == 204) ≡ false → (s == 400) ≡ false → (s == 401) ≡ false → (s == 403) ≡ false
    → (s == 404) ≡ false → (s == 405) ≡ false → (s == 413) ≡ false → (s == 501) ≡ false → (s == 502) ≡ false → (s == 503) ≡ false → ⊥
none_left s e a b c d f g h i j k l = let wrong = rw (a, b, c, d, f, g, h, i, j, k, l) at e in absurd (cc)

used_from : (s : ℕ) → is_used s ≡ true → Used s
used_from s e =
    pick s 200 (s == 200) refl ok (λ a. pick s 204 (s == 204) refl no_content (λ b. pick s 400 (s == 400) refl bad_request (λ c.
    pick s 401 (s == 401) refl unauthorized (λ d. pick s 403 (s == 403) refl forbidden (λ f. pick s 404 (s == 404) refl not_found (λ g.
    pick s 405 (s == 405) refl not_allowed (λ h. pick s 413 (s == 413) refl too_large (λ i. pick s 501 (s == 501) refl not_implemented (λ j.
    pick s 502 (s == 502) refl bad_gateway (λ k. pick s 503 (s == 503) refl unavailable (λ l. absurd (none_left s e a b c d f g h i j k l))))))))))))

pub used_code : (s : ℕ) → is_used s ≡ true → IsStatusCode s
used_code s e = by s (used_from s e)
  where
    by : (s : ℕ) → Used s → IsStatusCode s
    by _ ok = (omega arith, omega arith)
    by _ no_content = (omega arith, omega arith)
    by _ bad_request = (omega arith, omega arith)
    by _ unauthorized = (omega arith, omega arith)
    by _ forbidden = (omega arith, omega arith)
    by _ not_found = (omega arith, omega arith)
    by _ not_allowed = (omega arith, omega arith)
    by _ too_large = (omega arith, omega arith)
    by _ not_implemented = (omega arith, omega arith)
    by _ bad_gateway = (omega arith, omega arith)
    by _ unavailable = (omega arith, omega arith)

passes : (test : ℕ → Bool) (xs : List ℕ) → list_all test xs ≡ true → AllPass test xs
passes test xs e = AllPass-from_list_all test xs e

good_phrase : (s : ℕ) → Used s → list_all is_value_byte (phrase_of s) ≡ true
good_phrase _ ok = refl
good_phrase _ no_content = refl
good_phrase _ bad_request = refl
good_phrase _ unauthorized = refl
good_phrase _ forbidden = refl
good_phrase _ not_found = refl
good_phrase _ not_allowed = refl
good_phrase _ too_large = refl
good_phrase _ not_implemented = refl
good_phrase _ bad_gateway = refl
good_phrase _ unavailable = refl

good_digits : (s : ℕ) → Used s → (list_all is_ascii_digit (code_digits s) ≡ true) × (length (code_digits s) ≡ 3)
good_digits _ ok = (refl, refl)
good_digits _ no_content = (refl, refl)
good_digits _ bad_request = (refl, refl)
good_digits _ unauthorized = (refl, refl)
good_digits _ forbidden = (refl, refl)
good_digits _ not_found = (refl, refl)
good_digits _ not_allowed = (refl, refl)
good_digits _ too_large = (refl, refl)
good_digits _ not_implemented = (refl, refl)
good_digits _ bad_gateway = (refl, refl)
good_digits _ unavailable = (refl, refl)

same_status : (s : ℕ) → Used s → digits_value 10 (code_digits s) ≡ s
same_status _ ok = refl
same_status _ no_content = refl
same_status _ bad_request = refl
same_status _ unauthorized = refl
same_status _ forbidden = refl
same_status _ not_found = refl
same_status _ not_allowed = refl
same_status _ too_large = refl
same_status _ not_implemented = refl
same_status _ bad_gateway = refl
same_status _ unavailable = refl

-- ---- the reply as a head of the grammar

line : List ℕ → List ℕ → Field
line name raw = record { name = name; raw = raw; end = crlf }

type_fields : Option (List ℕ) → List Field
type_fields None = []
type_fields (Some body) = line (codes "Content-Type") (codes " application/json") ∷ []

extra_fields : Extra → List Field
extra_fields Nothing = []
extra_fields (Allow methods) = line (codes "Allow") (32 ∷ methods) ∷ []
extra_fields Challenge = line (codes "WWW-Authenticate") (codes " GNAP") ∷ []

close_fields : Bool → List Field
close_fields true = line (codes "Connection") (codes " close") ∷ []
close_fields false = []

length_fields : Bool → ℕ → List Field
length_fields true n = []
length_fields false n = line (codes "Content-Length") (32 ∷ decimal n) ∷ []

fields_with : Option (List ℕ) → Extra → Bool → Bool → ℕ → List Field
fields_with body extra last none n =
    type_fields body ++ (line (codes "Cache-Control") (codes " no-store") ∷ (extra_fields extra ++ (close_fields last ++ length_fields none n)))

reply_fields : HttpReply → List Field
reply_fields r = fields_with r.body r.extra r.last (r.status == 204) (length (body_bytes r.body))

head_of : HttpReply → ResponseHead
head_of r = record {
  blank = [];
  minor = 1;
  digits = code_digits r.status;
  reason = Some (phrase_of r.status);
  line_end = crlf;
  fields = reply_fields r;
  last = crlf;
}

-- ---- its text

type_text : (body : Option (List ℕ)) → flat_map print_field (type_fields body) ≡ type_line body
unfolding line type_fields
type_text None = refl
type_text (Some body) = refl

close_text : (last : Bool) → flat_map print_field (close_fields last) ≡ close_line last
unfolding line close_fields
close_text true = refl
close_text false = refl

one_line : (front raw : List ℕ) → ((front ++ 58 ∷ 32 ∷ raw ++ 13 ∷ 10 ∷ []) ++ []) ≡ front ++ (58 ∷ 32 ∷ (raw ++ 13 ∷ 10 ∷ []))
one_line front raw = simp (append_assoc, append-nil)

extra_text : (extra : Extra) → flat_map print_field (extra_fields extra) ≡ extra_line extra
unfolding line extra_fields
extra_text Nothing = refl
extra_text (Allow methods) = one_line (codes "Allow") methods
extra_text Challenge = refl

length_text : (none : Bool) (n : ℕ) → flat_map print_field (length_fields none n) ≡ cond none [] (codes "Content-Length: " ++ (decimal n ++ codes "\r\n"))
unfolding line length_fields
length_text true n = refl
length_text false n = one_line (codes "Content-Length") (decimal n)

section_text : (body : Option (List ℕ)) (extra : Extra) (last none : Bool) (n : ℕ) → flat_map print_field (fields_with body extra last none n)
    ≡ type_line body ++ (codes "Cache-Control: no-store\r\n"
    ++ (extra_line extra ++ (close_line last ++ cond none [] (codes "Content-Length: " ++ (decimal n ++ codes "\r\n")))))
unfolding line fields_with
section_text body extra last none n = rw (
  flat_map-append print_field (type_fields body)
      (line (codes "Cache-Control") (codes " no-store") ∷ (extra_fields extra ++ (close_fields last ++ length_fields none n))),
  flat_map-append print_field (extra_fields extra) (close_fields last ++ length_fields none n),
  flat_map-append print_field (close_fields last) (length_fields none n),
  type_text body,
  extra_text extra,
  close_text last,
  length_text none n,
)

regroup : (a b c d e x : List ℕ) → a ++ (b ++ (c ++ (d ++ (e ++ x)))) ≡ (a ++ (b ++ (c ++ (d ++ e)))) ++ x
regroup a b c d e x = simp append_assoc

first_line : (a b e x : List ℕ) → (a ++ (codes " " ++ (b ++ e))) ++ x ≡ a ++ 32 ∷ (b ++ (e ++ x))
first_line a b e x = simp (append_assoc, cons-append)

head_text : (r : HttpReply) → Used r.status → head_bytes r ≡ print_response (head_of r)
unfolding head_bytes head_of reply_fields
head_text r used =
    let e : List ℕ = codes "\r\n" in
    let n : ℕ = length (body_bytes r.body) in
    let section : List ℕ = flat_map print_field (reply_fields r) in
    let fields : type_line r.body ++ (codes "Cache-Control: no-store\r\n"
    ++ (extra_line r.extra ++ (close_line r.last ++ (length_line r.status (decimal n) ++ e)))) ≡ section ++ e =
    regroup (type_line r.body) (codes "Cache-Control: no-store\r\n") (extra_line r.extra) (close_line r.last) (length_line r.status (decimal n)) e
    ∙ ap (λ (t : List ℕ). t ++ e) (sym (section_text r.body r.extra r.last (r.status == 204) n)) in
    let later : List ℕ = type_line r.body
    ++ (codes "Cache-Control: no-store\r\n" ++ (extra_line r.extra ++ (close_line r.last ++ (length_line r.status (decimal n) ++ e)))) in
    ap (λ (t : List ℕ). codes "HTTP/1.1 " ++ t)
    (first_line (code_digits r.status) (phrase_of r.status) e later
    ∙ ap (λ (t : List ℕ). code_digits r.status ++ 32 ∷ (phrase_of r.status ++ (e ++ t))) (fields ∙ sym (append-nil (section ++ e))))
    ∙ sym (print_response-append (head_of r) []) ∙ append-nil (print_response (head_of r))

-- ---- numbers

value_from_digit : (b : ℕ) → is_ascii_digit b ≡ true → is_value_byte b ≡ true
value_from_digit b e = grind (arith, nat_tests)

value_from_method : (b : ℕ) → is_method_byte b ≡ true → is_value_byte b ≡ true
value_from_method b e = grind (arith, nat_tests)

blank_is_no_digit : (b : ℕ) → is_ascii_digit b ≡ true → is_ows b ≡ false
blank_is_no_digit b e = grind (arith, nat_tests)

all_from : (p q : ℕ → Bool) → ((b : ℕ) → p b ≡ true → q b ≡ true) → (xs : List ℕ) → list_all p xs ≡ true → list_all q xs ≡ true
all_from p q f [] e = refl
all_from p q f (x ∷ xs) e = let h = and_parts _ _ e in and_from _ _ (f x h.0) (all_from p q f xs h.1)

is_digit : (c : ℕ) → digit_value c < 10 → is_ascii_digit c ≡ true
is_digit c e = grind (arith, nat_tests)

all_digits : (ds : List ℕ) → AllDigits 10 ds → list_all is_ascii_digit ds ≡ true
all_digits [] e = refl
all_digits (c ∷ ds) e = and_from _ _ (is_digit c e.0) (all_digits ds e.1)

number_digits : (n : ℕ) → n < 2 ^ 63 → list_all is_ascii_digit (decimal n) ≡ true
number_digits n small = all_digits (decimal n) (decimal_is_IsNumeral n (omega arith)).0.1

stays : (v : List ℕ) → list_all is_ascii_digit v ≡ true → skip_ows v ≡ v
stays [] e = refl
stays (c ∷ v) e = rw (blank_is_no_digit c (and_parts _ _ e).0) refl

number_trimmed : (n : ℕ) → n < 2 ^ 63 → trim_ows (32 ∷ decimal n) ≡ decimal n
number_trimmed n small =
    let digits = number_digits n small in
    trim_ows_space (decimal n) (stays (decimal n) digits)
    (stays (reverse (decimal n)) (list_all-from_AllPass is_ascii_digit (reverse (decimal n))
    (AllPass-reverse is_ascii_digit (decimal n) (passes is_ascii_digit (decimal n) digits))))

number_length : (n : ℕ) → n < 2 ^ 63 → says_length (trim_ows (32 ∷ decimal n) ∷ []) n ≡ true
number_length n small =
    let numeral = decimal_is_IsNumeral n (omega arith) in
    rw (number_trimmed n small) (and_from _ _ (and_from _ _ (some (length (decimal n)) numeral.0.0) (number_digits n small))
    (same (digits_value 10 (decimal n)) n numeral.1))
  where
    some : (k : ℕ) → 0 < k → nat_lt 0 k ≡ true
    some k e = grind (arith, nat_tests)

    same : (a b : ℕ) → a ≡ b → (a == b) ≡ true
    same a b e = grind (arith, nat_tests)

-- ---- what the fields say of the body, and that they are few

framed : (ty : Option (List ℕ)) (ex : Extra) (last none : Bool) (n : ℕ) → n < 2 ^ 63
    → (frames (map name_and_value (fields_with ty ex last none n)) n ≡ true) × (nat_le (length (map name_and_value (fields_with ty ex last none n))) 64 ≡ true)
unfolding eq_ignore_case line fields_with type_fields extra_fields close_fields length_fields
framed None Nothing true true n small = (refl, refl)
framed None Nothing false true n small = (refl, refl)
framed None (Allow methods) true true n small = (refl, refl)
framed None (Allow methods) false true n small = (refl, refl)
framed None Challenge true true n small = (refl, refl)
framed None Challenge false true n small = (refl, refl)
framed (Some body) Nothing true true n small = (refl, refl)
framed (Some body) Nothing false true n small = (refl, refl)
framed (Some body) (Allow methods) true true n small = (refl, refl)
framed (Some body) (Allow methods) false true n small = (refl, refl)
framed (Some body) Challenge true true n small = (refl, refl)
framed (Some body) Challenge false true n small = (refl, refl)
framed None Nothing true false n small = (number_length n small, refl)
framed None Nothing false false n small = (number_length n small, refl)
framed None (Allow methods) true false n small = (number_length n small, refl)
framed None (Allow methods) false false n small = (number_length n small, refl)
framed None Challenge true false n small = (number_length n small, refl)
framed None Challenge false false n small = (number_length n small, refl)
framed (Some body) Nothing true false n small = (number_length n small, refl)
framed (Some body) Nothing false false n small = (number_length n small, refl)
framed (Some body) (Allow methods) true false n small = (number_length n small, refl)
framed (Some body) (Allow methods) false false n small = (number_length n small, refl)
framed (Some body) Challenge true false n small = (number_length n small, refl)
framed (Some body) Challenge false false n small = (number_length n small, refl)

-- ---- the fields

good_line : (name raw : List ℕ) → 0 < length name → list_all is_token_byte name ≡ true → list_all is_value_byte raw ≡ true → IsField (line name raw)
unfolding line
good_line name raw some token value = record { name = (some, passes is_token_byte name token); raw = passes is_value_byte raw value }

one_field : (f : Field) → IsField f → All IsField (f ∷ [])
one_field f good = All-cons IsField f [] good (All-nil IsField)

good_type : (body : Option (List ℕ)) → All IsField (type_fields body)
unfolding is_token_byte type_fields
good_type None = All-nil IsField
good_type (Some body) = one_field _ (good_line (codes "Content-Type") (codes " application/json") (omega arith) refl refl)

good_extra : (extra : Extra) → HasMethods extra → All IsField (extra_fields extra)
unfolding is_token_byte extra_fields
good_extra Nothing fits = All-nil IsField
good_extra (Allow methods) fits = one_field _
    (good_line (codes "Allow") (32 ∷ methods) (omega arith) refl (all_from is_method_byte is_value_byte value_from_method methods fits))
good_extra Challenge fits = one_field _ (good_line (codes "WWW-Authenticate") (codes " GNAP") (omega arith) refl refl)

good_close : (last : Bool) → All IsField (close_fields last)
unfolding is_token_byte close_fields
good_close true = one_field _ (good_line (codes "Connection") (codes " close") (omega arith) refl refl)
good_close false = All-nil IsField

good_length : (none : Bool) (n : ℕ) → n < 2 ^ 63 → All IsField (length_fields none n)
unfolding is_token_byte length_fields
good_length true n small = All-nil IsField
good_length false n small = one_field _
    (good_line (codes "Content-Length") (32 ∷ decimal n) (omega arith) refl
    (all_from is_ascii_digit is_value_byte value_from_digit (decimal n) (number_digits n small)))

good_fields : (ty : Option (List ℕ)) (ex : Extra) (last none : Bool) (n : ℕ) → HasMethods ex → n < 2 ^ 63 → All IsField (fields_with ty ex last none n)
unfolding is_token_byte fields_with
good_fields ty ex last none n methods small = All-append IsField (type_fields ty) _ (good_type ty)
    (All-cons IsField (line (codes "Cache-Control") (codes " no-store")) _ (good_line (codes "Cache-Control") (codes " no-store") (omega arith) refl refl)
    (All-append IsField (extra_fields ex) _ (good_extra ex methods)
    (All-append IsField (close_fields last) _ (good_close last) (good_length none n small))))

good_head : (r : HttpReply) → MayWrite r → length (body_bytes r.body) < 2 ^ 63 → IsResponseHead (head_of r)
unfolding head_of reply_fields
good_head r may small = record {
  minor = omega arith;
  digits = let digits = good_digits r.status (used_from r.status may.status) in (digits.1, passes is_ascii_digit (code_digits r.status) digits.0);
  reason = passes is_value_byte (phrase_of r.status) (good_phrase r.status (used_from r.status may.status));
  fields = good_fields r.body r.extra r.last (r.status == 204) (length (body_bytes r.body)) may.methods small;
}

-- ---- the whole

at_most : (n : ℕ) → n ≤ 16384 → nat_le n 16384 ≡ true
at_most n e = grind (arith, nat_tests)

no_body : (status : ℕ) (b : Bool) (body : Option (List ℕ)) → (status == 204) ≡ b → (status ≡ 204 → body ≡ None)
    → (not b || length (body_bytes body) == 0) ≡ true
no_body status false body e none = refl
no_body status true body e none = rw (none (eqb-eq status 204 e)) refl

pub written_is_read_law : WrittenIsRead
unfolding reply_bytes fits_body head_of reply_fields
written_is_read_law r may small short =
    let n : ℕ = length (body_bytes r.body) in
    let used : Used r.status = used_from r.status may.status in
    let text : head_bytes r ≡ print_response (head_of r) = head_text r used in
    let fields = framed r.body r.extra r.last (r.status == 204) n small in
    record {
      head = head_of r;
      reads = (good_head r may small, ap (λ (t : List ℕ). t ++ body_bytes r.body) text);
      fits = and_from _ _ (and_from _ _ (and_from _ _ (at_most _ (subst (λ (t : List ℕ). length t ≤ 16384) text short)) fields.1) fields.0)
          (subst (λ (s : ℕ). (not (s == 204) || n == 0) ≡ true) (sym (same_status r.status used))
          (no_body r.status (r.status == 204) r.body refl may.no_content));
      status_is = sym (same_status r.status used);
    }
