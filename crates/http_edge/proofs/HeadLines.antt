-- The lines of a head, byte by byte: the last of them is empty.
use Rattle.std.proofs.Common.{get_or, ◌≡◌, ℕ, ◌+◌, ◌∙◌, ◌++◌, ◌≤◌, List, [], ◌∷◌, refl, sym, ap, arith, Bool, true, false, cond}
use Rattle.std.proofs.lemmas.Bool.{or_parts, not-true}
use Rattle.std.specs.Prelude.{IsTrue, fold, ◌==◌, ◌&&◌, not, All, flat_map}
use Rattle.std.proofs.lemmas.List.Elements.{All-head, All-tail}
use Rattle.std.proofs.lemmas.Bool.Decides.{nat_tests}
use Rattle.std.proofs.lemmas.List.Sums.{fold-append}
use Rattle.httparse.specs.Pieces.{is_newline}
use Rattle.httparse.proofs.PieceLemmas.{token_is_no_newline}
use Rattle.httparse.specs.Grammar.{Field, print_field, IsField, LineEnd, lf, crlf, print_end, print_version, print_section, print_blank, print_request, IsToken, AllPass, is_uri_byte, is_value_byte, is_token_byte, RequestHead, IsRequestHead}
use Rattle.http_edge.specs.declared.places.LinePlace.{LinePlace}
use Rattle.http_edge.specs.declared.places.LinePlace.TheVariants.{BlankLines, InLine, LineStart, StartBehindCr, BehindHead}
use Rattle.http_edge.specs.Streams.{HasNoMessage}
use Rattle.http_edge.specs.Steps.{next_line_place, is_behind_head}

-- a byte other than LF
is_inside : ℕ → Bool
is_inside c = not (c == 10)

-- a byte other than CR and LF
is_first : ℕ → Bool
is_first c = not (c == 10) && not (c == 13)

token_first : (c : ℕ) → is_token_byte c ≡ true → ((c == 10) ≡ false) × ((c == 13) ≡ false)
token_first c token =
    let newline : is_newline c ≡ false = token_is_no_newline c token in
    let parts = or_parts (c == 13) (c == 10) newline in
    (parts.1, parts.0)

one_step : (c : ℕ) → (c == 10) ≡ false → next_line_place InLine c ≡ InLine
one_step c other = ap (λ (k : Bool). cond k LineStart InLine) other

stays_in_line : (t : List ℕ) → AllPass is_inside t → fold next_line_place InLine t ≡ InLine
unfolding is_inside
stays_in_line [] all = refl
stays_in_line (c ∷ t) all =
    ap (λ (k : LinePlace). fold next_line_place k t) (one_step c (not-true (c == 10) (All-head (λ (x : ℕ). IsTrue (is_inside x)) c t all)))
    ∙ stays_in_line t (All-tail (λ (x : ℕ). IsTrue (is_inside x)) c t all)

inside_from_token : (c : ℕ) → is_token_byte c ≡ true → is_inside c ≡ true
unfolding is_inside
inside_from_token c token = ap not (token_first c token).0

inside_from_uri : (c : ℕ) → is_uri_byte c ≡ true → is_inside c ≡ true
unfolding is_inside
inside_from_uri c h = grind (arith, nat_tests)

inside_from_value : (c : ℕ) → is_value_byte c ≡ true → is_inside c ≡ true
unfolding is_inside
inside_from_value c h = grind (arith, nat_tests)

all_inside : (test : ℕ → Bool) → ((c : ℕ) → test c ≡ true → is_inside c ≡ true) → (t : List ℕ) → AllPass test t → AllPass is_inside t
all_inside test from t all = λ k d below. from (get_or t k d) (all k d below)

blank_lines : (ends : List LineEnd) → fold next_line_place BlankLines (print_blank ends) ≡ BlankLines
blank_lines [] = refl
blank_lines (crlf ∷ ends) = blank_lines ends
blank_lines (lf ∷ ends) = blank_lines ends

-- a line begins, the first one or a later one
word_first : (place : LinePlace) (t : List ℕ) → ((c : ℕ) → (c == 10) ≡ false → (c == 13) ≡ false → next_line_place place c ≡ InLine) → IsToken t
    → fold next_line_place place t ≡ InLine
word_first place [] step token = absurd (omega (arith, token.0))
word_first place (c ∷ t) step token =
    let first = token_first c (All-head (λ (x : ℕ). IsTrue (is_token_byte x)) c t token.1) in
    ap (λ (k : LinePlace). fold next_line_place k t) (step c first.0 first.1)
    ∙ stays_in_line t (all_inside is_token_byte inside_from_token t (All-tail (λ (x : ℕ). IsTrue (is_token_byte x)) c t token.1))

from_blank : (c : ℕ) → (c == 10) ≡ false → (c == 13) ≡ false → next_line_place BlankLines c ≡ InLine
from_blank c first second = ap (λ (k : Bool). cond k BlankLines (cond (c == 13) BlankLines InLine)) first ∙ ap (λ (k : Bool). cond k BlankLines InLine) second

from_start : (c : ℕ) → (c == 10) ≡ false → (c == 13) ≡ false → next_line_place LineStart c ≡ InLine
from_start c first second = ap (λ (k : Bool). cond k BehindHead (cond (c == 13) StartBehindCr InLine)) first
    ∙ ap (λ (k : Bool). cond k StartBehindCr InLine) second

line_ends : (e : LineEnd) → fold next_line_place InLine (print_end e) ≡ LineStart
line_ends crlf = refl
line_ends lf = refl

empty_line : (e : LineEnd) → fold next_line_place LineStart (print_end e) ≡ BehindHead
empty_line crlf = refl
empty_line lf = refl

stays_behind : (t : List ℕ) → fold next_line_place BehindHead t ≡ BehindHead
stays_behind [] = refl
stays_behind (c ∷ t) = stays_behind t

field_line : (f : Field) → IsField f → fold next_line_place LineStart (print_field f) ≡ LineStart
field_line f valid =
    let name : fold next_line_place LineStart f.name ≡ InLine = word_first LineStart f.name from_start valid.name in
    let raw : fold next_line_place InLine (58 ∷ f.raw) ≡ InLine = stays_in_line f.raw (all_inside is_value_byte inside_from_value f.raw valid.raw) in
    fold-append next_line_place LineStart (f.name ++ 58 ∷ f.raw) (print_end f.end)
    ∙ ap (λ (k : LinePlace). fold next_line_place k (print_end f.end))
    (fold-append next_line_place LineStart f.name (58 ∷ f.raw) ∙ ap (λ (k : LinePlace). fold next_line_place k (58 ∷ f.raw)) name ∙ raw)
    ∙ line_ends f.end

field_lines : (fs : List Field) → All IsField fs → fold next_line_place LineStart (flat_map print_field fs) ≡ LineStart
field_lines [] all = refl
field_lines (f ∷ fs) all =
    fold-append next_line_place LineStart (print_field f) (flat_map print_field fs)
    ∙ ap (λ (k : LinePlace). fold next_line_place k (flat_map print_field fs)) (field_line f (All-head IsField f fs all))
    ∙ field_lines fs (All-tail IsField f fs all)

section_lines : (fs : List Field) (last : LineEnd) → All IsField fs → fold next_line_place LineStart (print_section fs last) ≡ BehindHead
section_lines fs last all =
    fold-append next_line_place LineStart (flat_map print_field fs) (print_end last)
    ∙ ap (λ (k : LinePlace). fold next_line_place k (print_end last)) (field_lines fs all)
    ∙ empty_line last

version_line : (minor : ℕ) → minor ≤ 1 → fold next_line_place InLine (32 ∷ print_version minor) ≡ InLine
version_line minor small = let other : (48 + minor == 10) ≡ false = grind (arith, nat_tests) in one_step (48 + minor) other

-- the place behind a part, from the place before it
along : (place : LinePlace) (a b : List ℕ) (mid end : LinePlace) → fold next_line_place place a ≡ mid → fold next_line_place mid b ≡ end
    → fold next_line_place place (a ++ b) ≡ end
along place a b mid end first second = fold-append next_line_place place a b ∙ ap (λ (k : LinePlace). fold next_line_place k b) first ∙ second

head_lines : (h : RequestHead) → IsRequestHead h → fold next_line_place BlankLines (print_request h) ≡ BehindHead
unfolding print_request
head_lines h valid =
    let first : List ℕ = print_blank h.blank ++ h.method in
    let second : List ℕ = first ++ 32 ∷ h.target in
    let third : List ℕ = second ++ 32 ∷ print_version h.minor in
    along BlankLines (third ++ print_end h.line_end) (print_section h.fields h.last) LineStart BehindHead
    (along BlankLines third (print_end h.line_end) InLine LineStart
    (along BlankLines second (32 ∷ print_version h.minor) InLine InLine
    (along BlankLines first (32 ∷ h.target) InLine InLine
    (along BlankLines (print_blank h.blank) h.method BlankLines InLine (blank_lines h.blank) (word_first BlankLines h.method from_blank valid.method))
    (stays_in_line h.target (all_inside is_uri_byte inside_from_uri h.target valid.target.1)))
    (version_line h.minor valid.minor))
    (line_ends h.line_end))
    (section_lines h.fields h.last valid.fields)

-- before an empty line came there is no whole message
pub no_message_yet : (b : List ℕ) → ¬ (fold next_line_place BlankLines b ≡ BehindHead) → HasNoMessage b
no_message_yet b before m rest x =
    before (ap (fold next_line_place BlankLines) x.begins.reads.1
    ∙ along BlankLines (print_request x.head) (m.body ++ rest) BehindHead BehindHead (head_lines x.head x.begins.reads.0) (stays_behind (m.body ++ rest)))

pub not_behind : (place : LinePlace) → is_behind_head place ≡ false → place ≡ BehindHead → ⊥
not_behind place h e = let f : true ≡ false = ap is_behind_head (sym e) ∙ h in cc
