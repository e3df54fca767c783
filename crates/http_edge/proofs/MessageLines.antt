-- What each message has that was read from bytes.
use Rattle.std.proofs.Common.{get_or, ◌≡◌, ℕ, List, [], ◌∷◌, map, refl, sym, ap, subst, arith, Bool, true, false}
use Rattle.std.specs.Prelude.{IsTrue, All, not, ◌==◌, ◌&&◌, ◌||◌}
use Rattle.std.specs.Char.{to_ascii_lowercase}
use Rattle.std.proofs.lemmas.List.Elements.{All-map, All-weaker}
use Rattle.std.proofs.lemmas.Bool.Decides.{nat_tests}
use Rattle.std.proofs.lemmas.Str.Ascii.{lowercase-lowercase}
use Rattle.httparse.specs.Pieces.{is_newline}
use Rattle.httparse.specs.Grammar.{Field, IsField, AllPass, is_token_byte, is_uri_byte, is_value_byte, RequestHead}
use Rattle.httparse.specs.Spans.{name_and_value}
use Rattle.httparse.proofs.PieceLemmas.{token_is_no_newline}
use Rattle.httparse.proofs.TrimLemmas.{AllPass-trim_ows}
use Rattle.bytes_and_lists.specs.declared.message.Message.{Message}
use Rattle.http1.specs.Fields.{Header}
use Rattle.http_edge.specs.Streams.{field_of, IsMessage}
use Rattle.http_edge.specs.Lines.{is_line_byte, IsFieldLine, HasOneLineParts}

all_from : (test other : ℕ → Bool) → ((c : ℕ) → test c ≡ true → other c ≡ true) → (t : List ℕ) → AllPass test t → AllPass other t
all_from test other from t all = λ k d below. from (get_or t k d) (all k d below)

from_token : (c : ℕ) → is_token_byte c ≡ true → is_line_byte c ≡ true
from_token c token = let newline : is_newline c ≡ false = token_is_no_newline c token in both (c == 13) (c == 10) newline
  where
    both : (a b : Bool) → (a || b) ≡ false → (not a && not b) ≡ true
    both true b e = absurd (cc)
    both false b e = ap not e

from_uri : (c : ℕ) → is_uri_byte c ≡ true → is_line_byte c ≡ true
from_uri c h = grind (arith, nat_tests)

from_value : (c : ℕ) → is_value_byte c ≡ true → is_line_byte c ≡ true
from_value c h = grind (arith, nat_tests)

lower_line : (c : ℕ) → is_line_byte c ≡ true → is_line_byte (to_ascii_lowercase c) ≡ true
lower_line c h = grind (arith, nat_tests)

lower_twice : (t : List ℕ) → map to_ascii_lowercase (map to_ascii_lowercase t) ≡ map to_ascii_lowercase t
lower_twice [] = refl
lower_twice (c ∷ t) = λ i. lowercase-lowercase c i ∷ lower_twice t i

lower_all : (t : List ℕ) → AllPass is_line_byte t → AllPass is_line_byte (map to_ascii_lowercase t)
lower_all t all = All-map (λ (c : ℕ). IsTrue (is_line_byte c)) to_ascii_lowercase t (λ k d below. lower_line (get_or t k d) (all k d below))

line_of : (f : Field) → IsField f → IsFieldLine (field_of (name_and_value f))
line_of f valid = record {
  name = lower_all f.name (all_from is_token_byte is_line_byte from_token f.name valid.name.1);
  lower = lower_twice f.name;
  value = AllPass-trim_ows is_line_byte f.raw (all_from is_value_byte is_line_byte from_value f.raw valid.raw);
}

lines_of : (fs : List Field) → All IsField fs → All IsFieldLine (map field_of (map name_and_value fs))
lines_of fs all = All-map IsFieldLine field_of (map name_and_value fs)
    (All-map (λ (header : Header). IsFieldLine (field_of header)) name_and_value fs
    (All-weaker IsField (λ (f : Field). IsFieldLine (field_of (name_and_value f))) line_of fs all))

pub message_lines : (b : List ℕ) (m : Message) (rest : List ℕ) → IsMessage b m rest → HasOneLineParts m
message_lines b m rest x =
    let h : RequestHead = x.head in
    let valid = x.begins.reads.0 in
    subst HasOneLineParts (sym x.is) (record {
      method = all_from is_token_byte is_line_byte from_token h.method valid.method.1;
      target = all_from is_uri_byte is_line_byte from_uri h.target valid.target.1;
      fields = lines_of h.fields valid.fields;
    })
