-- A route at a place, and a token that is presented.
use Rattle.std.proofs.Common.{◌≡◌, ℕ, List, [], ◌∷◌, Bool, true, false, refl, sym, ap, arith}
use Rattle.std.specs.Prelude.{Option, Some, None, slice_get, ◌&&◌, nat_lt, zero, suc, length, slice_index, ◌<◌, if◌then◌else◌, codes}
use Rattle.std.specs.List.{AllByRecursion, list_all}
use Rattle.std.specs.Str.{IsUtf8}
use Rattle.std.proofs.lemmas.Str.{IsUtf8-from_ascii}
use Rattle.std.proofs.lemmas.Bool.Decides.{nat_tests}
use Rattle.access_rights.specs.Fits.{Fits}
use Rattle.reply_readers.specs.Members.{is_value, is_value_byte}
use Rattle.signed_requests.specs.declared.unsigned.Scheme.{Scheme}
use Rattle.signed_requests.specs.declared.unsigned.Scheme.TheVariants.{Gnap, Bearer}
use Rattle.resource_server.specs.declared.setup.Route.{Route}
use Rattle.resource_server.specs.Fits.{RouteFits}
use Rattle.resource_server.specs.Routing.{behind_word, presented_by, presented_at}

pub right_fits : (routes : List Route) (i : ℕ) (route : Route) → AllByRecursion RouteFits routes → slice_get routes i ≡ Some route → Fits route.right
right_fits [] i route fits e = absurd (cc)
right_fits (r ∷ routes) zero route fits e =
    let same : r ≡ route = cc in
    rw (sym same) fits.0.right
right_fits (r ∷ routes) (suc i) route fits e = right_fits routes i route fits.1 e

ascii : (s : List ℕ) → list_all is_value_byte s ≡ true → (i : ℕ) → slice_index s i < 128
ascii [] h zero = omega arith
ascii [] h (suc i) = omega arith
ascii (b ∷ s) h zero = first b (is_value_byte b) refl (list_all is_value_byte s) h
  where
    first : (b : ℕ) (x : Bool) → is_value_byte b ≡ x → (y : Bool) → (x && y) ≡ true → b < 128
    first b true e y h = grind (arith, nat_tests)
    first b false e y h = absurd (cc)
ascii (b ∷ s) h (suc i) = ascii s (rest (is_value_byte b) (list_all is_value_byte s) h) i
  where
    rest : (x y : Bool) → (x && y) ≡ true → y ≡ true
    rest true y h = h
    rest false y h = absurd (cc)

text_of_value : (x : Bool) (s : List ℕ) → (x && list_all is_value_byte s) ≡ true → IsUtf8 s
text_of_value true s h = IsUtf8-from_ascii s (ascii s h)
text_of_value false s h = absurd (cc)

by_value : (b : Bool) (scheme other : Scheme) (text value : List ℕ) → is_value text ≡ b
    → ◌≡◌ {A = Option (Scheme × List ℕ)} (if b then Some (scheme, text) else None) (Some (other, value)) → IsUtf8 value
by_value true scheme other text value e h =
    let pairs : ◌≡◌ {A = Scheme × List ℕ} (scheme, text) (other, value) = cc in
    let same : text ≡ value = ap (λ (p : Scheme × List ℕ). p.1) pairs in
    rw (← same) (text_of_value (nat_lt 0 (length text)) text e)
by_value false scheme other text value e h = absurd (cc)

by_parts : (gnap bearer : Option (List ℕ)) (scheme : Scheme) (value : List ℕ) → presented_by gnap bearer ≡ Some (scheme, value) → IsUtf8 value
by_parts (Some text) bearer scheme value e = by_value (is_value text) Gnap scheme text value refl e
by_parts None (Some text) scheme value e = by_value (is_value text) Bearer scheme text value refl e
by_parts None None scheme value e = absurd (cc)

pub value_is_text : (o : Option (List ℕ)) (scheme : Scheme) (value : List ℕ) → presented_at o ≡ Some (scheme, value) → IsUtf8 value
value_is_text None scheme value e = absurd (cc)
value_is_text (Some text) scheme value e = by_parts (behind_word 5 (codes "GNAP ") text) (behind_word 7 (codes "Bearer ") text) scheme value e
