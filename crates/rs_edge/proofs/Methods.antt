-- Methods behind one another, and the routes of a setup.
use Rattle.std.proofs.Common.{◌≡◌, ◌∙◌, ℕ, List, [], ◌∷◌, drop, map, filter, Bool, true, false, refl, sym}
use Rattle.std.specs.Prelude.{Some, slice_get, zero, suc, cond, ◌&&◌, ◌||◌, nat_le, nat_lt, length, ◌==◌}
use Rattle.std.specs.List.{AllByRecursion, list_all}
use Rattle.std.specs.Str.{IsUtf8}
use Rattle.std.proofs.lemmas.Bool.{and_parts}
use Rattle.std.proofs.lemmas.List.Folds.{list_all-append}
use Rattle.structured_fields.specs.Canonical.{further_text}
use Rattle.signed_requests.specs.Forms.{is_capital, is_method}
use Rattle.http_edge.specs.Replies.{is_method_byte}
use Rattle.resource_server.specs.declared.setup.Route.{Route}
use Rattle.resource_server.specs.Fits.{RouteFits}
use Rattle.resource_server.specs.Routing.{has_path}
use Rattle.rs_edge.specs.RsReplies.{methods_at, allow_text}

pub without_first : (methods : List (List ℕ)) → drop 2 (further_text (44 ∷ 32 ∷ []) (λ m. m) methods) ≡ allow_text methods
without_first [] = refl
without_first (method ∷ methods) = refl

pub text_at : (routes : List Route) (i : ℕ) (route : Route) → AllByRecursion RouteFits routes → slice_get routes i ≡ Some route → IsUtf8 route.text
text_at [] i route fits e = absurd (cc)
text_at (r ∷ routes) zero route fits e =
    let same : r ≡ route = cc in
    rw (sym same) fits.0.text
text_at (r ∷ routes) (suc i) route fits e = text_at routes i route fits.1 e

-- ---- their letters

letter : (b : ℕ) (x y : Bool) → x ≡ true → ((x || b == 44) || y) ≡ true
letter b true y e = refl
letter b false y e = absurd (cc)

letters : (s : List ℕ) → list_all is_capital s ≡ true → list_all is_method_byte s ≡ true
letters [] all = refl
letters (b ∷ s) all =
    let parts = and_parts (is_capital b) (list_all is_capital s) all in
    rw (letter b (is_capital b) (b == 32) parts.0, letters s parts.1) refl

method_letters : (s : List ℕ) → is_method s ≡ true → list_all is_method_byte s ≡ true
method_letters s is = letters s (and_parts (nat_lt 0 (length s) && nat_le (length s) 15) (list_all is_capital s) is).1

abbrev AreLetters : List (List ℕ) → Type 0
AreLetters methods = AllByRecursion (λ (m : List ℕ). list_all is_method_byte m ≡ true) methods

further_letters : (methods : List (List ℕ)) → AreLetters methods → list_all is_method_byte (further_text (44 ∷ 32 ∷ []) (λ m. m) methods) ≡ true
further_letters [] all = refl
further_letters (m ∷ ms) all = list_all-append is_method_byte m (further_text (44 ∷ 32 ∷ []) (λ m. m) ms) ∙ rw (all.0, further_letters ms all.1) refl

text_letters : (methods : List (List ℕ)) → AreLetters methods → list_all is_method_byte (allow_text methods) ≡ true
text_letters [] all = refl
text_letters (m ∷ ms) all = list_all-append is_method_byte m (further_text (44 ∷ 32 ∷ []) (λ m. m) ms) ∙ rw (all.0, further_letters ms all.1) refl

methods_letters : (path : List ℕ) (routes : List Route) → AllByRecursion RouteFits routes → AreLetters (methods_at path routes)
methods_letters path [] fits = tt
methods_letters path (r ∷ routes) fits = by (has_path path r) (methods_letters path routes fits.1)
  where
    by : (b : Bool) → AreLetters (methods_at path routes) → AreLetters
        (map (λ (r : Route). r.method) (cond b (r ∷ filter (has_path path) routes) (filter (has_path path) routes)))
    by true rest = (method_letters r.method fits.0.method, rest)
    by false rest = rest

pub allow_letters : (path : List ℕ) (routes : List Route) → AllByRecursion RouteFits routes
    → list_all is_method_byte (allow_text (methods_at path routes)) ≡ true
allow_letters path routes fits = text_letters (methods_at path routes) (methods_letters path routes fits)
