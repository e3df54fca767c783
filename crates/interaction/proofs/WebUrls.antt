-- What a text of bytes is, by whether it is UTF-8.
use Rattle.std.proofs.Common.{◌≡◌, ℕ, List, Bool, true, false, Option, Some, None, is_some, option_map, cond, refl, sym, true≢false}
use Rattle.std.specs.Prelude.{IsUtf8}
use Rattle.std.specs.Str.{is_utf8}
use Rattle.std.proofs.lemmas.Bool.{false_from_ne_true, cond-true, cond-false}
use Rattle.std.proofs.lemmas.Option.{none-some}
use Rattle.std.proofs.lemmas.Str.{IsUtf8-from_is_utf8, is_utf8-from_IsUtf8}
use Rattle.url.specs.Parser.{parse_url}
use Rattle.url.specs.Parts.{Parts}
use Rattle.interaction.specs.Uris.{web_of, web_url, uri_fits, with_pairs, finish_uri}

pub valid_text : (t : List ℕ) → IsUtf8 t → web_url t ≡ web_of (parse_url None t)
unfolding web_url
valid_text t valid = cond-true _ _ None (is_utf8-from_IsUtf8 t valid)

pub invalid_text : (t : List ℕ) → (IsUtf8 t → ⊥) → web_url t ≡ None
unfolding web_url
invalid_text t invalid = cond-false _ _ None (false_from_ne_true _ (λ e. invalid (IsUtf8-from_is_utf8 t e)))

-- a text that fits has a finish URI, whatever the pairs are
pub has_finish_uri : (t hash reference : List ℕ) → uri_fits t ≡ true → finish_uri t hash reference ≡ None → ⊥
has_finish_uri t hash reference fits none = by (web_url t) fits none
  where
    by : (url : Option Parts) → is_some url ≡ true → option_map (with_pairs hash reference) url ≡ None → ⊥
    by None fits none = true≢false (sym fits)
    by (Some url) fits none = none-some (with_pairs hash reference url) (sym none)

-- a finish URI is UTF-8
pub uri_is_utf8 : (t : List ℕ) → uri_fits t ≡ true → IsUtf8 t
unfolding web_url
uri_is_utf8 t fits = IsUtf8-from_is_utf8 t (by (is_utf8 t) fits)
  where
    by : (b : Bool) → is_some (cond b (web_of (parse_url None t)) None) ≡ true → b ≡ true
    by true e = refl
    by false e = e
