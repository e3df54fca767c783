-- The access token that a request presents (RFC 9635, section 7.2).
use Rattle.std.specs.Prelude.{ℕ, List, [], ◌∷◌, map, filter, take, drop, if◌then◌else◌, codes}
use Rattle.std.specs.Str.{bytes_eq, str_eq_ignore_ascii_case}
use Rattle.bytes_and_lists.specs.declared.message.Field.{Field}
use Rattle.bytes_and_lists.specs.declared.message.Message.{Message}

-- the values of the `Authorization` fields
abbrev pub authorizations : List Field → List (List ℕ)
authorizations fields = map (λ f. f.value) (filter (λ f. bytes_eq f.name (codes "authorization")) fields)

-- what stands behind the scheme `GNAP`, in any case, and one SP; nothing where the scheme is another
abbrev pub behind_scheme : List ℕ → List ℕ
behind_scheme value = if str_eq_ignore_ascii_case (take 5 value) (codes "GNAP ") then drop 5 value else []

-- of the one field; none and several present nothing
abbrev pub presented_in : List (List ℕ) → List ℕ
presented_in [] = []
presented_in (value ∷ []) = behind_scheme value
presented_in (value ∷ other ∷ more) = []

abbrev pub presented_value : Message → List ℕ
presented_value m = presented_in (authorizations m.fields)
