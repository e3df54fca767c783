-- The route of a request and the token that it presents (RFC 9635, section 7.2).
use Rattle.std.specs.Prelude.{◌≡◌, ◌<◌, ℕ, ◌&&◌, Bool, true, false, List, [], ◌∷◌, length, take, drop, filter, position, Option, Some, None, Result, Ok, Err, if◌then◌else◌, codes}
use Rattle.std.specs.List.{list_any}
use Rattle.std.specs.Str.{bytes_eq, str_eq_ignore_ascii_case}
use Rattle.bytes_and_lists.specs.declared.message.Field.{Field}
use Rattle.bytes_and_lists.specs.declared.message.Message.{Message}
use Rattle.message_signature.specs.Components.{target_path}
use Rattle.reply_readers.specs.Members.{is_value}
use Rattle.signed_requests.specs.declared.unsigned.Scheme.{Scheme}
use Rattle.signed_requests.specs.declared.unsigned.Scheme.TheVariants.{Gnap, Bearer}
use Rattle.resource_server.specs.declared.setup.Route.{Route}
use Rattle.resource_server.specs.declared.guarded.Guarded.{Guarded}
use Rattle.resource_server.specs.declared.guarded.Guarded.TheVariants.{Deny}
use Rattle.resource_server.specs.declared.guarded.Why.TheVariants as why

-- what is found next, after the parts before it; the first refusal stands
infixl 10 ◌>>=◌
abbrev pub ◌>>=◌ : {A B : Type 0} → Result A Guarded → (A → Result B Guarded) → Result B Guarded
(Ok x) >>= f = f x
(Err e) >>= f = Err e

-- ---- the route

abbrev pub has_path : List ℕ → Route → Bool
has_path path r = bytes_eq r.path path

abbrev pub is_route : List ℕ → List ℕ → Route → Bool
is_route method path r = bytes_eq r.path path && bytes_eq r.method method

abbrev pub placed : Bool → Option ℕ → Result ℕ Guarded
placed path (Some i) = Ok i
placed path None = if path then Err (Deny 405 why.NoMethod) else Err (Deny 404 why.NoRoute)

-- the place of the route with the message's method and path
abbrev pub route_of : List Route → Message → Result ℕ Guarded
route_of routes m = placed (list_any (has_path (target_path m.target)) routes) (position (is_route m.method (target_path m.target)) routes)

-- ---- the token

abbrev pub is_authorization : Field → Bool
is_authorization f = bytes_eq f.name (codes "authorization")

-- the value of the one field that there is
abbrev pub only_value : List Field → Option (List ℕ)
only_value [] = None
only_value (f ∷ []) = Some f.value
only_value (f ∷ g ∷ fs) = None

-- the same, where one value was met before
abbrev pub one_more : Option (List ℕ) → List Field → Option (List ℕ)
one_more None fs = only_value fs
one_more (Some value) [] = Some value
one_more (Some value) (f ∷ fs) = None

abbrev pub with_scheme : Scheme → List ℕ → Option (Scheme × List ℕ)
with_scheme scheme value = if is_value value then Some (scheme, value) else None

-- what stands behind a word of so many letters, in any case
abbrev pub behind_word : ℕ → List ℕ → List ℕ → Option (List ℕ)
behind_word n word text = if str_eq_ignore_ascii_case (take n text) word then Some (drop n text) else None

abbrev pub presented_by : Option (List ℕ) → Option (List ℕ) → Option (Scheme × List ℕ)
presented_by (Some value) other = with_scheme Gnap value
presented_by None (Some value) = with_scheme Bearer value
presented_by None None = None

-- the scheme `GNAP` or `Bearer`, in any case, one SP, and the token's value
abbrev pub presented_in : List ℕ → Option (Scheme × List ℕ)
presented_in text = presented_by (behind_word 5 (codes "GNAP ") text) (behind_word 7 (codes "Bearer ") text)

abbrev pub presented_at : Option (List ℕ) → Option (Scheme × List ℕ)
presented_at None = None
presented_at (Some text) = presented_in text

abbrev pub needed_token : Option (Scheme × List ℕ) → Result (Scheme × List ℕ) Guarded
needed_token None = Err (Deny 401 why.NoToken)
needed_token (Some presented) = Ok presented

-- the token that the one `Authorization` field presents
abbrev pub token_of : Message → Result (Scheme × List ℕ) Guarded
token_of m = needed_token (presented_at (only_value (filter is_authorization m.fields)))

-- the place of the route, and the token; or the refusal
unfoldable pub question_of : List Route → Message → Result (ℕ × (Scheme × List ℕ)) Guarded
question_of routes m = do
  i ← route_of routes m
  token ← token_of m
  Ok (i, token)
