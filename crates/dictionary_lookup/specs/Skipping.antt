-- What is skipped in a text, and which members of a dictionary have a parameter with a given String.
use Rattle.std.specs.Prelude.{◌≡◌, ℕ, nat_lt, Bool, true, false, ◌&&◌, ◌||◌, if◌then◌else◌, List, [], ◌∷◌, ◌++◌, filter, length, Option, Some, None, option_map}
use Rattle.std.specs.Str.{bytes_eq}
use Rattle.structured_fields.specs.declared.bare.Bare.{Bare}
use Rattle.structured_fields.specs.declared.item.Item.{Item}
use Rattle.structured_fields.specs.declared.item.InnerList.{InnerList}
use Rattle.structured_fields.specs.declared.item.Member.{Member}
use Rattle.structured_fields.specs.declared.item.Member.TheVariants.{Item as Single, Inner}
use Rattle.dictionary_lookup.specs.declared.string_lists.ItemsSoFar.{ItemsSoFar}
use Rattle.dictionary_lookup.specs.declared.lookup.Matched.{Matched}
use Rattle.dictionary_lookup.specs.declared.lookup.Matched.TheVariants.{Nowhere, Once, Unsettled}
use Rattle.structured_fields.specs.Letters.{is_token_start}
use Rattle.structured_fields.specs.Named.{value_at, with_value}
use Rattle.structured_fields.specs.Reading.{entry_at}
use Rattle.structured_fields.specs.Strings.{are_strings, holds_string, is_any_string}

-- what stands behind what was read
abbrev pub rest_of : {A : Type 0} → Option (A × List ℕ) → Option (List ℕ)
rest_of read = option_map (λ x. x.1) read

-- a token begins the text
abbrev pub begins_token : List ℕ → Bool
begins_token [] = false
begins_token (c ∷ t) = is_token_start c

-- ---- a parameter with a given String

-- the member is an inner list whose parameter of this name is this String
abbrev pub is_match : List ℕ → List ℕ → Member → Bool
is_match name s (Inner list) = holds_string s (value_at list.params name)
is_match name s (Single item) = false

-- the same of what was read, with what stands behind it: of a value that may be asked for, and else what was so before
abbrev pub value_matched : Bool → List ℕ → Bool → Bare × List ℕ → Bool × List ℕ
value_matched asked s before v = ((if asked then holds_string s (Some v.0) else before), v.1)

abbrev pub parameter_matched : List ℕ → List ℕ → Bool → (List ℕ × Bare) × List ℕ → Bool × List ℕ
parameter_matched name s before g = ((if bytes_eq g.0.0 name then holds_string s (Some g.0.1) else before), g.1)

abbrev pub params_matched : List ℕ → List ℕ → List (List ℕ × Bare) × List ℕ → Bool × List ℕ
params_matched name s p = (holds_string s (value_at p.0 name), p.1)

abbrev pub inner_matched : List ℕ → List ℕ → InnerList × List ℕ → Bool × List ℕ
inner_matched name s l = (holds_string s (value_at l.0.params name), l.1)

abbrev pub member_matched : List ℕ → List ℕ → Member × List ℕ → Bool × List ℕ
member_matched name s m = (is_match name s m.0, m.1)

abbrev pub entry_matched : List ℕ → List ℕ → (List ℕ × Member) × List ℕ → (List ℕ × Bool) × List ℕ
entry_matched name s e = ((e.0.0, is_match name s e.0.1), e.1)

-- the entries of a dictionary whose members are such
abbrev pub matches_among : List ℕ → List ℕ → List (List ℕ × Member) → List (List ℕ × Member)
matches_among name s d = filter (λ e. is_match name s e.1) d

-- ---- an inner list of Strings

-- what is made of items, where all of them are Strings
abbrev pub only_strings : {A : Type 0} → List Item → A → Option A
only_strings items made = if are_strings items then Some made else None

abbrev pub has_parameters : Item → Bool
has_parameters item = nat_lt 0 (length item.params)

-- the items up to the first one that has parameters, and that one
abbrev pub up_to_parameters : List Item → List Item
up_to_parameters [] = []
up_to_parameters (item ∷ items) = item ∷ (if has_parameters item then [] else up_to_parameters items)

-- one item more: whether all are Strings, and, while they are, what is kept of them and whether one has parameters
pub record IsNext (before : ItemsSoFar) (kept : List Item) (item : Item) (after : ItemsSoFar) (kept_now : List Item) : Type 0 where
  pub strings : after.strings ≡ (before.strings && is_any_string item.bare)
  pub kept_is : before.strings ≡ true → kept_now ≡ (if before.cut then kept else kept ++ item ∷ [])
  pub cut : before.strings ≡ true → after.cut ≡ (before.cut || has_parameters item)

-- the inner list of those items, with its own parameters
abbrev pub cut_list : InnerList → InnerList
cut_list list = record { items = up_to_parameters list.items; params = list.params }

-- the inner list that the member is, so cut, where all its items are Strings
abbrev pub strings_in : Member → Option InnerList
strings_in (Inner list) = only_strings list.items (cut_list list)
strings_in (Single item) = None

-- what was read of items, of a list, of a member, with what stands behind it
abbrev pub strings_read : List Item × List ℕ → Option (List Item) × List ℕ
strings_read l = (only_strings l.0 (up_to_parameters l.0), l.1)

abbrev pub list_read : List ℕ → List ℕ → InnerList × List ℕ → (Option InnerList × Bool) × List ℕ
list_read name s l = ((only_strings l.0.items (cut_list l.0), holds_string s (value_at l.0.params name)), l.1)

abbrev pub member_read : List ℕ → List ℕ → Member × List ℕ → (Option InnerList × Bool) × List ℕ
member_read name s m = ((strings_in m.0, is_match name s m.0), m.1)

-- ---- the bare item under a key

-- the bare item of a member that is an item
abbrev pub single_of : Member → Option Bare
single_of (Single item) = Some item.bare
single_of (Inner list) = None

abbrev pub bare_found : Option Member → Option Bare
bare_found None = None
bare_found (Some m) = single_of m

-- what was read of an item, of a member, with what stands behind it
abbrev pub bare_read : Item × List ℕ → Option Bare × List ℕ
bare_read i = (Some i.0.bare, i.1)

abbrev pub single_read : Member × List ℕ → Option Bare × List ℕ
single_read m = (single_of m.0, m.1)

-- ---- what is found in a dictionary

abbrev pub Entries : Type 0
Entries = List (List ℕ × Member)

-- an entry is read, behind which this stands; and with it Q is so of all entries, where P is so of those before it
abbrev pub Enters : List ℕ → List ℕ → (Entries → Type 0) → (Entries → Type 0) → Type 0
Enters t rest P Q = (key : List ℕ) × (m : Member) × (entry_at t ≡ Some ((key, m), rest)) × ((d : Entries) → P d → Q (with_value d key m))

-- what was found of the entries that are such: none; one alone, by its key and its list; or it is left open
abbrev pub Tells : List ℕ → List ℕ → Matched → Entries → Type 0
Tells name s Nowhere d = matches_among name s d ≡ []
Tells name s (Once one) d = (m : Member) × (matches_among name s d ≡ (one.key.now, m) ∷ []) × (one.strings ≡ strings_in m)
Tells name s Unsettled d = Unit {0}
