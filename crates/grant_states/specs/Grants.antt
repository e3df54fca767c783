-- Rows of grants in the order of their numbers, and the index of their continuation values.
use Rattle.std.specs.Prelude.{ℕ, ◌≡◌, ◌^◌, ◌<◌, ◌≤◌, ◌==◌, nat_lt, Bool, true, false, ◌&&◌, List, map, option_map, is_some, if◌then◌else◌, IfSome}
use Rattle.std.specs.Option.{option_and_then}
use Rattle.std.specs.List.{All, AllPairs, list_any}
use Rattle.std.specs.declared.option.Option.{Option}
use Rattle.std.specs.declared.option.Option.TheVariants.{None, Some}
use Rattle.gnap_model.specs.Common.{Text, some_if}
use Rattle.gnap_model.specs.Values.{value_text}
use Rattle.gnap_tables.specs.declared.rows.GrantRow.{GrantRow}
use Rattle.gnap_tables.specs.declared.rows.Round.{Round}
use Rattle.gnap_tables.specs.Tables.{with_wrong}
use Rattle.gnap_tables.specs.RowSearches.{newest}
use Rattle.gnap_tables.proofs.Lists.{HasItem}
use Rattle.grant_states.specs.declared.changes.Change.{Change}
use Rattle.grant_states.specs.declared.changes.Change.TheVariants.{Terms, Approve, Decide, Wrong}
use Rattle.grant_states.specs.declared.grant_table.GrantPlace.{GrantPlace}
use Rattle.grant_states.specs.declared.interactions.InteractionName.{InteractionName}
use Rattle.grant_states.specs.declared.numbers_by_key.Listed.{Listed}
use Rattle.grant_states.specs.declared.open_codes.OpenCodes.{OpenCodes}
use Rattle.grant_states.specs.Interactions.{is_open_by}
use Rattle.grant_states.specs.Listed.{under, where_some}
use Rattle.grant_states.specs.Serials.{handle_key}
use Rattle.grant_states.specs.OpenCodes.{HasCode, IsCodeIn, IsCodeListed, open_code}

-- What contracts see of a table of grants: its rows, room for so many changes that take room, and a number above the serials of all continuation values that
-- it was given.
pub record StoredGrants : Type 0 where
  pub rows : List GrantRow
  pub spare : ℕ
  pub doors_below : ℕ

-- the value begins with the serial
abbrev pub BeginsWith : ℕ → Text → Type 0
BeginsWith serial value = (a : ℕ) × (b : ℕ) × (value ≡ value_text serial a b)

-- ---- changes

abbrev pub changed_by : Change → GrantRow → GrantRow
changed_by (Terms asks single subject) row = record row { asks = asks; single = single; subject = subject }
changed_by (Approve consent) row = record row { consent = consent; approved = true; round = None }
changed_by (Decide decision) row = record row { round = option_map (λ (round : Round). record round { decision = Some decision }) row.round }
changed_by Wrong row = with_wrong row

-- the row is pending in this round
abbrev pub in_round : Round → GrantRow → GrantRow
in_round round row = record row { approved = false; round = Some round }

-- wrong references are counted to 255 at most
abbrev pub CanChange : Change → GrantRow → Type 0
CanChange Wrong row = IfSome row.round (λ (round : Round). round.wrongs < 255)
CanChange _ row = Unit {0}

-- ---- how rows are stored

abbrev pub grant_in : GrantPlace → GrantRow
grant_in place = place.row.value

-- the number and the serial that stand beside a row are its own and its continuation value's, and the index has them
pub record IsGrantPlace (doors : List Listed) (place : GrantPlace) : Type 0 where
  pub number : place.number ≡ place.row.value.number
  pub small : place.door_serial < 2 ^ 64
  pub door : BeginsWith place.door_serial place.row.value.door
  pub listed : HasItem doors (under place.door_serial place.number)

pub record AreGrantPlaces (places : List GrantPlace) (doors : List Listed) (doors_below : ℕ) : Type 0 where
  pub ascending : AllPairs (λ (a b : GrantRow). a.number < b.number) (map grant_in places)
  pub each : All (IsGrantPlace doors) places
  pub doors_ascend : AllPairs (λ (a b : Listed). a.key < b.key) doors
  pub doors_low : All (λ (door : Listed). door.key < doors_below) doors

-- the place has this continuation value
abbrev pub is_door_of : Listed → GrantPlace → Bool
is_door_of door place = (place.number == door.number) && (place.door_serial == door.key)

-- the grant is listed under the handle of its round
abbrev pub IsHandleListed : List Listed → ℕ → Round → Type 0
IsHandleListed listed number round = HasItem listed (under (handle_key round.handle) number)

-- the handles of the rounds of all rows are listed
abbrev pub AreHandlesListed : List Listed → List GrantPlace → Type 0
AreHandlesListed listed places = All (λ (place : GrantPlace). IfSome place.row.value.round (IsHandleListed listed place.number)) places

-- the code of a row's round in which the user may still decide after this moment
abbrev pub code_at : ℕ → GrantPlace → Option Text
code_at moment place = open_code moment place.row.value.round

-- the code with this number is that of a round in which the user may still decide after this moment, of the grant with this number
abbrev pub IsOpenUnder : ℕ → List GrantPlace → ℕ → ℕ → Type 0
IsOpenUnder moment places code number = (place : GrantPlace) × HasItem places place × (place.number ≡ number) × IsCodeIn code (code_at moment place)

-- what is listed are codes of rounds in which the user may still decide after this moment, and all of them where the index is complete
pub record AreCodesListed (moment : ℕ) (codes : OpenCodes) (places : List GrantPlace) : Type 0 where
  pub open_under : (code number : ℕ) → HasCode codes code number → IsOpenUnder moment places code number
  pub listed : codes.complete ≡ true → (place : GrantPlace) → HasItem places place → IfSome (code_at moment place) (IsCodeListed codes place.number)

-- the continuation value with this serial is that of a row
abbrev pub is_current_door : List GrantPlace → Listed → Bool
is_current_door places door = list_any (is_door_of door) places

-- ---- how the names of rounds are looked up

abbrev pub place_numbered : ℕ → List GrantPlace → Option GrantPlace
place_numbered number places = newest (λ (place : GrantPlace). some_if (place.number == number) place) places

abbrev pub round_numbered : ℕ → List GrantPlace → Option Round
round_numbered number places = option_and_then (λ (place : GrantPlace). place.row.value.round) (place_numbered number places)

-- the grant that is listed has a round with this handle
abbrev pub is_handle_listed : List GrantPlace → Listed → Bool
is_handle_listed places one = where_some (λ (round : Round). handle_key round.handle == one.key) (round_numbered one.number places)

-- the user may still decide after this moment in the round of the grant with this number, which has a user code
abbrev pub is_round_open : ℕ → List GrantPlace → ℕ → Bool
is_round_open moment places number = where_some (λ (place : GrantPlace). is_some (code_at moment place)) (place_numbered number places)

-- the grant with this number, where the user may still decide in a round of this name
abbrev pub open_numbered : List GrantPlace → ℕ → InteractionName → ℕ → Option GrantRow
open_numbered places now name number =
    option_and_then (λ (place : GrantPlace). some_if (is_open_by name now place.row.value.round) place.row.value) (place_numbered number places)

abbrev pub later_of : Option GrantRow → Option GrantRow → Option GrantRow
later_of None next = next
later_of (Some before) None = Some before
later_of (Some before) (Some next) = if nat_lt before.number next.number then Some next else Some before

-- of the grants that are found by what is listed, the one with the greatest number
pub record IsLatest (look : ℕ → Option GrantRow) (listed : List Listed) (found : Option GrantRow) : Type 0 where
  pub is : IfSome found (λ (row : GrantRow). (one : Listed) × HasItem listed one × (look one.number ≡ Some row))
  pub last : (one : Listed) (row : GrantRow) → HasItem listed one → look one.number ≡ Some row
      → (latest : GrantRow) × (found ≡ Some latest) × (row.number ≤ latest.number)

-- ---- one place

-- the row of this number is changed, and what stands beside it stays
pub record Changes (number : ℕ) (change : GrantRow → GrantRow) (old new : GrantPlace) : Type 0 where
  pub row : new.row.value ≡ (if number == old.number then change old.row.value else old.row.value)
  pub number_kept : new.number ≡ old.number

-- the same, with the serial of its continuation value
pub record ChangesAll (number serial : ℕ) (change : GrantRow → GrantRow) (old new : GrantPlace) : Type 0 where
  pub changes : Changes number change old new
  pub door_serial : new.door_serial ≡ (if number == old.number then serial else old.door_serial)
