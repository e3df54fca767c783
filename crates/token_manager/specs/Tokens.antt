-- Rows of tokens in the order of their serials, with values that begin with them.
use Rattle.std.specs.Prelude.{ℕ, ◌≡◌, ◌+◌, ◌-◌, ◌^◌, ◌<◌, ◌==◌, nat_lt, cond, Bool, true, not, ◌&&◌, ◌||◌, List, map, if◌then◌else◌}
use Rattle.std.specs.List.{All, AllPairs, list_all, list_any}
use Rattle.std.specs.declared.option.Option.{Option}
use Rattle.gnap_model.specs.Common.{Text, same_text, some_if}
use Rattle.gnap_model.specs.Values.{value_text}
use Rattle.gnap_tables.specs.declared.rows.GrantRow.{GrantRow}
use Rattle.gnap_tables.specs.declared.rows.TokenRow.{TokenRow}
use Rattle.gnap_tables.specs.Tables.{with_retirement}
use Rattle.gnap_tables.specs.RowSearches.{newest, is_approved_grant}
use Rattle.gnap_tables.proofs.Lists.{HasItem}
use Rattle.grant_states.specs.declared.numbers_by_key.Listed.{Listed}
use Rattle.grant_states.specs.Listed.{under}
use Rattle.token_manager.specs.declared.token_table.TokenPlace.{TokenPlace}

-- what contracts see of a table of tokens: its rows, and room for so many more
pub record StoredTokens : Type 0 where
  pub rows : List TokenRow
  pub spare : ℕ

-- the value begins with the serial, and the management value with the next one
pub record IsTokenRow (row : TokenRow) : Type 0 where
  pub small : row.serial < 2 ^ 64 - 1
  pub value : (a : ℕ) × (b : ℕ) × (row.value ≡ value_text row.serial a b)
  pub manage : (a : ℕ) × (b : ℕ) × (row.manage ≡ value_text (row.serial + 1) a b)

pub record AreTokenRows (rows : List TokenRow) : Type 0 where
  pub ascending : AllPairs (λ (a b : TokenRow). a.serial < b.serial) rows
  pub each : All (λ (row : TokenRow). IsTokenRow row) rows

-- the row with this value
abbrev pub row_by_value : Text → List TokenRow → Option TokenRow
row_by_value value rows = newest (λ (row : TokenRow). some_if (same_text row.value value) row) rows

-- ---- how rows are stored

abbrev pub token_in : TokenPlace → TokenRow
token_in place = place.row.value

-- the serial and the number that stand beside a row are the row's
pub record IsTokenPlace (place : TokenPlace) : Type 0 where
  pub serial : place.serial ≡ place.row.value.serial
  pub grant : place.grant ≡ place.row.value.grant

pub record AreTokenPlaces (places : List TokenPlace) : Type 0 where
  pub rows : AreTokenRows (map token_in places)
  pub each : All (λ (place : TokenPlace). IsTokenPlace place) places

-- ---- serials by grants

-- each place is listed under its grant
abbrev pub AreListed : List Listed → List TokenPlace → Type 0
AreListed owned places = All (λ (place : TokenPlace). HasItem owned (under place.grant place.serial)) places

-- the place is the grant's and has this serial
abbrev pub is_this : ℕ → ℕ → TokenPlace → Bool
is_this grant serial place = (grant == place.grant) && (serial == place.serial)

-- the place is the grant's, and its serial is among these
abbrev pub is_among : ℕ → List Listed → TokenPlace → Bool
is_among grant owned place = (grant == place.grant) && list_any (λ (one : Listed). one.number == place.serial) owned

-- ---- changes

-- the row of this serial is marked, and what stands beside it stays
pub record Marks (serial : ℕ) (old new : TokenPlace) : Type 0 where
  pub row : new.row.value ≡ (if serial == old.serial then with_retirement old.row.value else old.row.value)
  pub serial_kept : new.serial ≡ old.serial
  pub grant_kept : new.grant ≡ old.grant

-- ---- rows that last

-- the row isn't retired, and its end is after this moment
abbrev pub lasts_at : ℕ → TokenRow → Bool
lasts_at moment row = not row.retired && nat_lt moment row.until

-- the same of the row at a place
abbrev pub is_lasting : ℕ → TokenPlace → Bool
is_lasting moment place = lasts_at moment place.row.value

-- one where it is so, else none
abbrev pub one_if : Bool → ℕ
one_if b = cond b 1 0

-- the row at a place lasts, and is of another grant than this one
abbrev pub is_lasting_elsewhere : ℕ → ℕ → TokenPlace → Bool
is_lasting_elsewhere moment number place = not (place.grant == number) && is_lasting moment place

-- the row is retired, or its grant is approved
abbrev pub is_of_approved : List GrantRow → TokenRow → Bool
is_of_approved grants row = row.retired || is_approved_grant row.grant grants

-- each row that isn't retired is of an approved grant
abbrev pub AreOfApproved : List GrantRow → List TokenRow → Type 0
AreOfApproved grants rows = list_all (is_of_approved grants) rows ≡ true
