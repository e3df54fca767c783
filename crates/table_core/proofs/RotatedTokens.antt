-- What was chosen for a rotation, and done, is the action's outcome.
use Rattle.std.proofs.Common.{ℕ, ◌≡◌, ◌∙◌, ◌<◌, ◌+◌, ◌^◌, Bool, true, false, List, [], ◌∷◌, refl, sym, ap, subst, arith, Option, Some, None}
use Rattle.std.specs.Prelude.{◌++◌, slice_index, if◌then◌else◌}
use Rattle.gnap_model.specs.Common.{Text, same_text}
use Rattle.gnap_model.specs.Values.{value_text}
use Rattle.gnap_model.specs.Manage.{can_bind, rotate_key}
use Rattle.gnap_model.specs.Actions.{Action, Supply, on_found, with_owner, successor}
use Rattle.gnap_model.specs.Actions.Action.{Refuse, RotateToken}
use Rattle.gnap_model.specs.declared.objects.Setup.{Setup}
use Rattle.gnap_model.specs.declared.objects.ErrorCode.TheVariants.{InvalidClient, InvalidRotation}
use Rattle.gnap_model.specs.declared.calls.Reply.TheVariants.{Error, Rotated}
use Rattle.gnap_model.specs.declared.calls.Call.TheVariants.{Rotate}
use Rattle.gnap_model.specs.declared.notes.OpeningNote.{OpeningNote}
use Rattle.gnap_model.specs.declared.notes.TokenNote.{TokenNote}
use Rattle.gnap_tables.specs.declared.rows.GrantRow.{GrantRow}
use Rattle.gnap_tables.specs.declared.rows.TokenRow.{TokenRow}
use Rattle.gnap_tables.specs.Tables.{drop_token, new_token}
use Rattle.gnap_tables.specs.RowSearches.{opening_of, token_of, row_by_number, row_by_manage, is_live_row}
use Rattle.gnap_tables.specs.ActionsByRows.{on_row, row_action, row_supply}
use Rattle.grant_rules.specs.declared.supply.Supply.{Supply as EntrySupply}
use Rattle.grant_rules.specs.Drawn.{supply_with}
use Rattle.token_manager.specs.Tokens.{IsTokenRow}
use Rattle.table_core.specs.CallEffects.{ActsBy, tables_in}
use Rattle.table_core.specs.Choices.{rotated_to, rotation_to_key, rotation_for, rotation_of}
use Rattle.table_core.specs.declared.answered.Answered.{Answered}
use Rattle.table_core.specs.declared.rotating.Rotation.{Rotation}
use Rattle.table_core.specs.declared.rotating.Rotation.TheVariants.{Denied, Succeeded}
use Rattle.gnap_model.specs.declared.calls.TokenOut.{TokenOut}
use Rattle.table_core.proofs.Undrawn.{undrawn_of, no_notes}

abbrev pub rotated_with : TokenOut → Answered
rotated_with out = record { reply = Rotated out; opened = 0; drawn = 2 }

abbrev rotate_with : Setup → Text → Option Text → ℕ → List GrantRow → Option TokenRow → Action
rotate_with rules key new_key now grants found =
    on_found InvalidRotation (λ (token : TokenRow). if is_live_row now grants token then on_row InvalidRotation grants key token
    (rotate_key rules new_key (token_of token)) else Refuse InvalidRotation) found

-- what a rotation does
abbrev pub RotationActs : Supply → Rotation → List GrantRow → List TokenRow → Action → Type 0
RotationActs supply (Denied code) grants tokens action = ActsBy supply action (tables_in grants tokens) (tables_in grants tokens) (undrawn_of (Error code))
RotationActs supply (Succeeded serial row out) grants tokens action =
    ActsBy supply action (tables_in grants tokens) (tables_in grants (drop_token serial tokens ++ row ∷ [])) (rotated_with out) × IsTokenRow row
    × (row.serial ≡ supply.first)

successor_row : (supply : Supply) (opening : OpeningNote) (token : TokenNote) (key : Text) → supply.first < 2 ^ 63
    → IsTokenRow (new_token (successor supply opening token key))
successor_row supply opening token key small = record {
  small = omega arith;
  value = (slice_index supply.words 0, slice_index supply.words 1, refl);
  manage = (
    slice_index supply.words 2,
    slice_index supply.words 3,
    (let e : supply.first + 1 ≡ supply.first + 0 + 1 = omega arith in ap (λ n. value_text n (slice_index supply.words 2) (slice_index supply.words 3)) e),
  );
}

rotation_acts : (rules : Setup) (supply : Supply) (key : Text) (new_key : Option Text) (grants : List GrantRow) (tokens : List TokenRow)
    (found : Option TokenRow) → supply.first < 2 ^ 63
    → RotationActs supply (rotation_of rules supply key new_key grants found) grants tokens (rotate_with rules key new_key supply.now grants found)
rotation_acts rules supply key new_key grants tokens None small = no_notes supply (Refuse InvalidRotation) (tables_in grants tokens) (Error InvalidRotation)
    refl refl
rotation_acts rules supply key new_key grants tokens (Some token) small = live (is_live_row supply.now grants token)
  where
    to : (row : GrantRow) (k : Text) → RotationActs supply (rotated_to supply token row k) grants tokens (RotateToken (opening_of row) (token_of token) k)
    to row k = (
      record { reply = refl; tables = refl; opened = refl; drawn = refl },
      successor_row supply (opening_of row) (token_of token) k small,
      omega
          arith,
    )

    bound : (row : GrantRow) (k : Text) (b : Bool) → RotationActs supply (if b then rotated_to supply token row k else Denied InvalidRotation) grants tokens
        (if b then RotateToken (opening_of row) (token_of token) k else Refuse InvalidRotation)
    bound row k true = to row k
    bound row k false = no_notes supply (Refuse InvalidRotation) (tables_in grants tokens) (Error InvalidRotation) refl refl

    named : (row : GrantRow) (k : Option Text)
        → RotationActs supply (rotation_to_key rules supply k token row) grants tokens (rotate_key rules k (token_of token) (opening_of row))
    named row (Some k) = bound row k (can_bind rules token.bearer k)
    named row None = to row token.key

    keyed : (row : GrantRow) (b : Bool)
        → RotationActs supply (if b then rotation_to_key rules supply new_key token row else Denied InvalidClient) grants tokens
        (if b then rotate_key rules new_key (token_of token) (opening_of row) else Refuse InvalidClient)
    keyed row true = named row new_key
    keyed row false = no_notes supply (Refuse InvalidClient) (tables_in grants tokens) (Error InvalidClient) refl refl

    on : (x : Option GrantRow) → RotationActs supply (rotation_for rules supply key new_key token x) grants tokens
        (on_found InvalidRotation (λ (row : GrantRow). with_owner (rotate_key rules new_key (token_of token)) token.key key (opening_of row)) x)
    on None = no_notes supply (Refuse InvalidRotation) (tables_in grants tokens) (Error InvalidRotation) refl refl
    on (Some row) = keyed row (same_text token.key key)

    live : (b : Bool) → RotationActs supply
        (if b then rotation_for rules supply key new_key token (row_by_number token.grant grants) else Denied InvalidRotation) grants tokens
        (if b then on_row InvalidRotation grants key token (rotate_key rules new_key (token_of token)) else Refuse InvalidRotation)
    live true = on (row_by_number token.grant grants)
    live false = no_notes supply (Refuse InvalidRotation) (tables_in grants tokens) (Error InvalidRotation) refl refl

-- the new row, as the code has it
pub successor_is : (entry : EntrySupply) (rules : Setup) (key : Text) (new_key : Option Text) (grants : List GrantRow) (found : Option TokenRow) (r : Rotation)
    (serial : ℕ) (row : TokenRow) (out : TokenOut)
    → entry.first < 2 ^ 63 → ((taken : List Text) → r ≡ rotation_of rules (supply_with entry taken) key new_key grants found) → r ≡ Succeeded serial row out
    → IsTokenRow row × (row.serial ≡ entry.first)
successor_is entry rules key new_key grants found r serial row out small says is =
    let supply : Supply = supply_with entry [] in
    let chosen : rotation_of rules supply key new_key grants found ≡ Succeeded serial row out = sym (says []) ∙ is in
    let all = subst (λ (x : Rotation). RotationActs supply x grants [] (rotate_with rules key new_key supply.now grants found)) chosen
    (rotation_acts rules supply key new_key grants [] found small) in
    (all.1, all.2)

-- what is done, as the code has it
pub rotation_done : (entry : EntrySupply) (rules : Setup) (next : ℕ) (key value key' value' : Text) (new_key : Option Text) (grants : List GrantRow)
    (tokens : List TokenRow) (found : Option TokenRow)
    (r chosen : Rotation) → entry.first < 2 ^ 63 → key' ≡ key → value' ≡ value → found ≡ row_by_manage value' tokens
    → ((taken : List Text) → r ≡ rotation_of rules (supply_with entry taken) key' new_key grants found) → r ≡ chosen
    → RotationActs (row_supply entry.first (tables_in grants tokens) entry.moment entry.words.now) chosen grants tokens
    (row_action rules next (tables_in grants tokens) entry.moment (Rotate key value new_key))
rotation_done entry rules next key value key' value' new_key grants tokens found r chosen small same_key same_value found_is says is =
    let supply : Supply = row_supply entry.first (tables_in grants tokens) entry.moment entry.words.now in
    let e : chosen ≡ rotation_of rules supply key new_key grants (row_by_manage value tokens) =
    sym is ∙ says supply.taken ∙ ap (λ (k : Text). rotation_of rules supply k new_key grants found) same_key
    ∙ ap (λ (x : Option TokenRow). rotation_of rules supply key new_key grants x) (found_is ∙ ap (λ (v : Text). row_by_manage v tokens) same_value) in
    subst (λ (x : Rotation). RotationActs supply x grants tokens (rotate_with rules key new_key supply.now grants (row_by_manage value tokens))) (sym e)
    (rotation_acts rules supply key new_key grants tokens (row_by_manage value tokens) small)
