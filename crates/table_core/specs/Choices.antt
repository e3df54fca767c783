-- What a call chooses before it changes the tables.
use Rattle.std.specs.Prelude.{ℕ, Bool, false, List, Result, Ok, Err, if◌then◌else◌}
use Rattle.std.specs.declared.option.Option.{Option}
use Rattle.std.specs.declared.option.Option.TheVariants.{None, Some}
use Rattle.gnap_model.specs.Common.{Text, same_text}
use Rattle.gnap_model.specs.Rights.{served_part}
use Rattle.gnap_model.specs.Manage.{can_bind}
use Rattle.gnap_model.specs.Actions.{Supply, successor, token_out}
use Rattle.gnap_model.specs.declared.calls.Reply.{Reply}
use Rattle.gnap_model.specs.declared.calls.Reply.TheVariants.{Active as ToldActive, Inactive as ToldInactive, Error}
use Rattle.gnap_model.specs.declared.objects.Setup.{Setup}
use Rattle.gnap_model.specs.declared.objects.ErrorCode.{ErrorCode}
use Rattle.gnap_model.specs.declared.objects.ErrorCode.TheVariants.{InvalidAccess, InvalidClient, InvalidContinuation, InvalidRequest, InvalidRotation}
use Rattle.gnap_tables.specs.declared.rows.GrantRow.{GrantRow}
use Rattle.gnap_tables.specs.declared.rows.TokenRow.{TokenRow}
use Rattle.gnap_tables.specs.Tables.{new_token}
use Rattle.gnap_tables.specs.RowSearches.{opening_of, token_of, row_by_number, is_approved_grant, is_live_row}
use Rattle.introspection.specs.declared.judgement.Judged.{Judged}
use Rattle.introspection.specs.declared.judgement.Judged.TheVariants.{Active, Inactive, NotServed}
use Rattle.table_core.specs.declared.rotating.Rotation.{Rotation}
use Rattle.table_core.specs.declared.rotating.Rotation.TheVariants.{Denied, Succeeded}
use Rattle.table_core.specs.declared.revoking.Revocation.{Revocation}
use Rattle.table_core.specs.declared.revoking.Revocation.TheVariants.{Refused, Left, Marked}

-- ---- a cancellation

abbrev pub named_number : Text → Option GrantRow → Result ℕ ErrorCode
named_number key None = Err InvalidContinuation
named_number key (Some row) = if same_text row.key key then Ok row.number else Err InvalidClient

-- ---- an introspection

-- the grant of the row is approved
abbrev pub approved_of : List GrantRow → Option TokenRow → Bool
approved_of grants None = false
approved_of grants (Some row) = is_approved_grant row.grant grants

-- the reply by a judgement
abbrev pub judged_reply : List Text → Option TokenRow → Judged → Reply
judged_reply names row NotServed = Error InvalidAccess
judged_reply names row Inactive = ToldInactive
judged_reply names None Active = ToldInactive
judged_reply names (Some row) Active = ToldActive (served_part names row.rights) row.issued row.until row.key row.bearer

-- ---- a revocation, by the token with the management value and by its grant

abbrev pub of_grant : Text → TokenRow → Option GrantRow → Revocation
of_grant key token None = Refused InvalidRequest
of_grant key token (Some row) = if same_text token.key key then (if token.retired then Left else Marked token.serial) else Refused InvalidClient

abbrev pub revocation_of : Text → List GrantRow → Option TokenRow → Revocation
revocation_of key grants None = Refused InvalidRequest
revocation_of key grants (Some token) = of_grant key token (row_by_number token.grant grants)

-- ---- a rotation

-- the successor of a token of a grant, which is bound to this key
abbrev pub rotated_to : Supply → TokenRow → GrantRow → (key : Text) → Rotation
rotated_to supply token row key = Succeeded token.serial (new_token (successor supply (opening_of row) (token_of token) key))
    (token_out supply.now (successor supply (opening_of row) (token_of token) key))

-- by the key that is named
abbrev pub rotation_to_key : Setup → Supply → Option Text → TokenRow → GrantRow → Rotation
rotation_to_key rules supply None token row = rotated_to supply token row token.key
rotation_to_key rules supply (Some new_key) token row =
    if can_bind rules token.bearer new_key then rotated_to supply token row new_key else Denied InvalidRotation

abbrev pub rotation_for : Setup → Supply → Text → Option Text → TokenRow → Option GrantRow → Rotation
rotation_for rules supply key new_key token None = Denied InvalidRotation
rotation_for rules supply key new_key token (Some row) =
    if same_text token.key key then rotation_to_key rules supply new_key token row else Denied InvalidClient

-- what a rotation comes to
abbrev pub rotation_of : Setup → Supply → Text → Option Text → List GrantRow → Option TokenRow → Rotation
rotation_of rules supply key new_key grants None = Denied InvalidRotation
rotation_of rules supply key new_key grants (Some token) =
    if is_live_row supply.now grants token then rotation_for rules supply key new_key token (row_by_number token.grant grants) else Denied InvalidRotation
