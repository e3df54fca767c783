-- The reply that was chosen for an introspection is the action's.
use Rattle.std.proofs.Common.{ℕ, ◌≡◌, ◌∙◌, Bool, true, false, List, refl, sym, ap, subst, Option, Some, None}
use Rattle.std.specs.Prelude.{◌&&◌, option_map, if◌then◌else◌}
use Rattle.std.specs.Option.{option_and_then}
use Rattle.gnap_model.specs.Common.{Text, some_if}
use Rattle.gnap_model.specs.Rights.{served_part}
use Rattle.gnap_model.specs.Keys.{key_of, server_names}
use Rattle.gnap_model.specs.Judging.{suits, serves_all}
use Rattle.gnap_model.specs.Begin.{show_token}
use Rattle.gnap_model.specs.Actions.{Action, Supply}
use Rattle.gnap_model.specs.Actions.Action.{Refuse, ShowToken, ShowInactive}
use Rattle.gnap_model.specs.declared.rights.Right.{Right}
use Rattle.gnap_model.specs.declared.objects.Binding.{Binding}
use Rattle.gnap_model.specs.declared.objects.Setup.{Setup}
use Rattle.gnap_model.specs.declared.objects.ErrorCode.TheVariants.{InvalidAccess}
use Rattle.gnap_model.specs.declared.calls.Reply.{Reply}
use Rattle.gnap_model.specs.declared.calls.Reply.TheVariants.{Error, Active as ToldActive, Inactive as ToldInactive}
use Rattle.gnap_model.specs.declared.calls.Call.TheVariants.{Introspect}
use Rattle.gnap_tables.specs.declared.rows.GrantRow.{GrantRow}
use Rattle.gnap_tables.specs.declared.rows.TokenRow.{TokenRow}
use Rattle.gnap_tables.specs.Tables.{Tables}
use Rattle.gnap_tables.specs.RowSearches.{token_of, is_live_row}
use Rattle.gnap_tables.specs.ActionsByRows.{row_action}
use Rattle.introspection.specs.Judgement.{judged, judged_row}
use Rattle.introspection.specs.declared.judgement.Judged.{Judged}
use Rattle.introspection.specs.declared.judgement.Judged.TheVariants.{NotServed, Active, Inactive}
use Rattle.token_manager.specs.Tokens.{AreTokenRows, row_by_value}
use Rattle.token_manager.proofs.LiveRows.{live_by_value}
use Rattle.table_core.specs.CallEffects.{ActsBy, tables_in}
use Rattle.table_core.specs.Choices.{judged_reply, approved_of}
use Rattle.table_core.proofs.Undrawn.{undrawn_of, no_notes}

abbrev show_by : ℕ → List GrantRow → List Text → Option Binding → Option (List Right) → Option TokenRow → Action
show_by now grants names binding wanted found =
    if serves_all names wanted then show_token names binding wanted
    (option_map token_of (option_and_then (λ (row : TokenRow). some_if (is_live_row now grants row) row) found)) else Refuse InvalidAccess

told : (supply : Supply) (now : ℕ) (grants : List GrantRow) (t : Tables) (names : List Text) (binding : Option Binding) (wanted : Option (List Right))
    (found : Option TokenRow)
    → ActsBy supply (show_by now grants names binding wanted found) t t
    (undrawn_of (judged_reply names found (judged found (approved_of grants found) now names binding wanted)))
told supply now grants t names binding wanted found = served found (serves_all names wanted)
  where
    suited : (row : TokenRow) (b : Bool)
        → ActsBy supply (if b then ShowToken (served_part names row.rights) (token_of row) else ShowInactive) t t
        (undrawn_of (judged_reply names (Some row) (if b then Active else Inactive)))
    suited row true = no_notes supply (ShowToken (served_part names row.rights) (token_of row)) t
        (ToldActive (served_part names row.rights) row.issued row.until row.key row.bearer) refl refl
    suited row false = no_notes supply ShowInactive t ToldInactive refl refl

    live : (row : TokenRow) (b : Bool) → ActsBy supply (show_token names binding wanted (option_map token_of (some_if b row))) t t
        (undrawn_of (judged_reply names (Some row) (if b && suits names binding wanted row.rights row.bearer then Active else Inactive)))
    live row true = suited row (suits names binding wanted row.rights row.bearer)
    live row false = no_notes supply ShowInactive t ToldInactive refl refl

    served : (found : Option TokenRow) (b : Bool)
        → ActsBy supply (if b then show_token names binding wanted
        (option_map token_of (option_and_then (λ (row : TokenRow). some_if (is_live_row now grants row) row) found)) else Refuse InvalidAccess) t t
        (undrawn_of (judged_reply names found (if b then judged_row found (approved_of grants found) now names binding wanted else NotServed)))
    served None false = no_notes supply (Refuse InvalidAccess) t (Error InvalidAccess) refl refl
    served (Some row) false = no_notes supply (Refuse InvalidAccess) t (Error InvalidAccess) refl refl
    served None true = no_notes supply ShowInactive t ToldInactive refl refl
    served (Some row) true = live row (is_live_row now grants row)

told_as : (supply : Supply) (rules : Setup) (next : ℕ) (server value : Text) (now : ℕ) (grants : List GrantRow) (tokens : List TokenRow) (names : List Text)
    (binding : Option Binding) (wanted : Option (List Right))
    (reply : Reply) → AreTokenRows tokens → names ≡ server_names (key_of rules server)
    → reply ≡ judged_reply names (row_by_value value tokens)
    (judged (row_by_value value tokens) (approved_of grants (row_by_value value tokens)) now names binding wanted)
    → ActsBy supply (row_action rules next (tables_in grants tokens) now (Introspect server value binding wanted)) (tables_in grants tokens)
    (tables_in grants tokens) (undrawn_of reply)
told_as supply rules next server value now grants tokens names binding wanted reply are named says =
    let t = tables_in grants tokens in
    let one = subst (λ (r : Reply). ActsBy supply (show_by now grants names binding wanted (row_by_value value tokens)) t t (undrawn_of r)) (sym says)
    (told supply now grants t names binding wanted (row_by_value value tokens)) in
    let two = subst (λ (ns : List Text). ActsBy supply (show_by now grants ns binding wanted (row_by_value value tokens)) t t (undrawn_of reply)) named one in
    subst (λ (x : Option TokenRow). ActsBy supply
    (if serves_all (server_names (key_of rules server)) wanted then show_token (server_names (key_of rules server)) binding wanted (option_map token_of x)
    else Refuse InvalidAccess) t t (undrawn_of reply))
    (sym (live_by_value now grants value tokens are)) two

-- the same as the code has it
pub told_from : (supply : Supply) (rules : Setup) (next : ℕ) (server value server' value' : Text) (now : ℕ) (grants : List GrantRow) (tokens : List TokenRow)
    (names : List Text) (binding : Option Binding)
    (wanted : Option (List Right)) (found : Option TokenRow) (approved : Bool) (judgement : Judged) (reply : Reply)
    → AreTokenRows tokens → server' ≡ server → value' ≡ value → names ≡ server_names (key_of rules server') → found ≡ row_by_value value' tokens
    → approved ≡ approved_of grants found
    → judgement ≡ judged found approved now names binding wanted → reply ≡ judged_reply names found judgement → supply.now ≡ now
    → ActsBy supply (row_action rules next (tables_in grants tokens) supply.now (Introspect server value binding wanted)) (tables_in grants tokens)
    (tables_in grants tokens) (undrawn_of reply)
told_from supply rules next server value server' value' now grants tokens names binding wanted found approved judgement reply are same_server same_value named
    found_is approved_is is says at =
    let row_is : found ≡ row_by_value value tokens = found_is ∙ ap (λ (v : Text). row_by_value v tokens) same_value in
    let judged_is : judgement ≡ judged found (approved_of grants found) now names binding wanted = is
    ∙ ap (λ b. judged found b now names binding wanted) approved_is in
    let told_is : reply ≡ judged_reply names found (judged found (approved_of grants found) now names binding wanted) = says
    ∙ ap (judged_reply names found) judged_is in
    let by_row : reply ≡ judged_reply names (row_by_value value tokens)
    (judged (row_by_value value tokens) (approved_of grants (row_by_value value tokens)) now names binding wanted) =
    told_is ∙ ap (λ (r : Option TokenRow). judged_reply names r (judged r (approved_of grants r) now names binding wanted)) row_is in
    subst (λ n. ActsBy supply (row_action rules next (tables_in grants tokens) n (Introspect server value binding wanted)) (tables_in grants tokens)
    (tables_in grants tokens) (undrawn_of reply)) (sym at)
    (told_as supply rules next server value now grants tokens names binding wanted reply are
    (named ∙ ap (λ (s : Text). server_names (key_of rules s)) same_server) by_row)

-- a token is shown with those of its rights that the server serves
pub shown : (names : List Text) (access rights : List Right) (key : Text) (row : TokenRow) (found : Option TokenRow) (judgement : Judged) → found ≡ Some row
    → judgement ≡ Active → access ≡ served_part names rights → rights ≡ row.rights → key ≡ row.key
    → ToldActive access row.issued row.until key row.bearer ≡ judged_reply names found judgement
shown names access rights key row found judgement found_is active served same_rights same_key =
    ap (λ (a : List Right). ToldActive a row.issued row.until key row.bearer) (served ∙ ap (served_part names) same_rights)
    ∙ (ap (λ (k : Text). ToldActive (served_part names row.rights) row.issued row.until k row.bearer) same_key
    ∙ (sym (ap (λ (f : Option TokenRow). judged_reply names f Active) found_is) ∙ sym (ap (judged_reply names found) active)))
