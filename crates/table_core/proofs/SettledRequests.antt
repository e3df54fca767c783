-- The action to which a grant request comes by what was tested.
use Rattle.std.proofs.Common.{ℕ, ◌≡◌, false, [], length, refl, Option}
use Rattle.std.specs.Prelude.{nat_le}
use Rattle.gnap_model.specs.Common.{Text}
use Rattle.gnap_model.specs.Limits.{live_limit}
use Rattle.gnap_model.specs.Begin.{is_past}
use Rattle.gnap_model.specs.Judging.{Settled, settle}
use Rattle.gnap_model.specs.declared.objects.GrantRequest.{GrantRequest}
use Rattle.gnap_model.specs.declared.objects.Setup.{Setup}
use Rattle.gnap_model.specs.declared.calls.Call.TheVariants.{Begin}
use Rattle.gnap_tables.specs.Tables.{Tables}
use Rattle.gnap_tables.specs.ActionsByRows.{begin_rows, opening_for, row_action}

-- a grant request in time and within the limit is settled
pub begun_as : (rules : Setup) (next : ℕ) (tables : Tables) (now : ℕ) (key : Text) (request : GrantRequest) (not_after : Option ℕ) (s : Settled)
    → is_past now not_after ≡ false → nat_le live_limit (length tables.grants) ≡ false → settle rules key [] request ≡ s
    → begin_rows s tables now (opening_for next now key request not_after) request ≡ row_action rules next tables now (Begin key request not_after)
begun_as rules next tables now key request not_after s timely few is = rw (timely, few, is) refl
