-- What is done on an introspection and on a grant request, by what was found.
use Rattle.std.proofs.Common.{◌≡◌, ℕ, true, false, List, [], Option, refl}
use Rattle.std.specs.Prelude.{nat_le}
use Rattle.gnap_model.specs.Common.{Text}
use Rattle.gnap_model.specs.Limits.{live_limit}
use Rattle.gnap_model.specs.declared.rights.Right.{Right}
use Rattle.gnap_model.specs.declared.objects.Binding.{Binding}
use Rattle.gnap_model.specs.declared.objects.GrantRequest.{GrantRequest}
use Rattle.gnap_model.specs.declared.objects.Setup.{Setup}
use Rattle.gnap_model.specs.Keys.{key_of, server_names}
use Rattle.gnap_model.specs.declared.notes.Note.{Note}
use Rattle.gnap_model.specs.declared.notes.TokenNote.{TokenNote}
use Rattle.gnap_model.specs.Standing.{live_token, live_grants}
use Rattle.gnap_model.specs.Judging.{Settled, settle, serves_all}
use Rattle.gnap_model.specs.Begin.{introspect, show_token, is_past, begin, begin_by, opening}

-- A server that serves all that it asks about is shown the live token, if it suits.
pub introspect_as : (rules : Setup) (trail : List Note) (now : ℕ) (server value : Text) (binding : Option Binding) (wanted : Option (List Right))
    (t : Option TokenNote)
    (names : List Text) → names ≡ server_names (key_of rules server) → serves_all names wanted ≡ true → live_token trail now value ≡ t
    → introspect rules trail now server value binding wanted ≡ show_token names binding wanted t
introspect_as rules trail now server value binding wanted t names named served found = rw (← named, served, found) refl

-- A grant request in time and within the limit is settled.
pub begin_as : (rules : Setup) (trail : List Note) (now : ℕ) (key : Text) (request : GrantRequest) (not_after : Option ℕ) (s : Settled)
    → is_past now not_after ≡ false → nat_le live_limit (live_grants trail now) ≡ false → settle rules key [] request ≡ s
    → begin rules trail now key request not_after ≡ begin_by s trail now (opening trail now key request not_after) request
begin_as rules trail now key request not_after s timely few is = rw (timely, few, is) refl
