-- The machine of resource sets (RFC 9767, section 3.4).
use Rattle.std.specs.Prelude.{ℕ, ◌+◌, nat_le, Bool, ◌&&◌, List, [], ◌∷◌, length, if◌then◌else◌, IsUtf8}
use Rattle.std.specs.declared.option.Option.{Option}
use Rattle.std.specs.declared.option.Option.TheVariants.{None, Some}
use Rattle.std.specs.List.{AllByRecursion}
use Rattle.histories.specs.declared.entry.Entry.{Entry}
use Rattle.histories.specs.History.{Answer, Law, by_notes}
use Rattle.gnap_model.specs.Common.{Text, same_text, first_of, some_if}
use Rattle.gnap_model.specs.Values.{drawn}
use Rattle.gnap_model.specs.declared.rights.Right.{Right}
use Rattle.gnap_model.specs.declared.objects.Setup.{Setup}
use Rattle.gnap_model.specs.Keys.{key_of, server_names}
use Rattle.gnap_model.specs.Judging.{serves_all}
use Rattle.gnap_model.specs.declared.objects.ErrorCode.{ErrorCode}
use Rattle.gnap_model.specs.declared.objects.ErrorCode.TheVariants.{InvalidAccess, RequestDenied, InvalidRequest}
use Rattle.access_rights.specs.Fits.{Fits}
use Rattle.resource_sets.specs.SameRights.{same_rights}
pub use Rattle.resource_sets.specs.declared.sets.SetCall.{SetCall}
pub use Rattle.resource_sets.specs.declared.sets.SetReply.{SetReply}
pub use Rattle.resource_sets.specs.declared.sets.SetNote.{SetNote}
use Rattle.resource_sets.specs.declared.sets.SetCall.TheVariants.{Register, Resolve, Lapse}
use Rattle.resource_sets.specs.declared.sets.SetReply.TheVariants.{Registered, Resolved, Error, Lapsed}

-- an entry of a history of sets
abbrev pub SetEvent : Type 0
SetEvent = Entry SetCall SetReply SetNote

-- so many sets at most
abbrev pub set_limit : ℕ
set_limit = 65536

-- the same set of the same server: the same rights in the same order
abbrev pub same_set : Text → List Right → SetNote → Bool
same_set server rights note = same_text note.server server && same_rights note.rights rights

abbrev pub has_reference : Text → SetNote → Bool
has_reference reference note = same_text note.reference reference

-- the set that the server registered with these rights
abbrev pub set_of : Text → List Right → List SetNote → Option SetNote
set_of server rights notes = first_of (λ (note : SetNote). some_if (same_set server rights note) note) notes

-- the set with this reference
abbrev pub set_named : Text → List SetNote → Option SetNote
set_named reference notes = first_of (λ (note : SetNote). some_if (has_reference reference note) note) notes

-- the next set: its serial is 1 and the number of sets before it
abbrev pub new_set : List SetNote → List ℕ → Text → List Right → SetNote
new_set notes words server rights = record {
  serial = length notes + 1;
  server = server;
  rights = rights;
  reference = drawn (length notes + 1) words 0;
}

abbrev pub set_refused : ErrorCode → Answer SetReply SetNote
set_refused code = record { reply = Error code; notes = [] }

abbrev pub set_added : SetNote → Answer SetReply SetNote
set_added note = record { reply = Registered note.reference; notes = note ∷ [] }

abbrev pub registered : Option SetNote → List SetNote → List ℕ → Text → List Right → Answer SetReply SetNote
registered (Some note) notes words server rights = record { reply = Registered note.reference; notes = [] }
registered None notes words server rights =
    if nat_le set_limit (length notes) then set_refused RequestDenied else set_added (new_set notes words server rights)

abbrev pub resolved : Option SetNote → Answer SetReply SetNote
resolved (Some note) = record { reply = Resolved note.server note.rights; notes = [] }
resolved None = set_refused InvalidRequest

abbrev pub registration : Setup → List SetNote → List ℕ → Text → List Right → Answer SetReply SetNote
registration rules notes words server rights =
    if serves_all (server_names (key_of rules server)) (Some rights) then registered (set_of server rights notes) notes words server rights
    else set_refused InvalidAccess

-- the answer to a call, and its notes (RFC 9767, section 3.4)
abbrev pub set_answer : Setup → List SetNote → ℕ → List ℕ → SetCall → Answer SetReply SetNote
set_answer rules notes now words (Register server rights) = registration rules notes words server rights
set_answer rules notes now words (Resolve asker reference) = resolved (set_named reference notes)
set_answer rules notes now words Lapse = record { reply = Lapsed; notes = [] }

-- the texts of a call are UTF-8, and its rights can be shown
abbrev pub SetFits : SetCall → Type 0
SetFits (Register server rights) = IsUtf8 server × AllByRecursion Fits rights
SetFits (Resolve asker reference) = IsUtf8 asker × IsUtf8 reference
SetFits Lapse = Unit {0}

abbrev pub sets : Law Setup SetCall SetReply SetNote
sets = by_notes set_answer SetFits Lapse
