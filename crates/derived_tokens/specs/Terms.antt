-- How long the tokens of a grant are live that was asked for with an end.
use Rattle.std.specs.Prelude.{◌≡◌, ℕ, ◌<◌, ◌≤◌, ◌^◌, Bool, List, ◌∷◌, ◌++◌, length, Option, Some, Contains}
use Rattle.histories.specs.History.{Legal, notes_of, now}
use Rattle.gnap_model.specs.Common.{Text}
use Rattle.gnap_model.specs.declared.rights.Right.{Right}
use Rattle.gnap_model.specs.declared.objects.Binding.{Binding}
use Rattle.gnap_model.specs.declared.objects.GrantRequest.{GrantRequest}
use Rattle.gnap_model.specs.declared.objects.Setup.{Setup}
use Rattle.gnap_model.specs.declared.calls.Call.TheVariants.{Begin, Introspect}
use Rattle.gnap_model.specs.declared.calls.Reply.TheVariants.{Active}
use Rattle.gnap_model.specs.declared.notes.OpeningNote.{OpeningNote}
use Rattle.gnap_model.specs.declared.notes.TokenNote.{TokenNote}
use Rattle.gnap_model.specs.declared.notes.Note.TheVariants.{Opened, Issued}
use Rattle.signed_calls.specs.Marks.{plain_notes}
use Rattle.grant_machine.specs.Gnap.{GnapEntry, gnap}

-- The entry asked for a grant that ends at this moment at the latest, and opened the grant with this number.
pub record OpensUntil (end grant : ℕ) (e : GnapEntry) : Type 0 where
  pub key : Text
  pub request : GrantRequest
  pub asked : e.call.call ≡ Begin key request (Some end)
  pub opening : OpeningNote
  pub opened : Contains (plain_notes e.notes) (Opened opening)
  pub numbered : opening.grant ≡ grant

-- The entry asked about the value of a token, and was told that it is live.
pub record TellsActive (value : Text) (e : GnapEntry) : Type 0 where
  pub server : Text
  pub binding : Option Binding
  pub wanted : Option (List Right)
  pub asked : e.call.call ≡ Introspect server value binding wanted
  pub access : List Right
  pub iat : ℕ
  pub exp : ℕ
  pub instance : Text
  pub bearer : Bool
  pub told : e.reply ≡ Active access iat exp instance bearer

-- Where a token of a grant is told to be active, the end with which the grant was asked for hasn't come: also where the token came of a rotation, or of a
-- modification of the grant (RFC 9635, sections 5.3 and 6.1).
abbrev pub TermsHold : List GnapEntry → Type 0
TermsHold h = (front middle after : List GnapEntry) (e f : GnapEntry) (end : ℕ) (token : TokenNote) → h ≡ (front ++ e ∷ middle) ++ f ∷ after
    → OpensUntil end token.grant e → Contains (plain_notes (notes_of (front ++ e ∷ middle))) (Issued token) → TellsActive token.value f
    → now (front ++ e ∷ middle) f.moment < end

abbrev pub EndsWithItsTerm : Type 0
EndsWithItsTerm = (rules : Setup) (h : List GnapEntry) → Legal gnap rules h → length h ≤ 2 ^ 58 → TermsHold h
