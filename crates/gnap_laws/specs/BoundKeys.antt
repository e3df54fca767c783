-- Whose a token is that was rotated to a key (RFC 9635, section 6.1.1).
use Rattle.std.specs.Prelude.{ℕ, ◌≡◌, ◌≢◌, false, List}
use Rattle.std.specs.declared.option.Option.{Option}
use Rattle.std.specs.declared.option.Option.TheVariants.{Some}
use Rattle.gnap_model.specs.Common.{Text}
use Rattle.gnap_model.specs.Standing.{live_token}
use Rattle.gnap_laws.specs.Types.{Right, Binding, Call, Reply, TokenOut, TokenNote, Note}
use Rattle.gnap_model.specs.declared.objects.ErrorCode.TheVariants.{InvalidClient}
use Rattle.gnap_model.specs.declared.calls.Call.TheVariants.{Introspect, Rotate}
use Rattle.gnap_model.specs.declared.calls.Reply.TheVariants.{Active, Error, Rotated}
use Rattle.gnap_laws.specs.Refusals.{caller}
use Rattle.gnap_laws.specs.Provenance.{presented_manage, ends_token}

-- the call named the key for a token, and was answered with the token that is bound to it
abbrev pub RotatesTo : Call → Reply → TokenOut → (key : Text) → Type 0
RotatesTo call reply token key = (owner : Text) × (value : Text) × (call ≡ Rotate owner value (Some key)) × (reply ≡ Rotated token)

-- where the reply says active, it says so of a token of the key
abbrev pub TellsKey : Reply → (key : Text) → Type 0
TellsKey (Active access iat exp instance bearer) key = instance ≡ key
TellsKey _ key = Unit {0}

-- What a call is answered where the token is the key's, after these notes, the newest first.
pub record IsBoundTo (trail : List Note) (now : ℕ) (call : Call) (reply : Reply) (token : TokenOut) (key : Text) : Type 0 where
  -- an introspection that finds the token active tells the key
  pub told : (server : Text) (binding : Option Binding) (wanted : Option (List Right)) → call ≡ Introspect server token.value binding wanted
      → TellsKey reply key
  -- another key neither rotates nor revokes the token
  pub kept : presented_manage call ≡ Some token.manage → caller call ≢ key → ends_token reply ≡ false
  -- and it is refused while the token is live
  pub refused : (live : TokenNote) → live_token trail now token.value ≡ Some live → presented_manage call ≡ Some token.manage → caller call ≢ key
      → reply ≡ Error InvalidClient
