-- What is done with a connection where tokens are derived, and which entries a worker makes then.
use Rattle.std.specs.Prelude.{◌≡◌, ℕ, List, [], ◌∷◌, Option, Some, None}
use Rattle.outside.specs.Outside.{Served}
use Rattle.bytes_and_lists.specs.declared.message.Message.{Message}
use Rattle.histories.specs.Turns.{Turn}
use Rattle.http_edge.specs.declared.fault.EdgeFault.{EdgeFault}
use Rattle.http_serving.specs.EdgeWire.{edge_wire}
use Rattle.gnap_model.specs.Common.{Text}
use Rattle.gnap_model.specs.declared.objects.GrantRequest.{GrantRequest}
use Rattle.gnap_model.specs.declared.objects.Setup.{Setup}
use Rattle.gnap_model.specs.declared.calls.Call.TheVariants.{Begin}
use Rattle.grant_machine.specs.Gnap.{GnapEntry}
use Rattle.serving.specs.Connections.{Session}
use Rattle.serving.specs.declared.ends.ConnectionEnd.{ConnectionEnd}
use Rattle.derivation_requests.specs.Pairs.{Pair}
use Rattle.derivation_requests.specs.Deriving.{server_of}
use Rattle.derived_tokens.specs.DerivedTurns.{question, active_until, IsDerivingTurn}

-- The connection was served by these turns: its requests in order, each answered at once or by the replies of its entries, and what was said at the end.
abbrev pub IsDerivingSession : List Pair → Setup → Served → List (Turn Message GnapEntry) → Type 0
IsDerivingSession pairs setup conn turns = (ended : ConnectionEnd EdgeFault) × Session edge_wire (IsDerivingTurn pairs setup) conn turns ended

-- ---- entries of one number

-- the entry asked, for this server, about a token, and was told that it is live before this moment
pub record ToldLive (server : Text) (end : ℕ) (e : GnapEntry) : Type 0 where
  pub parent : Text
  pub asked : e.call ≡ question server parent
  pub told : active_until e.reply ≡ Some end

-- Where the entry begins a grant of a pair's client, the one before it was told that a token is live, for the pair's server; and the grant was asked for with
-- the
-- end of that token.
abbrev pub IsDerived : List Pair → Option GnapEntry → GnapEntry → Type 0
IsDerived pairs before e = (key server : Text) (request : GrantRequest) (not_after : Option ℕ) → e.call.call ≡ Begin key request not_after
    → server_of pairs key ≡ Some server → (parent : GnapEntry) × (end : ℕ) × (before ≡ Some parent) × ToldLive server end parent × (not_after ≡ Some end)

-- each of the entries, with the one before it
abbrev pub AreDerivedAfter : List Pair → Option GnapEntry → List GnapEntry → Type 0
AreDerivedAfter pairs before [] = Unit {0}
AreDerivedAfter pairs before (e ∷ es) = IsDerived pairs before e × AreDerivedAfter pairs (Some e) es

abbrev pub AreDerived : List Pair → List GnapEntry → Type 0
AreDerived pairs entries = AreDerivedAfter pairs None entries
