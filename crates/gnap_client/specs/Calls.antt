-- The requests of a client (RFC 9635, sections 2, 5, 6 and 7.2), and when they may be made.
use Rattle.std.specs.Prelude.{◌≡◌, ℕ, ◌||◌, Bool, true, false, List, [], ◌∷◌, ◌++◌, length, Option, Some, None, option_map, Result, Ok, Err, if◌then◌else◌, codes, slice_get}
use Rattle.std.specs.Str.{bytes_eq}
use Rattle.serde_json.specs.Data.{Data, string}
use Rattle.serde_json.specs.Written.{compact_text}
use Rattle.json_objects.specs.Objects.{object_of}
use Rattle.json_objects.specs.Reading.{◌>>=◌, Fails}
use Rattle.gnap_model.specs.declared.calls.TokenOut.{TokenOut}
use Rattle.gnap_model.specs.declared.objects.Finish.{Finish}
use Rattle.gnap_model.specs.declared.objects.Modes.{Modes}
use Rattle.gnap_model.specs.declared.objects.GrantRequest.{GrantRequest}
use Rattle.interaction.specs.Hashes.{interaction_hash}
use Rattle.grant_values.specs.Grants.{grant_text}
use Rattle.reply_readers.specs.declared.grant_reply.Interaction.{Interaction}
use Rattle.signed_requests.specs.declared.unsigned.UnsignedRequest.{UnsignedRequest}
use Rattle.signed_requests.specs.declared.unsigned.Scheme.{Scheme}
use Rattle.signed_requests.specs.declared.unsigned.Scheme.TheVariants.{Gnap, Bearer}
use Rattle.signed_requests.specs.Requests.{marked_request}
use Rattle.gnap_client.specs.declared.config.ClientConfig.{ClientConfig}
use Rattle.gnap_client.specs.declared.client.State.{State}
use Rattle.gnap_client.specs.declared.client.State.TheVariants as states
use Rattle.gnap_client.specs.declared.client.Asked.{Asked}
use Rattle.gnap_client.specs.declared.client.Asked.TheVariants as asks
use Rattle.gnap_client.specs.declared.client.Received.{Received}
use Rattle.gnap_client.specs.declared.client.Client.{Client}
use Rattle.gnap_client.specs.declared.calls.DueRequest.{DueRequest}
use Rattle.gnap_client.specs.declared.client.ClientFault.{ClientFault}
use Rattle.gnap_client.specs.declared.client.ClientFault.TheVariants as faults

-- ---- when

abbrev pub is_fresh : State → Bool
is_fresh states.Fresh = true
is_fresh _ = false

abbrev pub is_pending : State → Bool
is_pending states.Pending = true
is_pending _ = false

abbrev pub is_approved : State → Bool
is_approved states.Approved = true
is_approved _ = false

abbrev pub is_open : State → Bool
is_open state = is_pending state || is_approved state

-- in a state that passes the test
abbrev pub in_state : (State → Bool) → Received → Result Received ClientFault
in_state test received = if test received.state then Ok received else Err (faults.WrongState received.state)

-- ---- parts of requests

abbrev pub request_message : List ℕ → List ℕ → Option (Scheme × List ℕ) → List ℕ → UnsignedRequest
request_message method target presented body = record { method = method; target = target; presented = presented; body = body }

-- the continuation value is presented
abbrev pub with_door : Received → Option (Scheme × List ℕ)
with_door received = option_map (λ (door : List ℕ). (Gnap, door)) received.door

-- how the client wants to be told of the interaction's end
abbrev pub finish_asked : Option Modes → Option Finish
finish_asked None = None
finish_asked (Some modes) = modes.finish

abbrev pub reference_fields : List ℕ → List (List ℕ × Option Data)
reference_fields reference = (codes "interact_ref", Some (string reference)) ∷ []

-- the body of a continuation with an interaction reference
abbrev pub reference_body : List ℕ → List ℕ
reference_body reference = compact_text (object_of (reference_fields reference))

-- a request to continue the grant, with what it asks for (section 5)
abbrev pub continuation : Client → List ℕ → List ℕ → Asked → DueRequest
continuation c method body asked = record {
  base = c.config.server;
  message = request_message method (codes "/continue") (with_door c.received) body;
  asks = asked;
}

-- a request to manage a token (section 6)
abbrev pub management : Client → List ℕ → TokenOut → Asked → DueRequest
management c method token asked = record {
  base = c.config.server;
  message = request_message method (codes "/token") (Some (Gnap, token.manage)) [];
  asks = asked;
}

-- ---- the calls

-- a grant request (section 2)
unfoldable pub begin_call : Client → GrantRequest → Result DueRequest ClientFault
begin_call c request = in_state is_fresh c.received >>= λ received. Ok (record {
  base = c.config.server;
  message = request_message (codes "POST") (codes "/gnap") None (grant_text request);
  asks = asks.Grant (finish_asked request.modes);
})

-- a continuation without a reference (section 5.2)
unfoldable pub poll_call : Client → Result DueRequest ClientFault
poll_call c = in_state is_open c.received >>= λ received. Ok (continuation c (codes "POST") [] asks.Continuation)

-- a modification (section 5.3)
unfoldable pub patch_call : Client → GrantRequest → Result DueRequest ClientFault
patch_call c request =
    in_state is_open c.received >>= λ received. Ok (continuation c (codes "PATCH") (grant_text request) (asks.Grant (finish_asked request.modes)))

-- a cancellation (section 5.4)
unfoldable pub cancel_call : Client → Result DueRequest ClientFault
cancel_call c = in_state is_open c.received >>= λ received. Ok (continuation c (codes "DELETE") [] asks.Cancellation)

abbrev pub nonce_of : Option Interaction → Option (List ℕ)
nonce_of None = None
nonce_of (Some interaction) = interaction.nonce

abbrev pub both_of : Option Finish → Option (List ℕ) → Option (Finish × List ℕ)
both_of (Some finish) (Some nonce) = Some (finish, nonce)
both_of _ _ = None

-- while the client is pending: the finish that was asked for and the server's nonce, where both are there
abbrev pub awaits : Received → Option (Finish × List ℕ)
awaits received = if is_pending received.state then both_of received.finish (nonce_of received.interaction) else None

abbrev pub awaited : State → Option (Finish × List ℕ) → Result (Finish × List ℕ) ClientFault
awaited state None = Err (faults.WrongState state)
awaited state (Some both) = Ok both

-- the hash of the interaction with this reference (section 4.2.3)
abbrev pub awaited_hash : List ℕ → Finish × List ℕ → List ℕ → List ℕ
awaited_hash server both reference = interaction_hash both.0.long both.0.nonce both.1 reference (server ++ codes "/gnap")

abbrev pub checked_hash : List ℕ → List ℕ → Result (List ℕ) ClientFault
checked_hash wanted hash = if bytes_eq wanted hash then Ok wanted else Err (faults.HashDiffers wanted hash)

-- the hash of the client's interaction with this reference, where it is this one
abbrev pub own_hash : Client → List ℕ → List ℕ → Result (List ℕ) ClientFault
own_hash c hash reference =
    awaited c.received.state (awaits c.received) >>= λ both. checked_hash (awaited_hash c.config.server both reference) hash

-- a continuation with an interaction reference (section 5.1), where the hash is that of the interaction
unfoldable pub finish_call : Client → List ℕ → List ℕ → Result DueRequest ClientFault
finish_call c hash reference = own_hash c hash reference >>= λ same. Ok (continuation c (codes "POST") (reference_body reference) asks.Continuation)

abbrev pub token_in : List TokenOut → Option TokenOut → Result TokenOut ClientFault
token_in tokens None = Err (faults.NoToken (length tokens))
token_in tokens (Some token) = Ok token

-- the token at a place
abbrev pub token_at : Received → ℕ → Result TokenOut ClientFault
token_at received i = in_state is_approved received >>= λ (r : Received). token_in r.tokens (slice_get r.tokens i)

-- the rotation of a token (section 6.1)
unfoldable pub rotate_call : Client → ℕ → Result DueRequest ClientFault
rotate_call c i = token_at c.received i >>= λ (token : TokenOut). Ok (management c (codes "POST") token (asks.Rotation i))

-- its revocation (section 6.2)
unfoldable pub revoke_call : Client → ℕ → Result DueRequest ClientFault
revoke_call c i = token_at c.received i >>= λ (token : TokenOut). Ok (management c (codes "DELETE") token asks.Revocation)

abbrev pub scheme_for : TokenOut → Scheme
scheme_for token = if token.bearer then Bearer else Gnap

-- a request to the resource server that presents a token (section 7.2)
unfoldable pub use_call : Client → ℕ → List ℕ → List ℕ → Result DueRequest ClientFault
use_call c i method path = token_at c.received i >>= λ (token : TokenOut). Ok (record {
  base = c.config.resource;
  message = request_message method path (Some (scheme_for token, token.value)) [];
  asks = asks.Resource;
})

-- ---- what a call does

-- The bytes are the request that is due, signed at this moment with this nonce, which is now the outstanding one.
pub record Asks (due : Result DueRequest ClientFault) (now : ℕ) (nonce : List ℕ) (old new : Client) (bytes : List ℕ) : Type 0 where
  pub request : DueRequest
  pub is_due : due ≡ Ok request
  pub signed : marked_request request.base old.config.id old.config.secret now nonce request.message ≡ Some bytes
  pub leaves : new ≡ record old { asked = Some request.asks }

-- A call answers the request that is due, or the fault that is; want of memory may come at any time. An Err changes nothing.
abbrev pub HasAsked : Result DueRequest ClientFault → ℕ → List ℕ → Client → Client → Result (List ℕ) ClientFault → Type 0
HasAsked due now nonce old new (Ok bytes) = Asks due now nonce old new bytes
HasAsked due now nonce old new (Err fault) = Fails faults.OutOfMemory fault due × (new ≡ old)
