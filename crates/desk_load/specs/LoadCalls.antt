-- The setup of a load, and the calls that put a grant through.
use Rattle.std.specs.Prelude.{ℕ, Bool, true, false, List, [], ◌∷◌, ◌++◌, codes, Option, Some, None}
use Rattle.std.specs.Fmt.{decimal}
use Rattle.gnap_model.specs.declared.rights.Right.{Right}
use Rattle.gnap_model.specs.declared.rights.Right.TheVariants.{Reference}
use Rattle.gnap_model.specs.declared.objects.GrantRequest.{GrantRequest}
use Rattle.gnap_model.specs.declared.objects.KeyRow.{KeyRow}
use Rattle.gnap_model.specs.declared.objects.Role.TheVariants.{Client, Server}
use Rattle.gnap_model.specs.declared.objects.Setup.{Setup}
use Rattle.gnap_model.specs.declared.calls.Call.{Call}
use Rattle.gnap_model.specs.declared.calls.Call.TheVariants.{Begin, Cancel, Rotate, Introspect}
use Rattle.gnap_model.specs.declared.calls.Reply.{Reply}
use Rattle.gnap_model.specs.declared.calls.Reply.TheVariants.{Granted, Pending, Continuing, Rotated}
use Rattle.gnap_model.specs.declared.calls.TokenOut.{TokenOut}
use Rattle.signed_calls.specs.declared.signed.Mark.{Mark}
use Rattle.signed_calls.specs.declared.signed.Signed.{Signed}

-- the moment of all calls, and of the client's signatures
abbrev pub load_moment : ℕ
load_moment = 1000000

-- the reference to one right
abbrev pub reference_to : List ℕ → List Right
reference_to name = Reference name ∷ []

-- a client that gets photos at once and mail where the user agrees
abbrev pub client_row : KeyRow
client_row = record {
  id = codes "c1";
  role = Client;
  secret = codes "secret-key-of-c1";
  auto_rights = reference_to (codes "photos");
  ask_rights = reference_to (codes "mail");
  serves = [];
}

-- a resource server that serves both
abbrev pub server_row : KeyRow
server_row = record {
  id = codes "r1";
  role = Server;
  secret = codes "secret-key-of-r1";
  auto_rights = [];
  ask_rights = [];
  serves = codes "photos" ∷ codes "mail" ∷ [];
}

abbrev pub load_setup : Setup
load_setup = record { base = codes "https://as.example"; front = codes "https://front.example"; keys = client_row ∷ server_row ∷ [] }

-- the client asks for a token for photos
abbrev pub photos_request : GrantRequest
photos_request = record {
  asks = record { label = None; rights = reference_to (codes "photos"); bearer = false } ∷ [];
  single = true;
  subject = false;
  client = Some (codes "c1");
  by_object = false;
  user = None;
  modes = None;
}

-- the token that a reply hands out, or the first of several
abbrev pub first_token : List TokenOut → Option TokenOut
first_token [] = None
first_token (t ∷ ts) = Some t

abbrev pub token_in : Reply → Option TokenOut
token_in (Granted door tokens single subject instance) = first_token tokens
token_in (Rotated token) = Some token
token_in _ = None

-- its value, and the one that manages it; the empty text where there is none
abbrev pub value_of : Option TokenOut → List ℕ
value_of None = []
value_of (Some t) = t.value

abbrev pub manage_of : Option TokenOut → List ℕ
manage_of None = []
manage_of (Some t) = t.manage

-- the continuation value of a reply, the empty text where it has none
abbrev pub door_in : Reply → List ℕ
door_in (Granted door tokens single subject instance) = door
door_in (Pending door modes handle code nonce expires_in instance) = door
door_in (Continuing door) = door
door_in _ = []

abbrev pub opening_call : Call
opening_call = Begin (codes "c1") photos_request None

-- the resource server asks about the token of a reply
abbrev pub question_about : Reply → Call
question_about reply = Introspect (codes "r1") (value_of (token_in reply)) None None

abbrev pub rotation_of : Reply → Call
rotation_of reply = Rotate (codes "c1") (manage_of (token_in reply)) None

abbrev pub cancellation_of : Reply → Call
cancellation_of reply = Cancel (codes "c1") (door_in reply)

-- A call of the client has a mark: its nonce is the grant's number, `-`, and the call's place among all calls of the grant, from 1 on, in decimal digits.
abbrev pub mark_at : ℕ → ℕ → Mark
mark_at grant place = record { nonce = decimal grant ++ codes "-" ++ decimal place; created = load_moment }

abbrev pub marked : ℕ → ℕ → Call → Signed
marked grant place call = record { mark = Some (mark_at grant place); call = call }

-- a question of the resource server has none
abbrev pub unmarked : Call → Signed
unmarked call = record { mark = None; call = call }

-- the places of the client's calls
abbrev pub opening_place : ℕ
opening_place = 1

abbrev pub rotation_place : ℕ
rotation_place = 3

abbrev pub cancellation_place : ℕ
cancellation_place = 6

-- How a grant with a number is put through: it is opened, its token asked about and rotated, and the old token and the new one asked about. Where the
-- grant is ended too, the new token is asked about once more.
abbrev pub calls_after : Bool → ℕ → Reply → Reply → List Signed
calls_after true grant opened rotated = marked grant cancellation_place (cancellation_of opened) ∷ unmarked (question_about rotated) ∷ []
calls_after false grant opened rotated = []

-- what follows the rotation, and what follows the opening
abbrev pub calls_rotated : Bool → ℕ → Reply → Reply → List Signed
calls_rotated ends grant opened rotated =
    unmarked (question_about opened) ∷ unmarked (question_about rotated) ∷ calls_after ends grant opened rotated

abbrev pub calls_opened : Bool → ℕ → Reply → Reply → List Signed
calls_opened ends grant opened rotated =
    unmarked (question_about opened) ∷ marked grant rotation_place (rotation_of opened) ∷ calls_rotated ends grant opened rotated

abbrev pub calls_through : Bool → ℕ → Reply → Reply → List Signed
calls_through ends grant opened rotated = marked grant opening_place opening_call ∷ calls_opened ends grant opened rotated
