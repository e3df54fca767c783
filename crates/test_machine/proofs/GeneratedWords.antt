-- The words in which the generated histories are written.
use Rattle.std.specs.Prelude.{ℕ, Bool, true, List, [], ◌∷◌, is_some}
use Rattle.std.specs.List.{flat_map}
use Rattle.std.specs.declared.option.Option.{Option}
use Rattle.gnap_model.specs.Common.{Text}
use Rattle.gnap_model.specs.declared.rights.Right.{Right}
use Rattle.gnap_model.specs.declared.rights.Right.TheVariants.{Object}
use Rattle.gnap_model.specs.declared.objects.Ask.{Ask}
use Rattle.gnap_model.specs.declared.objects.Finish.{Finish}
use Rattle.gnap_model.specs.declared.objects.Modes.{Modes}
use Rattle.gnap_model.specs.declared.objects.GrantRequest.{GrantRequest}
use Rattle.gnap_model.specs.declared.objects.DecideRequest.{DecideRequest}
use Rattle.gnap_model.specs.declared.objects.Verdict.{Verdict}
use Rattle.gnap_model.specs.declared.objects.Setup.{Setup}
use Rattle.gnap_model.specs.declared.objects.KeyRow.{KeyRow}
use Rattle.gnap_model.specs.declared.objects.Role.{Role}
use Rattle.gnap_model.specs.declared.calls.Reply.{Reply}
use Rattle.gnap_model.specs.declared.calls.TokenOut.{TokenOut}
use Rattle.gnap_model.specs.declared.calls.FinishOut.{FinishOut}
use Rattle.gnap_model.specs.declared.notes.Note.{Note}
use Rattle.gnap_model.specs.declared.notes.Note.TheVariants.{Opened, Terms, Issued, Pended, DecidedAs}
use Rattle.gnap_model.specs.Notes.{Event, trail_of}
use Rattle.gnap_model.specs.Standing.{live_token}
use Rattle.gnap_model.specs.Actions.{Outcome}
use Rattle.gnap_laws.specs.Provenance.{came}
use Rattle.test_machine.proofs.ExampleHistories.{Line, played}

abbrev pub out : Reply → List Note → Outcome
out reply notes = record { reply = reply; notes = notes }

-- a moment, and values that are asked about
pub record Query : Type 0 where
  pub moment : ℕ
  pub values : List Text

abbrev pub asked : ℕ → List Text → Query
asked moment values = record { moment = moment; values = values }

-- of each value whether requests and replies alone show that a token with it lasts, and whether the notes have a live token with it
abbrev pub told_of : List Event → Query → List Bool
told_of past query = flat_map (λ value. came past query.moment value (λ token. true) ∷ is_some (live_token (trail_of past) query.moment value) ∷ [])
    query.values

abbrev pub told : Setup → List Line → List Query → List Bool
told rules lines queries = let past = played rules [] lines in flat_map (told_of past) queries

abbrev pub object : Text → Option (List Text) → Option (List Text) → Option (List Text) → Option (List Text) → Option Text → Text → Right
object kind actions locations datatypes privileges identifier further = Object
    (record {
      kind = kind;
      actions = actions;
      locations = locations;
      datatypes = datatypes;
      privileges = privileges;
      identifier = identifier;
      further = further;
    })

abbrev pub ask_of : Option Text → List Right → Bool → Ask
ask_of label rights bearer = record { label = label; rights = rights; bearer = bearer }

abbrev pub finish_by : Bool → Text → Text → Bool → Finish
finish_by push uri nonce long = record { push = push; uri = uri; nonce = nonce; long = long }

abbrev pub modes_of : Bool → Bool → Bool → Option Finish → Modes
modes_of redirect user_code user_code_uri finish = record { redirect = redirect; user_code = user_code; user_code_uri = user_code_uri; finish = finish }

abbrev pub request_of : List Ask → Bool → Bool → Option Text → Bool → Option Text → Option Modes → GrantRequest
request_of asks single subject client by_object user modes = record
    { asks = asks; single = single; subject = subject; client = client; by_object = by_object; user = user; modes = modes }

abbrev pub decide_of : Text → Verdict → Option (List Right) → Option Text → DecideRequest
decide_of handle verdict rights subject = record { handle = handle; verdict = verdict; rights = rights; subject = subject }

abbrev pub token_out : Text → Text → Option Text → List Right → ℕ → Bool → TokenOut
token_out value manage label rights expires_in bearer = record
    { value = value; manage = manage; label = label; rights = rights; expires_in = expires_in; bearer = bearer }

abbrev pub finish_out : Finish → Text → Text → FinishOut
finish_out finish server_nonce reference = record { finish = finish; server_nonce = server_nonce; reference = reference }

abbrev pub opened : ℕ → Text → Bool → Option Text → ℕ → Note
opened grant key by_object user end = Opened (record { grant = grant; key = key; by_object = by_object; user = user; end = end })

abbrev pub terms : ℕ → List Ask → Bool → Bool → Note
terms grant asks single subject = Terms (record { grant = grant; asks = asks; single = single; subject = subject })

abbrev pub issued : ℕ → ℕ → Option Text → List Right → Bool → Text → ℕ → ℕ → Text → Text → Note
issued serial grant label rights bearer key begun until value manage = Issued
    (record {
      serial = serial;
      grant = grant;
      label = label;
      rights = rights;
      bearer = bearer;
      key = key;
      issued = begun;
      until = until;
      value = value;
      manage =
          manage;
    })

abbrev pub pended : ℕ → ℕ → ℕ → Modes → Text → Option Text → Option Text → Note
pended grant until over modes handle code nonce = Pended
    (record { grant = grant; until = until; over = over; modes = modes; handle = handle; code = code; nonce = nonce })

abbrev pub decided : ℕ → Verdict → Option Text → List Right → Option Text → Note
decided grant verdict reference rights subject = DecidedAs
    (record { grant = grant; verdict = verdict; reference = reference; rights = rights; subject = subject })

abbrev pub key_with : Text → Role → Text → List Right → List Right → List Text → KeyRow
key_with id role secret auto_rights ask_rights serves = record
    { id = id; role = role; secret = secret; auto_rights = auto_rights; ask_rights = ask_rights; serves = serves }

abbrev pub rules_with : Text → Text → List KeyRow → Setup
rules_with base front keys = record { base = base; front = front; keys = keys }
