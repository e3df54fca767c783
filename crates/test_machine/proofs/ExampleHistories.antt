-- Histories of calls, and a setup for examples.
use Rattle.std.specs.Prelude.{ℕ, true, false, List, [], ◌∷◌, ◌++◌, codes, replicate, take}
use Rattle.std.specs.declared.option.Option.{Option}
use Rattle.std.specs.declared.option.Option.TheVariants.{None, Some}
use Rattle.gnap_model.specs.Common.{Text}
use Rattle.gnap_model.specs.declared.rights.Right.{Right}
use Rattle.gnap_model.specs.declared.rights.Right.TheVariants.{Reference}
use Rattle.gnap_model.specs.declared.objects.Modes.{Modes}
use Rattle.gnap_model.specs.declared.objects.GrantRequest.{GrantRequest}
use Rattle.gnap_model.specs.declared.objects.Verdict.{Verdict}
use Rattle.gnap_model.specs.declared.objects.Setup.{Setup}
use Rattle.gnap_model.specs.declared.objects.Role.TheVariants.{Client, Server, Front}
use Rattle.gnap_model.specs.declared.calls.Call.{Call}
use Rattle.gnap_model.specs.declared.calls.Reply.{Reply}
use Rattle.gnap_model.specs.declared.calls.TokenOut.{TokenOut}
use Rattle.gnap_model.specs.declared.calls.Call.TheVariants.{Begin, Introspect, Decide, Continue}
use Rattle.gnap_model.specs.Notes.{Event}
use Rattle.gnap_model.specs.Actions.{Outcome}
use Rattle.gnap_model.specs.Answer.{answer}

-- a call, with its moment and its draw of 48 words
pub record Line : Type 0 where
  pub moment : ℕ
  pub draw : List ℕ
  pub call : Call

abbrev pub line : ℕ → List ℕ → Call → Line
line moment draw call = record { moment = moment; draw = draw; call = call }

-- a draw of these words, then zeros, and the last word
abbrev pub words : List ℕ → ℕ → List ℕ
words first last = take 47 (first ++ replicate 47 0) ++ last ∷ []

-- a call whose words are all zero
abbrev pub at : ℕ → Call → Line
at moment call = line moment (replicate 48 0) call

abbrev pub entry_of : Line → Outcome → Event
entry_of given outcome = record {
  number = 0;
  moment = given.moment;
  draw = given.draw;
  call = given.call;
  reply = outcome.reply;
  notes = outcome.notes;
}

abbrev pub next : Setup → List Event → Line → Event
next rules past given = entry_of given (answer rules past given.moment given.draw given.call)

-- the past after the lines
abbrev pub played : Setup → List Event → List Line → List Event
played rules past [] = past
played rules past (given ∷ lines) = let entry = next rules past given in played rules (entry ∷ past) lines

-- the replies to the lines
abbrev pub replies : Setup → List Event → List Line → List Reply
replies rules past [] = []
replies rules past (given ∷ lines) = let entry = next rules past given in entry.reply ∷ replies rules (entry ∷ past) lines

-- the replies to the lines, and their notes
abbrev pub outcomes : Setup → List Event → List Line → List Outcome
outcomes rules past [] = []
outcomes rules past (given ∷ lines) =
    let outcome = answer rules past given.moment given.draw given.call in outcome ∷ outcomes rules (entry_of given outcome ∷ past) lines

abbrev pub photos : List Right
photos = Reference (codes "photos") ∷ []

abbrev pub mail : List Right
mail = Reference (codes "mail") ∷ []

abbrev pub c1 : Text
c1 = codes "c1"

abbrev pub c2 : Text
c2 = codes "c2"

abbrev pub r1 : Text
r1 = codes "r1"

abbrev pub r2 : Text
r2 = codes "r2"

abbrev pub f1 : Text
f1 = codes "f1"

-- two clients, two resource servers and a consent front
abbrev pub setup : Setup
setup = record {
  base = codes "https://as.example";
  front = codes "https://front.example";
  keys = record { id = c1; role = Client; secret = codes "secret-key-of-c1"; auto_rights = photos; ask_rights = mail; serves = [] }
      ∷ record { id = c2; role = Client; secret = codes "secret-key-of-c2"; auto_rights = photos; ask_rights = []; serves = [] }
      ∷ record { id = r1; role = Server; secret = codes "secret-key-of-r1"; auto_rights = []; ask_rights = []; serves = codes "photos" ∷ codes "mail" ∷ [] }
      ∷ record { id = r2; role = Server; secret = codes "secret-key-of-r2"; auto_rights = []; ask_rights = []; serves = codes "calendar" ∷ [] }
      ∷ record { id = f1; role = Front; secret = codes "secret-key-of-f1"; auto_rights = []; ask_rights = []; serves = [] } ∷ [];
}

abbrev pub ask_for : List Right → Option Modes → GrantRequest
ask_for rights modes = record {
  asks = record { label = None; rights = rights; bearer = false } ∷ [];
  single = true;
  subject = false;
  client = Some c1;
  by_object = false;
  user = None;
  modes = modes;
}

-- one token for the photos
abbrev pub for_photos : GrantRequest
for_photos = ask_for photos None

abbrev pub begin : ℕ → GrantRequest → Line
begin moment request = at moment (Begin c1 request None)

abbrev pub introspect : ℕ → Text → Line
introspect moment value = at moment (Introspect r1 value None None)

abbrev pub continue : ℕ → Text → Option Text → Line
continue moment value reference = at moment (Continue c1 value reference)

abbrev pub decide : ℕ → Text → Verdict → Option (List Right) → Line
decide moment handle verdict rights = at moment (Decide f1 (record { handle = handle; verdict = verdict; rights = rights; subject = None }))

-- by a redirect, with a finish
abbrev pub by_redirect : Modes
by_redirect = record {
  redirect = true;
  user_code = false;
  user_code_uri = false;
  finish = Some
      (record { push = false; uri = codes "https://client.example/cb"; nonce = codes "VJLO6A4CATR0KRO"; long = false });
}

-- by a user code, without a finish
abbrev pub by_code : Modes
by_code = record { redirect = false; user_code = true; user_code_uri = false; finish = None }

-- a token that was just issued
abbrev pub token : List Right → Text → Text → TokenOut
token rights value manage = record { value = value; manage = manage; label = None; rights = rights; expires_in = 3600; bearer = false }

abbrev pub v1 : Text
v1 = codes "AAAAAAAAAAEAAAAAAAAAAAAAAAAAAAAA"

abbrev pub v2 : Text
v2 = codes "AAAAAAAAAAIAAAAAAAAAAAAAAAAAAAAA"

abbrev pub v3 : Text
v3 = codes "AAAAAAAAAAMAAAAAAAAAAAAAAAAAAAAA"

abbrev pub v4 : Text
v4 = codes "AAAAAAAAAAQAAAAAAAAAAAAAAAAAAAAA"

abbrev pub v5 : Text
v5 = codes "AAAAAAAAAAUAAAAAAAAAAAAAAAAAAAAA"

abbrev pub v6 : Text
v6 = codes "AAAAAAAAAAYAAAAAAAAAAAAAAAAAAAAA"

abbrev pub v7 : Text
v7 = codes "AAAAAAAAAAcAAAAAAAAAAAAAAAAAAAAA"

abbrev pub v8 : Text
v8 = codes "AAAAAAAAAAgAAAAAAAAAAAAAAAAAAAAA"

abbrev pub v9 : Text
v9 = codes "AAAAAAAAAAkAAAAAAAAAAAAAAAAAAAAA"

abbrev pub zeros_8 : Text
zeros_8 = replicate 8 0

abbrev pub zeros_32 : Text
zeros_32 = replicate 32 0
