-- Grant requests and modifications (RFC 9635, sections 2 and 5.3).
use Rattle.std.specs.Prelude.{ℕ, ◌==◌, ◌&&◌, List, length, Bool, true, false, not, Option, Some, None, Result, Ok, Err, if◌then◌else◌, codes}
use Rattle.serde_json.specs.Data.{Data}
use Rattle.json_objects.specs.Reading.{◌>>=◌}
use Rattle.gnap_model.specs.Asked.{asked_rights}
use Rattle.gnap_model.specs.declared.objects.Ask.{Ask}
use Rattle.gnap_model.specs.declared.objects.GrantRequest.{GrantRequest}
use Rattle.gnap_objects.specs.declared.fault.ObjectFault.{ObjectFault}
use Rattle.gnap_objects.specs.declared.fault.ObjectFault.TheVariants as faults
use Rattle.gnap_objects.specs.declared.grants.GrantBody.{GrantBody}
use Rattle.gnap_objects.specs.declared.grants.ClientName.{ClientName}
use Rattle.gnap_objects.specs.declared.token_requests.TokenRequests.{TokenRequests}
use Rattle.gnap_objects.specs.Reading.{required, key_name_of, is_too_long}
use Rattle.gnap_objects.specs.TokenRequests.{token_requests_of}
use Rattle.gnap_objects.specs.Users.{subject_request_of, user_of}
use Rattle.gnap_objects.specs.Interactions.{interact_of}

-- a token or an identifier of the user has to be asked for
abbrev pub some_asked : TokenRequests → Bool → Result TokenRequests ObjectFault
some_asked ts subject = if length ts.asks == 0 && not subject then Err (faults.Missing (codes "access_token")) else Ok ts

-- `client`: an id, or an object with a key's id; a modification isn't asked for it
unfoldable pub client_of : Bool → Data → Result ClientName ObjectFault
client_of true d = Ok (record { id = None; by_object = false })
client_of false d = required (codes "client") d >>= key_name_of (codes "client") >>= λ key. Ok (record { id = Some key.id; by_object = key.by_object })

-- `user`; a modification isn't asked for it
abbrev pub named_user_of : Bool → Data → Result (Option (List ℕ)) ObjectFault
named_user_of true d = Ok None
named_user_of false d = user_of d

-- all asked rights together
abbrev pub asks_too_much : List Ask → Bool
asks_too_much asks = is_too_long (asked_rights asks)

abbrev pub checked_size : TokenRequests → Result TokenRequests ObjectFault
checked_size ts = if asks_too_much ts.asks then Err (faults.TooMany (codes "access_token")) else Ok ts

-- the body of a grant request, or of a modification (true), up to the test of the flags
unfoldable pub grant_body_of : Bool → Data → Result GrantBody ObjectFault
grant_body_of modify d = do
  tokens ← token_requests_of d
  subject ← subject_request_of d
  some ← some_asked tokens subject
  client ← client_of modify d
  user ← named_user_of modify d
  modes ← interact_of d
  small ← checked_size tokens
  Ok (record {
    request = record {
      asks = tokens.asks;
      single = tokens.single;
      subject = subject;
      client = client.id;
      by_object = client.by_object;
      user = user;
      modes =
          modes;
    };
    repeats_flag = tokens.repeats_flag;
  })

-- no flag stands twice
abbrev pub checked_flags : GrantBody → Result GrantRequest ObjectFault
checked_flags body = if body.repeats_flag then Err (faults.Flag (codes "flags")) else Ok body.request

-- a grant request, or a modification (true)
unfoldable pub request_of : Bool → Data → Result GrantRequest ObjectFault
request_of modify d = grant_body_of modify d >>= checked_flags
