-- The ways to interact with the user that a grant request offers (RFC 9635, section 2.5).
use Rattle.std.specs.Prelude.{ℕ, List, Bool, true, false, Option, Some, None, Result, Ok, Err, if◌then◌else◌, codes}
use Rattle.std.specs.Str.{bytes_eq}
use Rattle.serde_json.specs.Data.{Data}
use Rattle.serde_json.specs.Find.{get}
use Rattle.json_objects.specs.Reading.{◌>>=◌}
use Rattle.interaction.specs.Uris.{uri_fits}
use Rattle.gnap_model.specs.declared.objects.Finish.{Finish}
use Rattle.gnap_model.specs.declared.objects.Modes.{Modes}
use Rattle.gnap_objects.specs.declared.fault.ObjectFault.{ObjectFault}
use Rattle.gnap_objects.specs.declared.fault.ObjectFault.TheVariants as faults
use Rattle.gnap_objects.specs.Reading.{optional, checked_object, required_items, has_string, text_of, required_text, sized, checked}

-- ---- finish (RFC 9635, section 2.5.2)

abbrev pub push_in : List ℕ → Result Bool ObjectFault
push_in s = if bytes_eq s (codes "redirect") then Ok false
    else (if bytes_eq s (codes "push") then Ok true else Err (faults.Wrong (codes "method")))

-- `method`: `redirect` or `push`
unfoldable pub push_of : Data → Result Bool ObjectFault
push_of d = required_text (codes "method") d >>= push_in

-- `uri`: a URI of http or https without a fragment, of 1 to 2,048 bytes
unfoldable pub finish_uri_of : Data → Result (List ℕ) ObjectFault
finish_uri_of d = required_text (codes "uri") d >>= sized 2048 (codes "uri") >>= checked uri_fits (codes "uri")

-- `nonce`: 1 to 256 bytes
unfoldable pub nonce_of : Data → Result (List ℕ) ObjectFault
nonce_of d = required_text (codes "nonce") d >>= sized 256 (codes "nonce")

abbrev pub long_in : List ℕ → Result Bool ObjectFault
long_in s = if bytes_eq s (codes "sha-256") then Ok false
    else (if bytes_eq s (codes "sha-512") then Ok true else Err (faults.Wrong (codes "hash_method")))

abbrev pub hash_in : Option Data → Result Bool ObjectFault
hash_in None = Ok false
hash_in (Some d) = text_of (codes "hash_method") d >>= long_in

-- `hash_method`: `sha-256`, also where it is absent, or `sha-512`
unfoldable pub long_of : Data → Result Bool ObjectFault
long_of d = hash_in (get (codes "hash_method") d)

unfoldable pub asked_finish_of : Data → Result Finish ObjectFault
asked_finish_of d = do
  finish ← checked_object (codes "finish") d
  push ← push_of finish
  uri ← finish_uri_of finish
  nonce ← nonce_of finish
  long ← long_of finish
  Ok (record { push = push; uri = uri; nonce = nonce; long = long })

-- `finish`, where it is there
unfoldable pub optional_finish_of : Data → Result (Option Finish) ObjectFault
optional_finish_of d = optional asked_finish_of (get (codes "finish") d)

-- ---- modes

-- `start`: strings, of which `redirect`, `user_code` and `user_code_uri` count; and `finish`, where it is there
unfoldable pub offered_modes_of : Data → Result Modes ObjectFault
offered_modes_of d = do
  interact ← checked_object (codes "interact") d
  starts ← required_items (codes "start") interact
  redirect ← has_string (codes "start") (codes "redirect") starts
  user_code ← has_string (codes "start") (codes "user_code") starts
  user_code_uri ← has_string (codes "start") (codes "user_code_uri") starts
  finish ← optional_finish_of interact
  Ok (record { redirect = redirect; user_code = user_code; user_code_uri = user_code_uri; finish = finish })

-- `interact`, where it is there
unfoldable pub interact_of : Data → Result (Option Modes) ObjectFault
interact_of d = optional offered_modes_of (get (codes "interact") d)
