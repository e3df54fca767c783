-- The definitions, evaluated on replies of worked histories. The value of serial n with words 0 is `value n`.
use Rattle.std.specs.Prelude.{◌≡◌, ℕ, ◌+◌, List, [], ◌∷◌, codes, Bool, true, false, Option, Some, None, if◌then◌else◌}
use Rattle.std.proofs.Common.{refl}
use Rattle.std.specs.Fmt.{digits}
use Rattle.base64.specs.Rfc4648.{encode_symbols}
use Rattle.json.specs.Print.{escape_byte}
use Rattle.gnap_model.specs.Values.{value_text}
use Rattle.gnap_model.specs.declared.objects.Setup.{Setup}
use Rattle.gnap_model.specs.declared.objects.Modes.{Modes}
use Rattle.gnap_model.specs.declared.objects.ErrorCode.TheVariants.{TooFast, InvalidContinuation}
use Rattle.gnap_model.specs.declared.rights.Right.{Right}
use Rattle.gnap_model.specs.declared.rights.Right.TheVariants.{Reference}
use Rattle.gnap_model.specs.declared.calls.TokenOut.{TokenOut}
use Rattle.gnap_model.specs.declared.calls.Reply.{Reply}
use Rattle.gnap_model.specs.declared.calls.Reply.TheVariants as reply
use Rattle.serde_json.specs.Written.{compact_text}
use Rattle.gnap_replies.specs.Tokens.{token_data}
use Rattle.gnap_replies.specs.Grants.{continue_data, interact_data}
use Rattle.gnap_replies.specs.Interactions.{ask_data}
use Rattle.gnap_replies.specs.Responses.{response_of, text_of}
use Rattle.gnap_replies.specs.Discovery.{client_discovery, server_discovery}

abbrev setup : Setup
setup = record { base = codes "https://as.example"; front = codes "https://front.example"; keys = [] }

abbrev value : ℕ → List ℕ
value n = value_text n 0 0

abbrev right : List ℕ → List Right
right name = Reference name ∷ []

abbrev token : List ℕ → ℕ → Option (List ℕ) → Bool → TokenOut
token name serial label bearer =
    record { value = value serial; manage = value (serial + 1); label = label; rights = right name; expires_in = 3600; bearer = bearer }

-- the ways to interact: a redirect, a code, a code with its page, a finish
abbrev modes : Bool → Bool → Bool → Bool → Modes
modes redirect user_code user_code_uri finish = record {
  redirect = redirect;
  user_code = user_code;
  user_code_uri = user_code_uri;
  finish = if finish then Some (record { push = false; uri = codes "https://client.example/cb"; nonce = codes "VJLO6A4CATR0KRO"; long = false }) else None;
}

-- the reply goes out with this status and this text
abbrev GoesOut : Reply → ℕ → Option (List ℕ) → Type 0
GoesOut r status text = text_of (response_of setup r) ≡ (status, text)

granted : GoesOut (reply.Granted (value 3) (token (codes "photos") 1 None false ∷ []) true None None) 200
    (Some (codes "{\"access_token\":{\"access\":[\"photos\"],\"expires_in\":3600,\"manage\":{\"access_token\":{\"value\":\"AAAAAAAAAAIAAAAAAAAAAAAAAAAAAAAA\"},\"uri\":\"https://as.example/token\"},\"value\":\"AAAAAAAAAAEAAAAAAAAAAAAAAAAAAAAA\"},\"continue\":{\"access_token\":{\"value\":\"AAAAAAAAAAMAAAAAAAAAAAAAAAAAAAAA\"},\"uri\":\"https://as.example/continue\",\"wait\":5}}"))
unfolding digits response_of token_data continue_data interact_data ask_data value_text encode_symbols escape_byte
granted = refl

labelled : GoesOut (reply.Granted (value 5) (token (codes "photos") 1 (Some (codes "a")) false ∷ token (codes "photos") 3 (Some (codes "b")) true ∷ []) false
    None (Some (codes "c1"))) 200
    (Some (codes "{\"access_token\":[{\"access\":[\"photos\"],\"expires_in\":3600,\"label\":\"a\",\"manage\":{\"access_token\":{\"value\":\"AAAAAAAAAAIAAAAAAAAAAAAAAAAAAAAA\"},\"uri\":\"https://as.example/token\"},\"value\":\"AAAAAAAAAAEAAAAAAAAAAAAAAAAAAAAA\"},{\"access\":[\"photos\"],\"expires_in\":3600,\"flags\":[\"bearer\"],\"label\":\"b\",\"manage\":{\"access_token\":{\"value\":\"AAAAAAAAAAQAAAAAAAAAAAAAAAAAAAAA\"},\"uri\":\"https://as.example/token\"},\"value\":\"AAAAAAAAAAMAAAAAAAAAAAAAAAAAAAAA\"}],\"continue\":{\"access_token\":{\"value\":\"AAAAAAAAAAUAAAAAAAAAAAAAAAAAAAAA\"},\"uri\":\"https://as.example/continue\",\"wait\":5},\"instance_id\":\"c1\"}"))
unfolding digits response_of token_data continue_data interact_data ask_data value_text encode_symbols escape_byte
labelled = refl

subject_alone : GoesOut (reply.Granted (value 3) [] false (Some (codes "u1")) None) 200
    (Some (codes "{\"continue\":{\"access_token\":{\"value\":\"AAAAAAAAAAMAAAAAAAAAAAAAAAAAAAAA\"},\"uri\":\"https://as.example/continue\",\"wait\":5},\"subject\":{\"sub_ids\":[{\"format\":\"opaque\",\"id\":\"u1\"}]}}"))
unfolding digits response_of token_data continue_data interact_data ask_data value_text encode_symbols escape_byte
subject_alone = refl

pending : GoesOut (reply.Pending (value 1) (modes true false false true) (value 2) (codes "BBBBBBBB") (value 3) 600 None) 200
    (Some (codes "{\"continue\":{\"access_token\":{\"value\":\"AAAAAAAAAAEAAAAAAAAAAAAAAAAAAAAA\"},\"uri\":\"https://as.example/continue\",\"wait\":5},\"interact\":{\"expires_in\":600,\"finish\":\"AAAAAAAAAAMAAAAAAAAAAAAAAAAAAAAA\",\"redirect\":\"https://front.example/i/AAAAAAAAAAIAAAAAAAAAAAAAAAAAAAAA\"}}"))
unfolding digits response_of token_data continue_data interact_data ask_data value_text encode_symbols escape_byte
pending = refl

pending_by_code : GoesOut (reply.Pending (value 1) (modes false true true false) (value 2) (codes "BBBBBBBB") (value 3) 600 (Some (codes "c1"))) 200
    (Some (codes "{\"continue\":{\"access_token\":{\"value\":\"AAAAAAAAAAEAAAAAAAAAAAAAAAAAAAAA\"},\"uri\":\"https://as.example/continue\",\"wait\":5},\"instance_id\":\"c1\",\"interact\":{\"expires_in\":600,\"user_code\":\"BBBBBBBB\",\"user_code_uri\":{\"code\":\"BBBBBBBB\",\"uri\":\"https://front.example/code\"}}}"))
unfolding digits response_of token_data continue_data interact_data ask_data value_text encode_symbols escape_byte
pending_by_code = refl

continuing : GoesOut (reply.Continuing (value 3)) 200
    (Some (codes "{\"continue\":{\"access_token\":{\"value\":\"AAAAAAAAAAMAAAAAAAAAAAAAAAAAAAAA\"},\"uri\":\"https://as.example/continue\",\"wait\":5}}"))
unfolding digits response_of token_data continue_data interact_data ask_data value_text encode_symbols escape_byte
continuing = refl

rotated : GoesOut (reply.Rotated (token (codes "photos") 4 None false)) 200
    (Some (codes "{\"access_token\":{\"access\":[\"photos\"],\"expires_in\":3600,\"manage\":{\"access_token\":{\"value\":\"AAAAAAAAAAUAAAAAAAAAAAAAAAAAAAAA\"},\"uri\":\"https://as.example/token\"},\"value\":\"AAAAAAAAAAQAAAAAAAAAAAAAAAAAAAAA\"}}"))
unfolding digits response_of token_data continue_data interact_data ask_data value_text encode_symbols escape_byte
rotated = refl

done : GoesOut (reply.Done) 204
    None
unfolding digits response_of token_data continue_data interact_data ask_data value_text encode_symbols escape_byte
done = refl

active : GoesOut (reply.Active (right (codes "photos")) 1000 4600 (codes "c1") false) 200
    (Some (codes "{\"access\":[\"photos\"],\"active\":true,\"exp\":4600,\"iat\":1000,\"instance_id\":\"c1\",\"iss\":\"https://as.example/gnap\",\"key\":\"c1\"}"))
unfolding digits response_of token_data continue_data interact_data ask_data value_text encode_symbols escape_byte
active = refl

active_bearer : GoesOut (reply.Active (right (codes "photos")) 1000 4600 (codes "c1") true) 200
    (Some (codes "{\"access\":[\"photos\"],\"active\":true,\"exp\":4600,\"flags\":[\"bearer\"],\"iat\":1000,\"instance_id\":\"c1\",\"iss\":\"https://as.example/gnap\"}"))
unfolding digits response_of token_data continue_data interact_data ask_data value_text encode_symbols escape_byte
active_bearer = refl

inactive : GoesOut (reply.Inactive) 200
    (Some (codes "{\"active\":false}"))
unfolding digits response_of token_data continue_data interact_data ask_data value_text encode_symbols escape_byte
inactive = refl

shown : GoesOut (reply.Shown (record { label = None; rights = right (codes "mail"); bearer = false } ∷ []) (codes "c1") 1 false None) 200
    (Some (codes "{\"access_token\":[{\"access\":[\"mail\"]}],\"client\":\"c1\",\"expires_in\":1,\"subject\":false}"))
unfolding digits response_of token_data continue_data interact_data ask_data value_text encode_symbols escape_byte
shown = refl

handle : GoesOut (reply.Handle (value 2)) 200
    (Some (codes "{\"handle\":\"AAAAAAAAAAIAAAAAAAAAAAAAAAAAAAAA\"}"))
unfolding digits response_of token_data continue_data interact_data ask_data value_text encode_symbols escape_byte
handle = refl

decided_without_finish : GoesOut (reply.Decided None) 200
    (Some (codes "{\"finish\":\"none\"}"))
unfolding digits response_of token_data continue_data interact_data ask_data value_text encode_symbols escape_byte
decided_without_finish = refl

too_fast : GoesOut (reply.Error TooFast) 400
    (Some (codes "{\"error\":{\"code\":\"too_fast\"}}"))
unfolding digits response_of token_data continue_data interact_data ask_data value_text encode_symbols escape_byte
too_fast = refl

invalid_continuation : GoesOut (reply.Error InvalidContinuation) 401
    (Some (codes "{\"error\":{\"code\":\"invalid_continuation\"}}"))
unfolding digits response_of token_data continue_data interact_data ask_data value_text encode_symbols escape_byte
invalid_continuation = refl

lapsed : GoesOut (reply.Lapsed) 503
    None
unfolding digits response_of token_data continue_data interact_data ask_data value_text encode_symbols escape_byte
lapsed = refl

for_clients : compact_text (client_discovery (codes "https://as.example"))
    ≡ codes "{\"grant_request_endpoint\":\"https://as.example/gnap\",\"interaction_finish_methods_supported\":[\"redirect\",\"push\"],\"interaction_start_modes_supported\":[\"redirect\",\"user_code\",\"user_code_uri\"],\"key_proofs_supported\":[\"httpsig\"],\"key_rotation_supported\":true,\"sub_id_formats_supported\":[\"opaque\"]}"
unfolding client_discovery escape_byte
for_clients = refl

for_resource_servers : compact_text (server_discovery (codes "https://as.example"))
    ≡ codes "{\"grant_request_endpoint\":\"https://as.example/gnap\",\"introspection_endpoint\":\"https://as.example/introspect\",\"key_proofs_supported\":[\"httpsig\"],\"resource_registration_endpoint\":\"https://as.example/resource\"}"
unfolding server_discovery escape_byte
for_resource_servers = refl
