-- Replies to some calls, by evaluation.
use Rattle.std.specs.Prelude.{ℕ, ◌≡◌, refl, ◌^◌, ◌-◌, Bool, true, false, List, [], ◌∷◌, ◌++◌, codes, drop}
use Rattle.std.specs.declared.option.Option.{Option}
use Rattle.std.specs.declared.option.Option.TheVariants.{None, Some}
use Rattle.base64.specs.Rfc4648.{encode_symbols}
use Rattle.gnap_model.specs.declared.rights.Right.{Right}
use Rattle.gnap_model.specs.Rights.{covers}
use Rattle.gnap_model.specs.declared.rights.Right.TheVariants.{Reference, Object}
use Rattle.gnap_model.specs.Values.{value_text, code_text}
use Rattle.gnap_model.specs.declared.objects.GrantRequest.{GrantRequest}
use Rattle.gnap_model.specs.declared.objects.Binding.TheVariants.{Httpsig, Bearer}
use Rattle.gnap_model.specs.declared.objects.Verdict.TheVariants.{Grant, Deny, Unknown}
use Rattle.gnap_model.specs.declared.calls.TokenOut.{TokenOut}
use Rattle.gnap_model.specs.declared.calls.Call.TheVariants.{Begin, Introspect, Lapse, Look, FindCode, Decide, Continue, Modify, Cancel, Rotate, Revoke}
use Rattle.gnap_model.specs.declared.objects.ErrorCode.TheVariants.{InvalidRequest, InvalidClient, InvalidInteraction, InvalidRotation, InvalidContinuation, UserDenied, RequestDenied, UnknownUser, UnknownInteraction, TooFast, TooManyAttempts, InvalidAccess}
use Rattle.gnap_model.specs.declared.calls.Reply.TheVariants.{Granted, Active, Inactive, Error, Lapsed, Pending, Continuing, Done, Rotated, Decided, Shown, Handle}
use Rattle.test_machine.proofs.ExampleHistories.{Line, line, words, at, replies, setup, for_photos, by_redirect, by_code, photos, mail, ask_for, c1, c2, r1, r2, f1, begin, introspect, continue, decide, token, v1, v2, v3, v4, v5, v6, v7, v8, v9, zeros_8, zeros_32}

pub granted_and_introspected : replies setup [] (begin 1000 for_photos ∷ introspect 1001 v1 ∷ [])
    ≡ Granted v3 (token photos v1 v2 ∷ []) true None None ∷ Active photos 1000 4600 c1 false ∷ []
unfolding value_text encode_symbols
granted_and_introspected = refl

pub expired_token : replies setup [] (begin 1000 for_photos ∷ introspect 4599 v1 ∷ introspect 4600 v1 ∷ introspect 4599 v1 ∷ [])
    ≡ Granted v3 (token photos v1 v2 ∷ []) true None None ∷ Active photos 1000 4600 c1 false ∷ Inactive ∷ Inactive ∷ []
unfolding value_text encode_symbols
expired_token = refl

pub unserved_right : replies setup [] (begin 1000 (ask_for (Reference (codes "secrets") ∷ []) None) ∷ []) ≡ Error RequestDenied ∷ []
unserved_right = refl

pub greatest_words : value_text 1 (2 ^ 64 - 1) (2 ^ 64 - 1) ≡ codes "AAAAAAAAAAH_____________________"
unfolding value_text encode_symbols
greatest_words = refl

abbrev pub object : List (List ℕ) → List (List ℕ) → Right
object actions locations = Object
    (record {
      kind = codes "t";
      actions = Some actions;
      locations = Some locations;
      datatypes = None;
      privileges = None;
      identifier = None;
      further = codes "{}";
    })

pub covered_by_two : covers (object (codes "read" ∷ codes "write" ∷ []) (codes "a" ∷ []) ∷ object (codes "read" ∷ []) (codes "b" ∷ []) ∷ [])
    (object (codes "read" ∷ []) (codes "a" ∷ codes "b" ∷ []) ∷ []) ≡ true
covered_by_two = refl

pub not_covered_crosswise : covers (object (codes "read" ∷ codes "write" ∷ []) (codes "a" ∷ []) ∷ object (codes "read" ∷ []) (codes "b" ∷ []) ∷ [])
    (object (codes "write" ∷ []) (codes "b" ∷ []) ∷ []) ≡ false
not_covered_crosswise = refl

pub absent_is_no_wildcard : covers (object (codes "read" ∷ codes "write" ∷ []) (codes "a" ∷ []) ∷ object (codes "read" ∷ []) (codes "b" ∷ []) ∷ [])
    (Object (record { kind = codes "t"; actions = None; locations = None; datatypes = None; privileges = None; identifier = None; further = codes "{}" }) ∷ [])
    ≡ false
absent_is_no_wildcard = refl

abbrev pub two : GrantRequest
two = record {
  asks = record { label = Some (codes "a"); rights = photos; bearer = false } ∷ record { label = Some (codes "b"); rights = photos; bearer = true } ∷ [];
  single = false;
  subject = false;
  client = Some c1;
  by_object = true;
  user = None;
  modes = None;
}

abbrev pub labelled : List ℕ → List ℕ → List ℕ → Bool → TokenOut
labelled label value manage bearer = record { value = value; manage = manage; label = Some label; rights = photos; expires_in = 3600; bearer = bearer }

pub two_labelled_tokens : replies setup []
    (begin 1000 two ∷ at 1001 (Introspect r1 v3 (Some Httpsig) None) ∷ at 1001 (Introspect r1 v3 (Some Bearer) None) ∷ [])
    ≡ Granted v5 (labelled (codes "a") v1 v2 false ∷ labelled (codes "b") v3 v4 true ∷ []) false None (Some c1) ∷ Inactive ∷ Active photos 1000 4600 c1 true
    ∷ []
unfolding value_text encode_symbols
two_labelled_tokens = refl

pub other_server : drop 1 (replies setup [] (begin 1000 for_photos ∷ at 1002 (Introspect r2 v1 None None) ∷ at 1002 (Introspect r2 v1 None (Some photos)) ∷ []))
    ≡ Inactive ∷ Error InvalidAccess ∷ []
unfolding value_text encode_symbols
other_server = refl

pub finished_interaction : replies setup []
    (begin 1000 (ask_for mail (Some by_redirect)) ∷ decide 1010 v2 Grant None ∷ continue 1011 v1 (Some v4) ∷ continue 1012 v1 None
    ∷ at 1012 (Continue c2 v7 None) ∷ [])
    ≡ Pending v1 by_redirect v2 zeros_8 v3 600 None
    ∷ Decided (Some (record {
      finish = record { push = false; uri = codes "https://client.example/cb"; nonce = codes "VJLO6A4CATR0KRO"; long = false };
      server_nonce = v3;
      reference = v4;
    }))
    ∷ Granted v7 (token mail v5 v6 ∷ []) true None None ∷ Error InvalidContinuation ∷ Error InvalidClient ∷ []
unfolding value_text encode_symbols
finished_interaction = refl

pub polls : replies setup [] (begin 1000 (ask_for mail (Some by_code)) ∷ continue 1004 v1 None ∷ continue 1005 v1 None ∷ continue 1005 v1 None ∷ [])
    ≡ Pending v1 by_code v2 (codes "BBBBBBBB") zeros_32 600 None ∷ Error TooFast ∷ Continuing v3 ∷ Error InvalidContinuation ∷ []
unfolding value_text encode_symbols code_text
polls = refl

pub interaction_runs_out : drop 1
    (replies setup [] (begin 1000 (ask_for mail (Some by_code)) ∷ at 1001 (FindCode f1 (codes "BBBBBBBB")) ∷ at 1599 (Look f1 v2) ∷ at 1600 (Look f1 v2)
    ∷ continue 1600 v1 None ∷ continue 1600 v1 None ∷ []))
    ≡ Handle v2 ∷ Shown (record { label = None; rights = mail; bearer = false } ∷ []) c1 1 false None ∷ Error UnknownInteraction ∷ Error InvalidInteraction
    ∷ Error InvalidContinuation ∷ []
unfolding value_text encode_symbols code_text
interaction_runs_out = refl

pub round_is_over : drop 1 (replies setup [] (begin 1000 (ask_for mail (Some by_code)) ∷ continue 2200 v1 None ∷ [])) ≡ Error InvalidContinuation ∷ []
unfolding value_text encode_symbols code_text
round_is_over = refl

abbrev pub last : ℕ → Line
last moment = line moment (words [] 25599999999) (Begin c1 (ask_for mail (Some by_code)) None)

pub taken_code : replies setup [] (last 1000 ∷ last 1000 ∷ [])
    ≡ Pending v1 by_code v2 (codes "ZZZZZZZZ") zeros_32 600 None ∷ Pending v3 by_code v4 (codes "BBBBBBBB") zeros_32 600 None ∷ []
unfolding value_text encode_symbols code_text
taken_code = refl

pub decided_code_is_free : drop 1 (replies setup [] (last 1000 ∷ decide 1000 v2 Grant None ∷ last 1000 ∷ at 1000 (FindCode f1 (codes "ZZZZZZZZ")) ∷ []))
    ≡ Decided None ∷ Pending v3 by_code v4 (codes "ZZZZZZZZ") zeros_32 600 None ∷ Handle v4 ∷ []
unfolding value_text encode_symbols code_text
decided_code_is_free = refl

abbrev pub x : Option (List ℕ)
x = Some (codes "x")

pub wrong_references : drop 2 (replies setup []
    (begin 1000 (ask_for mail (Some by_redirect)) ∷ decide 1010 v2 Grant None ∷ continue 1011 v1 None ∷ continue 1011 v1 x ∷ continue 1011 v1 x
    ∷ continue 1011 v1 x ∷ continue 1011 v1 x ∷ continue 1011 v1 x ∷ continue 1012 v1 (Some v4) ∷ []))
    ≡ Error InvalidRequest ∷ Error InvalidInteraction ∷ Error InvalidInteraction ∷ Error InvalidInteraction ∷ Error InvalidInteraction ∷ Error TooManyAttempts
    ∷ Error InvalidContinuation ∷ []
unfolding value_text encode_symbols
wrong_references = refl

pub reference_when_approved : drop 1 (replies setup [] (begin 1000 for_photos ∷ continue 1001 v3 x ∷ introspect 1001 v1 ∷ [])) ≡ Error TooManyAttempts
    ∷ Inactive ∷ []
unfolding value_text encode_symbols
reference_when_approved = refl

pub rotated_and_revoked : drop 1
    (replies setup [] (begin 1000 for_photos ∷ at 1002 (Rotate c1 v2 None) ∷ introspect 1002 v1 ∷ introspect 1002 v4 ∷ at 1002 (Rotate c1 v2 None)
    ∷ at 1002 (Rotate c1 v5 (Some r1)) ∷ at 1002 (Revoke c1 v5) ∷ at 1002 (Revoke c1 v5) ∷ introspect 1002 v4 ∷ at 1002 (Revoke c1 v2) ∷ []))
    ≡ Rotated (token photos v4 v5) ∷ Inactive ∷ Active photos 1002 4602 c1 false ∷ Error InvalidRotation ∷ Error InvalidRotation ∷ Done ∷ Done ∷ Inactive
    ∷ Error InvalidRequest ∷ []
unfolding value_text encode_symbols
rotated_and_revoked = refl

pub rotated_to_a_key : drop 1 (replies setup []
    (begin 1000 for_photos ∷ at 1002 (Rotate c1 v2 (Some c2)) ∷ introspect 1003 v4 ∷ at 1003 (Rotate c1 v5 None) ∷ at 1003 (Rotate c2 v5 None)
    ∷ introspect 1003 v6 ∷ at 1003 (Revoke c1 v7) ∷ at 1003 (Revoke c2 v7) ∷ []))
    ≡ Rotated (token photos v4 v5) ∷ Active photos 1002 4602 c2 false ∷ Error InvalidClient ∷ Rotated (token photos v6 v7) ∷ Active photos 1003 4603 c2 false
    ∷ Error InvalidClient ∷ Done ∷ []
unfolding value_text encode_symbols
rotated_to_a_key = refl

pub modified_and_cancelled : drop 1
    (replies setup [] (begin 1000 for_photos ∷ at 1001 (Modify c1 v3 for_photos) ∷ introspect 1001 v1 ∷ at 1001 (Modify c1 v6 (ask_for mail None))
    ∷ at 1001 (Modify c1 v6 for_photos) ∷ at 1001 (Cancel c1 v9) ∷ introspect 1001 v7 ∷ at 1001 (Revoke c1 v8) ∷ []))
    ≡ Granted v6 (token photos v4 v5 ∷ []) true None None ∷ Inactive ∷ Error RequestDenied ∷ Granted v9 (token photos v7 v8 ∷ []) true None None ∷ Done
    ∷ Inactive ∷ Error InvalidRequest ∷ []
unfolding value_text encode_symbols
modified_and_cancelled = refl

pub part_is_granted : drop 1 (replies setup []
    (begin 1000 (ask_for (mail ++ photos) (Some by_code)) ∷ decide 1002 v2 Grant (Some mail) ∷ continue 1005 v1 None ∷ []))
    ≡ Decided None ∷ Granted v5 (token mail v3 v4 ∷ []) true None None ∷ []
unfolding value_text encode_symbols code_text
part_is_granted = refl

pub more_than_was_asked : drop 1
    (replies setup [] (begin 1000 (ask_for (mail ++ photos) (Some by_code)) ∷ decide 1002 v2 Grant (Some (mail ++ Reference (codes "files") ∷ []))
    ∷ continue 1005 v1 None ∷ []))
    ≡ Error InvalidRequest ∷ Continuing v3 ∷ []
unfolding value_text encode_symbols code_text
more_than_was_asked = refl

pub user_denies : drop 1 (replies setup []
    (begin 1000 (ask_for mail (Some by_code)) ∷ decide 1002 v2 Deny None ∷ continue 1005 v1 None ∷ continue 1005 v1 None ∷ []))
    ≡ Decided None ∷ Error UserDenied ∷ Error InvalidContinuation ∷ []
unfolding value_text encode_symbols code_text
user_denies = refl

pub user_is_unknown : drop 1 (replies setup [] (begin 1000 (ask_for mail (Some by_code)) ∷ decide 1002 v2 Unknown None ∷ continue 1005 v1 None ∷ []))
    ≡ Decided None ∷ Error UnknownUser ∷ []
unfolding value_text encode_symbols code_text
user_is_unknown = refl

pub unknown_client : replies setup [] (at 1000 (Begin (codes "c9") for_photos None) ∷ []) ≡ Error RequestDenied ∷ []
unknown_client = refl

pub another_key : drop 1 (replies setup []
    (begin 1000 for_photos ∷ at 1001 (Modify c2 v3 for_photos) ∷ at 1001 (Cancel c2 v3) ∷ at 1001 (Rotate c2 v2 None) ∷ at 1001 (Revoke c2 v2) ∷ []))
    ≡ Error InvalidClient ∷ Error InvalidClient ∷ Error InvalidClient ∷ Error InvalidClient ∷ []
unfolding value_text encode_symbols
another_key = refl

pub lapse_moves_time : drop 1 (replies setup [] (begin 1000 for_photos ∷ introspect 4599 v1 ∷ at 4600 Lapse ∷ introspect 4599 v1 ∷ []))
    ≡ Active photos 1000 4600 c1 false ∷ Lapsed ∷ Inactive ∷ []
unfolding value_text encode_symbols
lapse_moves_time = refl

pub named_end : replies setup []
    (at 1000 (Begin c1 for_photos (Some 1000)) ∷ at 1000 (Begin c1 (ask_for mail (Some by_code)) (Some 1300)) ∷ at 1001 (Look f1 v2) ∷ continue 1300 v1 None
    ∷ [])
    ≡ Error RequestDenied ∷ Pending v1 by_code v2 (codes "BBBBBBBB") zeros_32 300 None
    ∷ Shown (record { label = None; rights = mail; bearer = false } ∷ []) c1 299 false None ∷ Error InvalidContinuation ∷ []
unfolding value_text encode_symbols code_text
named_end = refl

-- rights that come at once, together with an identifier of the user
abbrev pub for_subject : GrantRequest
for_subject = record {
  asks = record { label = None; rights = photos; bearer = false } ∷ [];
  single = true;
  subject = true;
  client = Some c1;
  by_object = true;
  user = None;
  modes = Some by_code;
}

pub subject_needs_the_user : replies setup []
    (begin 1000 for_subject ∷ at 1002 (Decide f1 (record { handle = v2; verdict = Grant; rights = None; subject = Some (codes "u1") })) ∷ continue 1005 v1 None
    ∷ [])
    ≡ Pending v1 by_code v2 (codes "BBBBBBBB") zeros_32 600 (Some c1) ∷ Decided None ∷ Granted v5 (token photos v3 v4 ∷ []) true (Some (codes "u1")) None ∷ []
unfolding value_text encode_symbols code_text
subject_needs_the_user = refl
