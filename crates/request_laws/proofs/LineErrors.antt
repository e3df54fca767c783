-- What is said to a line at once has its cause: each way on which a line asks nothing is gone through.
use Rattle.std.proofs.Common.{◌≡◌, ℕ, Bool, true, false, List, [], length, Option, Some, None, refl, sym, subst, ◌∙◌, inl, inr}
use Rattle.std.specs.Prelude.{codes, IsSome, ◌==◌, nat_lt, if◌then◌else◌}
use Rattle.std.specs.Str.{is_utf8}
use Rattle.std.proofs.lemmas.Bool.{eqb-true, ltb-true}
use Rattle.std.proofs.lemmas.List.{nil_from_length}
use Rattle.serde_json.specs.Data.{Data}
use Rattle.serde_json.specs.Find.{get}
use Rattle.serde_json.specs.Read.{read}
use Rattle.gnap_model.specs.Common.{Text}
use Rattle.gnap_model.specs.Keys.{key_of}
use Rattle.gnap_model.specs.declared.objects.ErrorCode.{ErrorCode}
use Rattle.gnap_model.specs.declared.objects.ErrorCode.TheVariants.{InvalidRequest, InvalidClient, InvalidFlag, InvalidResourceServer}
use Rattle.gnap_model.specs.declared.objects.Setup.{Setup}
use Rattle.signed_calls.specs.declared.signed.Mark.{Mark}
use Rattle.gnap_objects.specs.declared.call_reading.CallKind.{CallKind}
use Rattle.gnap_objects.specs.declared.call_reading.CallKind.TheVariants.{Begin, Continue, Modify, Cancel, Rotate, Revoke, Introspect, Look, FindCode, Decide}
use Rattle.gnap_objects.specs.declared.call_reading.CallOrRefusal.{CallOrRefusal}
use Rattle.gnap_objects.specs.declared.call_reading.CallOrRefusal.TheVariants.{Accepted, Refused}
use Rattle.gnap_objects.specs.CallReading.{Body, is_caller, stranger, caller_call, call_of}
use Rattle.call_replay.specs.declared.call_lines.LineStep.TheVariants.{Say}
use Rattle.call_replay.specs.CallLines.{
  moment_of,
  text_under,
  value_of,
  draw_of,
  has_body_form,
  nonce_in,
  created_in,
  mark_for,
  refused,
  line_body,
  kind_named,
  asked,
  call_step,
  form_step,
  object_step,
  read_step,
  text_step,
  line_limit,
  line_step,
}
use Rattle.call_replay.specs.ReplyLines.{error_line}
use Rattle.request_laws.specs.LineErrors.{IsCallLine, IsNoCallLine, IsRefusedWith, HasLineCause, IsSaidFor, LineErrorsHaveCauses}
use Rattle.request_laws.proofs.DirectErrors.{BodyCause, body_refused}

-- ---- a call that is refused

module _ (setup : Setup) where
  refused_with : (kind : CallKind) (key : Text) (body : Body) (found code : ErrorCode) → Refused found ≡ Refused code
      → IsRefusedWith setup kind key body found → IsRefusedWith setup kind key body code
  refused_with kind key body found code e cause = let same : found ≡ code = cc in subst (IsRefusedWith setup kind key body) same cause

  by_stranger : (kind : CallKind) (key : Text) (body : Body) (code : ErrorCode) → is_caller kind (key_of setup key) ≡ false → stranger kind ≡ Refused code
      → IsRefusedWith setup kind key body code
  by_stranger Begin key body code other e = refused_with Begin key body InvalidClient code e ((λ same. cc), inl other)
  by_stranger Continue key body code other e = refused_with Continue key body InvalidClient code e ((λ same. cc), inl other)
  by_stranger Modify key body code other e = refused_with Modify key body InvalidClient code e ((λ same. cc), inl other)
  by_stranger Cancel key body code other e = refused_with Cancel key body InvalidClient code e ((λ same. cc), inl other)
  by_stranger Rotate key body code other e = refused_with Rotate key body InvalidClient code e ((λ same. cc), inl other)
  by_stranger Revoke key body code other e = refused_with Revoke key body InvalidClient code e ((λ same. cc), inl other)
  by_stranger Introspect key body code other e = refused_with Introspect key body InvalidResourceServer code e (refl, inl other)
  by_stranger Look key body code other e = refused_with Look key body InvalidClient code e ((λ same. cc), inl other)
  by_stranger FindCode key body code other e = refused_with FindCode key body InvalidClient code e ((λ same. cc), inl other)
  by_stranger Decide key body code other e = refused_with Decide key body InvalidClient code e ((λ same. cc), inl other)

  by_body : (kind : CallKind) (key : Text) (body : Body) (code : ErrorCode) → is_caller kind (key_of setup key) ≡ true → BodyCause kind key body code
      → IsRefusedWith setup kind key body code
  by_body kind key body InvalidClient caller cause = (cause.0, inr (caller, cause.1))
  by_body kind key body InvalidResourceServer caller cause = (cause.0, inr (caller, cause.1))
  by_body kind key body InvalidFlag caller cause = (caller, cause)
  by_body kind key body InvalidRequest caller cause = (caller, cause)
  by_body kind key body _ caller cause = absurd cause

  call_refused : (kind : CallKind) (key value : Text) (body : Body) (code : ErrorCode) → call_of setup kind key value body ≡ Refused code
      → IsRefusedWith setup kind key body code
  unfolding call_of
  call_refused kind key value body code e = by (is_caller kind (key_of setup key)) refl e
    where
      by : (b : Bool) → is_caller kind (key_of setup key) ≡ b → (if b then caller_call kind key value body else stranger kind) ≡ Refused code
          → IsRefusedWith setup kind key body code
      by true caller e = by_body kind key body code caller (body_refused kind key value body code e)
      by false other e = by_stranger kind key body code other e

-- ---- the whole line

module _ (setup : Setup) (number : ℕ) (line text : List ℕ) where
  said : (code : ErrorCode) → refused code ≡ Say text → HasLineCause setup line code → IsSaidFor setup line text
  said code e cause = let same : text ≡ error_line code = cc in inr (inr (inr (code, same, cause)))

  no_line : refused InvalidRequest ≡ Say text → IsNoCallLine line → IsSaidFor setup line text
  no_line e none = said InvalidRequest e (inr (refl, none))

  module _ (d : Data) (utf8 : is_utf8 line ≡ true) (reads : read line ≡ Some d) where
    same_object : (name key : Text) (body : Body) (is : IsCallLine line name key body) → is.object ≡ d
    same_object name key body is = let both : Some is.object ≡ Some d = sym is.reads ∙ reads in cc

    lacks : {A : Type 0} (member : Data → Option A) → member d ≡ None
        → ((name key : Text) (body : Body) (is : IsCallLine line name key body) → IsSome (member is.object)) → IsNoCallLine line
    lacks member none has name key body is =
        let some : IsSome (member d) = subst (λ (x : Data). IsSome (member x)) (same_object name key body is) (has name key body is) in
        let bad : false ≡ true = subst IsSome none some in
        cc

    no_body_form : has_body_form d ≡ false → IsNoCallLine line
    no_body_form other name key body is =
        let formed : has_body_form d ≡ true = subst (λ (x : Data). has_body_form x ≡ true) (same_object name key body is) is.body_form in
        cc

    some_of : {A : Type 0} (o : Option A) (x : A) → o ≡ Some x → IsSome o
    some_of o x is = subst IsSome (sym is) refl

    called : (at : ℕ) (draw : List ℕ) (mark : Mark) (name key value : Text) → IsCallLine line name key (line_body (get (codes "body") d))
        → (kind : Option CallKind) → kind_named name ≡ kind
        → call_step setup at draw mark kind key value (line_body (get (codes "body") d)) ≡ Say text → IsSaidFor setup line text
    called at draw mark name key value is None kind_is e =
        let same : text ≡ codes "404\n" = cc in
        inr (inr (inl ((name, key, line_body (get (codes "body") d), is, kind_is), same)))
    called at draw mark name key value is (Some kind) kind_is e = by (call_of setup kind key value (line_body (get (codes "body") d))) refl e
      where
        by : (c : CallOrRefusal) → call_of setup kind key value (line_body (get (codes "body") d)) ≡ c → asked at draw (mark_for kind mark) c ≡ Say text
            → IsSaidFor setup line text
        by (Accepted call) made e = absurd cc
        by (Refused code) made e =
            said code e
            (inl (
              kind,
              key,
              line_body (get (codes "body") d),
              (name, is, kind_is),
              call_refused setup kind key value (line_body (get (codes "body") d)) code
                  made,
            ))

    formed : (moment : Option ℕ) (name key value draw : Option (List ℕ)) (body_form : Bool) (mark : Option (Option (List ℕ))) (created : Option (Option ℕ))
        → moment_of d ≡ moment → text_under (codes "call") d ≡ name → text_under (codes "key") d ≡ key → value_of d ≡ value → draw_of d ≡ draw
        → has_body_form d ≡ body_form → nonce_in d ≡ mark → created_in d ≡ created
        → form_step setup number d moment name key value draw body_form mark created ≡ Say text → IsSaidFor setup line text
    formed None name key value draw body_form mark created at_is name_is key_is value_is draw_is form_is nonce_is created_is e =
        no_line e (lacks moment_of at_is (λ name key body is. is.moment))
    formed (Some at) None key value draw body_form mark created at_is name_is key_is value_is draw_is form_is nonce_is created_is e =
        no_line e (lacks (text_under (codes "call")) name_is (λ name key body is. some_of (text_under (codes "call") is.object) name is.name_is))
    formed (Some at) (Some name) None value draw body_form mark created at_is name_is key_is value_is draw_is form_is nonce_is created_is e =
        no_line e (lacks (text_under (codes "key")) key_is (λ name key body is. some_of (text_under (codes "key") is.object) key is.key_is))
    formed (Some at) (Some name) (Some key) None draw body_form mark created at_is name_is key_is value_is draw_is form_is nonce_is created_is e =
        no_line e (lacks value_of value_is (λ name key body is. is.value))
    formed (Some at) (Some name) (Some key) (Some value) None body_form mark created at_is name_is key_is value_is draw_is form_is nonce_is created_is e =
        no_line e (lacks draw_of draw_is (λ name key body is. is.draw))
    formed (Some at) (Some name) (Some key) (Some value) (Some draw) false mark created at_is name_is key_is value_is draw_is form_is nonce_is created_is e =
        no_line e (no_body_form form_is)
    formed (Some at) (Some name) (Some key) (Some value) (Some draw) true None created at_is name_is key_is value_is draw_is form_is nonce_is created_is e =
        no_line e (lacks nonce_in nonce_is (λ name key body is. is.nonce))
    formed (Some at) (Some name) (Some key) (Some value) (Some draw) true (Some mark) None at_is name_is key_is value_is draw_is form_is nonce_is created_is e =
        no_line e (lacks created_in created_is (λ name key body is. is.created))
    formed (Some at) (Some name) (Some key) (Some value) (Some draw) true (Some mark) (Some created) at_is name_is key_is value_is draw_is form_is nonce_is
        created_is e =
        called at draw _ name key value
        (record {
          text = utf8;
          object = d;
          reads = reads;
          moment = some_of (moment_of d) at at_is;
          name_is = name_is;
          key_is = key_is;
          value = some_of (value_of d) value value_is;
          draw = some_of (draw_of d) draw draw_is;
          body_form = form_is;
          nonce = some_of (nonce_in d) mark nonce_is;
          created = some_of (created_in d) created created_is;
          body_is = refl;
        })
        (kind_named name) refl e

  by_object : is_utf8 line ≡ true → (o : Option Data) → read line ≡ o → read_step setup number o ≡ Say text → IsSaidFor setup line text
  unfolding object_step
  by_object utf8 None reads e = no_line e (λ name key body is. let both : Some is.object ≡ None = sym is.reads ∙ reads in cc)
  by_object utf8 (Some d) reads e =
      formed d utf8 reads (moment_of d) (text_under (codes "call") d) (text_under (codes "key") d) (value_of d) (draw_of d) (has_body_form d) (nonce_in d)
      (created_in d) refl refl refl refl refl refl refl refl e

  by_text : (b : Bool) → is_utf8 line ≡ b → (if b then read_step setup number (read line) else refused InvalidRequest) ≡ Say text → IsSaidFor setup line text
  by_text true utf8 e = by_object utf8 (read line) refl e
  by_text false other e = no_line e (λ name key body is. let utf8 : is_utf8 line ≡ true = is.text in cc)

  by_size : (long : Bool) → nat_lt line_limit (length line) ≡ long → (if long then Say (codes "413\n") else text_step setup number line) ≡ Say text
      → IsSaidFor setup line text
  by_size true long e = let same : text ≡ codes "413\n" = cc in inr (inl (ltb-true line_limit (length line) long, same))
  by_size false short e = by_text (is_utf8 line) refl e

  by_emptiness : (empty : Bool) → (length line == 0) ≡ empty
      → (if empty then Say [] else (if nat_lt line_limit (length line) then Say (codes "413\n") else text_step setup number line)) ≡ Say text
      → IsSaidFor setup line text
  by_emptiness true empty e = let same : text ≡ [] = cc in inl (nil_from_length line (eqb-true (length line) 0 empty), same)
  by_emptiness false some e = by_size (nat_lt line_limit (length line)) refl e

pub line_errors_have_causes : LineErrorsHaveCauses
unfolding line_step
line_errors_have_causes setup number line text e = by_emptiness setup number line text (length line == 0) refl e
