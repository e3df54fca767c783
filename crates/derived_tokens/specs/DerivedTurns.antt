-- What a message's turn may be where tokens are derived (RFC 9767, section 4).
use Rattle.std.specs.Prelude.{◌≡◌, ℕ, Bool, true, false, List, [], ◌∷◌, Option, Some, None, Result, Ok, Err}
use Rattle.outside.specs.Gears.{GearState, with_draw}
use Rattle.bytes_and_lists.specs.declared.message.Message.{Message}
use Rattle.histories.specs.Steps.{Enters, EntersLapse}
use Rattle.histories.specs.Turns.{Face, Turn, IsTurn}
use Rattle.http_edge.specs.Replies.{reply_bytes, busy_reply}
use Rattle.gnap_model.specs.Common.{Text}
use Rattle.gnap_model.specs.declared.objects.ErrorCode.TheVariants.{RequestDenied}
use Rattle.gnap_model.specs.declared.objects.Setup.{Setup}
use Rattle.gnap_model.specs.declared.calls.Call.{Call}
use Rattle.gnap_model.specs.declared.calls.Call.TheVariants.{Begin, Introspect}
use Rattle.gnap_model.specs.declared.calls.Reply.{Reply}
use Rattle.gnap_model.specs.declared.calls.Reply.TheVariants.{Active, Inactive}
use Rattle.gnap_replies.specs.Responses.{response_of, error_response}
use Rattle.signed_calls.specs.declared.signed.Signed.{Signed}
use Rattle.signed_calls.specs.Marks.{unmarked_lapse}
use Rattle.grant_machine.specs.Gnap.{GnapEntry, gnap}
use Rattle.as_requests.specs.declared.desk_calls.DirectAnswer.{DirectAnswer}
use Rattle.as_requests.specs.declared.desk_calls.RequestStep.TheVariants.{Direct, Ask}
use Rattle.as_edge.specs.DirectReplies.{http_reply, direct_reply}
use Rattle.derivation_requests.specs.declared.derive_calls.DeriveStep.TheVariants.{Plain, Derive}
use Rattle.derivation_requests.specs.Pairs.{Pair}
use Rattle.derivation_requests.specs.Deriving.{derive_call}

-- ---- messages by which no token is to be derived

-- the request is answered without a call, by these bytes
abbrev pub IsAnsweredBy : List Pair → Setup → Bool → Message → ℕ → List ℕ → Type 0
IsAnsweredBy pairs setup last m moment bytes =
    (answer : DirectAnswer) × (derive_call pairs setup m moment ≡ Plain (Direct answer)) × (bytes ≡ reply_bytes (direct_reply setup last answer))

-- The words that are drawn don't change what a request asks. Where memory ran out it is answered by 503.
abbrev pub deriving_face : List Pair → Face Message Setup Signed Reply
deriving_face pairs = record {
  says = IsAnsweredBy pairs;
  asks = λ setup m moment draw call. derive_call pairs setup m moment ≡ Plain (Ask call);
  prints = λ setup last reply. reply_bytes (http_reply last (response_of setup reply));
  busy = reply_bytes busy_reply;
}

-- ---- messages by which one is

-- the question whether the parent is live, by the pair's server: without a mark, and whatever its binding and its rights are
abbrev pub question : Text → Text → Signed
question server parent = record { mark = None; call = Introspect server parent None None }

-- before which moment a token is told to be live
abbrev pub active_until : Reply → Option ℕ
active_until (Active access iat exp instance bearer) = Some exp
active_until _ = None

-- The question was entered behind a history that a desk had seen, with words that its gear drew, and this is before which moment the parent was told to be
-- live; or memory ran out.
abbrev pub WasTold : {E : Type 0} → Setup → ℕ → List GnapEntry → ℕ → Text → Text → (List GnapEntry → Type 0) → GearState → GearState → Result (Option ℕ) E
    → Type 0
WasTold rules number h moment server parent seen gear gear_now (Ok end) =
    (draw : List ℕ) × (gear_now ≡ with_draw draw gear)
    × (told : Reply) × (active_until told ≡ end) × Enters gnap rules number h moment draw (question server parent) told seen
WasTold rules number h moment server parent seen gear gear_now (Err e) =
    (draw : List ℕ) × (gear_now ≡ with_draw draw gear) × EntersLapse gnap rules number h moment draw seen

-- the grant request, whose grant ends at this moment at the latest
abbrev pub with_end : ℕ → Call → Call
with_end end (Begin key request not_after) = Begin key request (Some end)
with_end end call = call

abbrev pub ending : ℕ → Signed → Signed
ending end begin = record begin { call = with_end end begin.call }

module _ (pairs : List Pair) (setup : Setup) where
  -- The message is the request `begin` for a derived token, and the entry asks about the parent.
  pub record AsksParent (m : Message) (begin : Signed) (e : GnapEntry) : Type 0 where
    pub parent : Text
    pub server : Text
    pub step : derive_call pairs setup m e.moment ≡ Derive parent server begin
    pub asked : e.call ≡ question server parent

  -- The parent is live, and the second entry stands at the same moment.
  pub record GoesOnWith (m : Message) (begin : Signed) (e f : GnapEntry) (end : ℕ) : Type 0 where
    pub parent : AsksParent m begin e
    pub live : active_until e.reply ≡ Some end
    pub moment : f.moment ≡ e.moment

  -- A turn is one of these. The Bool says whether the connection closes after it.
  pub data IsDerivingTurn (last : Bool) : Turn Message GnapEntry → Type 0 where
    -- no token is to be derived
    plain : (t : Turn Message GnapEntry) → IsTurn gnap (deriving_face pairs) setup last t → IsDerivingTurn last t
    -- The parent isn't live: this is all that was entered.
    refused : (m : Message) (begin : Signed) (e : GnapEntry) → AsksParent m begin e → e.reply ≡ Inactive → IsDerivingTurn last
        (record { message = m; moment = e.moment; entries = e ∷ []; bytes = reply_bytes (http_reply last (error_response RequestDenied)); on = true })
    -- The parent is live: the grant is asked for, up to the parent's end, and the reply to that is said.
    begun : (m : Message) (begin : Signed) (e f : GnapEntry) (end : ℕ) → GoesOnWith m begin e f end → f.call ≡ ending end begin → IsDerivingTurn last
        (record { message = m; moment = e.moment; entries = e ∷ f ∷ []; bytes = reply_bytes (http_reply last (response_of setup f.reply)); on = true })
    -- Memory ran out: at the first entry, so that a lapse was entered; or before the refusal was said
    lapsed : (m : Message) (begin : Signed) (e : GnapEntry) (parent server : Text) → derive_call pairs setup m e.moment ≡ Derive parent server begin
        → e.call ≡ unmarked_lapse → IsDerivingTurn last
        (record { message = m; moment = e.moment; entries = e ∷ []; bytes = reply_bytes busy_reply; on = false })
    unsaid : (m : Message) (begin : Signed) (e : GnapEntry) → AsksParent m begin e → e.reply ≡ Inactive → IsDerivingTurn last
        (record { message = m; moment = e.moment; entries = e ∷ []; bytes = reply_bytes busy_reply; on = false })
    -- at the second entry, so that a lapse was entered; or before its reply was said
    begin_lapsed : (m : Message) (begin : Signed) (e f : GnapEntry) (end : ℕ) → GoesOnWith m begin e f end → f.call ≡ unmarked_lapse → IsDerivingTurn last
        (record { message = m; moment = e.moment; entries = e ∷ f ∷ []; bytes = reply_bytes busy_reply; on = false })
    begin_unsaid : (m : Message) (begin : Signed) (e f : GnapEntry) (end : ℕ) → GoesOnWith m begin e f end → f.call ≡ ending end begin → IsDerivingTurn last
        (record { message = m; moment = e.moment; entries = e ∷ f ∷ []; bytes = reply_bytes busy_reply; on = false })
