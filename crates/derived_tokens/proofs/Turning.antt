-- The turn of a message where tokens are derived, by what its calls did.
use Rattle.std.proofs.Common.{◌≡◌, ◌≢◌, ◌∙◌, ℕ, ◌+◌, ◌<◌, Bool, true, false, List, [], ◌∷◌, ◌++◌, length, length-append, ap, sym, subst, refl, arith, Option, Some, None}
use Rattle.std.specs.Prelude.{if◌then◌else◌, reverse, IsUtf8}
use Rattle.outside.specs.Outside.{Told}
use Rattle.outside.specs.Gears.{GearState, with_moment, with_draw}
use Rattle.bytes_and_lists.specs.declared.message.Message.{Message}
use Rattle.histories.specs.History.{entry_of, notes_of, now}
use Rattle.histories.specs.Steps.{NoneOf, Enters, EntersLapse}
use Rattle.histories.specs.Turns.{direct, called, lapsed, starved, unsaid}
use Rattle.histories.specs.Whole.{own_of}
use Rattle.histories.proofs.OwnEntries.{own-next}
use Rattle.http_edge.specs.Replies.{reply_bytes, busy_reply}
use Rattle.gnap_model.specs.Common.{Text}
use Rattle.gnap_model.specs.Judging.{suits}
use Rattle.gnap_model.specs.Keys.{key_of, server_names}
use Rattle.gnap_model.specs.Standing.{live_token}
use Rattle.gnap_model.specs.Begin.{show_token}
use Rattle.gnap_model.specs.Actions.{Supply, outcome_of}
use Rattle.gnap_model.specs.Actions.Action.{ShowToken, ShowInactive}
use Rattle.gnap_model.specs.Rights.{served_part}
use Rattle.gnap_model.specs.Answer.{supply_of}
use Rattle.gnap_model.specs.declared.notes.TokenNote.{TokenNote}
use Rattle.gnap_model.specs.declared.objects.ErrorCode.TheVariants.{RequestDenied}
use Rattle.gnap_model.specs.declared.objects.GrantRequest.{GrantRequest}
use Rattle.gnap_model.specs.declared.objects.Setup.{Setup}
use Rattle.gnap_model.specs.declared.calls.Call.{Call}
use Rattle.gnap_model.specs.declared.calls.Call.TheVariants.{Begin, Lapse}
use Rattle.gnap_model.specs.declared.calls.Reply.{Reply}
use Rattle.gnap_model.specs.declared.calls.Reply.TheVariants.{Inactive}
use Rattle.gnap_replies.specs.Responses.{response_of, error_response}
use Rattle.signed_calls.specs.declared.signed.Signed.{Signed}
use Rattle.signed_calls.specs.Marks.{plain_notes, unmarked_lapse}
use Rattle.grant_machine.specs.Gnap.{GnapEntry, GnapFits, SignedFits, gnap}
use Rattle.as_requests.specs.declared.desk_calls.DirectAnswer.{DirectAnswer}
use Rattle.as_requests.specs.declared.desk_calls.DirectAnswer.TheVariants.{Error}
use Rattle.as_requests.specs.declared.desk_calls.RequestStep.TheVariants.{Direct, Ask}
use Rattle.as_edge.specs.DirectReplies.{http_reply, direct_reply}
use Rattle.derivation_requests.specs.declared.derive_calls.DeriveStep.TheVariants.{Plain, Derive}
use Rattle.derivation_requests.specs.Pairs.{Pair}
use Rattle.derivation_requests.specs.Deriving.{derive_call, IsBegin}
use Rattle.serving.specs.Backends.{Entered}
use Rattle.serving.specs.Desks.{desk_backend}
use Rattle.serving.specs.MessageTurns.{HasWrittenText, TakesTurn}
use Rattle.serving.specs.declared.ends.AfterTurn.{AfterTurn}
use Rattle.serving.specs.declared.ends.AfterTurn.TheVariants.{MoreMayCome}
use Rattle.serving.proofs.MessageTurnLemmas.{follows_on, follows_none, entered-none, entered-reply, entered-lapse, turn-of}
use Rattle.derived_tokens.specs.Answering.{HasAnswered, said, HasReplied, replied, unreplied}
use Rattle.derived_tokens.specs.Answering as answered
use Rattle.derived_tokens.specs.DerivedTurns.{deriving_face, question, active_until, with_end, ending, AsksParent, GoesOnWith, IsDerivingTurn}
use Rattle.derived_tokens.specs.DerivedTurns as derived

-- ---- what the question about a parent is told

shown_inactive : (supply : Supply) (names : List Text) (found : Option TokenNote)
    → active_until (outcome_of supply (show_token names None None found)).reply ≡ None
    → (outcome_of supply (show_token names None None found)).reply ≡ Inactive
shown_inactive supply names None none = refl
shown_inactive supply names (Some token) none = by (suits names None None token.rights token.bearer) none
  where
    by : (b : Bool) → active_until (outcome_of supply (if b then ShowToken (served_part names token.rights) token else ShowInactive)).reply ≡ None
        → (outcome_of supply (if b then ShowToken (served_part names token.rights) token else ShowInactive)).reply ≡ Inactive
    by true none = absurd cc
    by false none = refl

told_inactive : (rules : Setup) (h : List GnapEntry) (moment : ℕ) (draw : List ℕ) (server parent : Text) (reply : Reply)
    → reply ≡ (gnap.answer rules h moment draw (question server parent)).reply → active_until reply ≡ None → reply ≡ Inactive
told_inactive rules h moment draw server parent reply is none =
    let trail = reverse (plain_notes (notes_of h)) in
    is ∙ shown_inactive (supply_of trail (now h moment) draw) (server_names (key_of rules server)) (live_token trail (now h moment) parent)
    (ap active_until (sym is) ∙ none)

-- ---- the calls may be made

pub question_fits : (asked : Signed) (server parent : Text) → asked ≡ question server parent → IsUtf8 server → SignedFits asked
question_fits asked server parent is fits = subst SignedFits (sym is) (record { call = (tt, (fits, tt)); mark = tt; lapse = λ same. absurd cc })

pub question_no_lapse : (asked : Signed) (server parent : Text) → asked ≡ question server parent → asked ≢ unmarked_lapse
question_no_lapse asked server parent is same = let call = ap (λ (s : Signed). s.call) (sym is ∙ same) in absurd cc

pub ending_fits : (asked : Signed) (end : ℕ) (begin : Signed) → asked ≡ ending end begin → IsBegin begin.call → SignedFits begin → SignedFits asked
ending_fits asked end begin is begins fits = subst SignedFits (sym is) (record {
  call = subst (λ (call : Call). GnapFits (with_end end call)) (sym begins.3) (subst GnapFits begins.3 fits.call);
  mark = fits.mark;
  lapse = λ same. let no = ap (with_end end) (sym begins.3) ∙ same in absurd cc;
})

pub ending_no_lapse : (asked : Signed) (end : ℕ) (begin : Signed) → asked ≡ ending end begin → IsBegin begin.call → asked ≢ unmarked_lapse
ending_no_lapse asked end begin is begins same =
    let no = ap (with_end end) (sym begins.3) ∙ ap (λ (s : Signed). s.call) (sym is ∙ same) in absurd cc

-- there is room for the second entry
pub room-again : (n n' : ℕ) → n' ≡ n → (h others : List GnapEntry) (e : GnapEntry) → NoneOf n others → e.number ≡ n → length (own_of n h) + 2 < 4503599627370496
    → length (own_of n' (h ++ others ++ e ∷ [])) < 4503599627370496
room-again n n' same h others e not_mine is room =
    let own = ap length (ap (λ m. own_of m (h ++ others ++ e ∷ [])) same ∙ own-next n h others e not_mine is) in
    let sum = length-append (own_of n h) (e ∷ []) in
    omega (arith, own, sum, room)

-- ---- turns

module _ {D Home : Type 0} (rules : D → Setup) (number : D → ℕ) (home : D → Home) (seen : D → List GnapEntry → Type 0) (pairs : List Pair) (setup : Setup)
    (last : Bool)
    (m : Message) (b : D) (h : List GnapEntry) (was : seen b h) (t : ℕ) (g g1 : GearState) (first : g1 ≡ with_moment t g) (conn conn' : Told) (f f' : ℕ)
    (after : AfterTurn) where
  none : Entered (desk_backend rules number home seen setup) b h [] t g g1 b h
  none = entered-none (desk_backend rules number home seen setup) b h t g g1 was first

  -- before anything was entered
  pub starved-turn : HasWrittenText (reply_bytes busy_reply) conn conn' f f' after → after ≢ MoreMayCome
      → TakesTurn (desk_backend rules number home seen setup) (IsDerivingTurn pairs setup) last m b h b g g1 conn conn' f f' after
  starved-turn written off =
      turn-of (desk_backend rules number home seen setup) (IsDerivingTurn pairs setup) last m b h b h t [] g g1 conn conn' f f' after (reply_bytes busy_reply)
      false none
      (omega arith) written (follows_none after off) (derived.plain _ (starved m t))

  pub direct-turn : (answer : DirectAnswer) → derive_call pairs setup m t ≡ Plain (Direct answer)
      → HasAnswered (reply_bytes (direct_reply setup last answer)) conn conn' f f' after
      → TakesTurn (desk_backend rules number home seen setup) (IsDerivingTurn pairs setup) last m b h b g g1 conn conn' f f' after
  direct-turn answer is (said written on) =
      turn-of (desk_backend rules number home seen setup) (IsDerivingTurn pairs setup) last m b h b h t [] g g1 conn conn' f f' after
      (reply_bytes (direct_reply setup last answer)) true none (omega arith) written (follows_on after on) (derived.plain _ (direct m t _ (answer, is, refl)))
  direct-turn answer is (answered.starved written off) = starved-turn written off

  -- a call was entered first
  module _ (c : D) (g2 : GearState) (same_rules : rules c ≡ rules b) (same_number : number c ≡ number b) (same_home : home c ≡ home b) (draw : List ℕ)
      (drew : g2 ≡ with_draw draw g1) where
    ask-lapsed : (call : Signed) → derive_call pairs setup m t ≡ Plain (Ask call) → EntersLapse gnap (rules b) (number b) h t draw (seen c)
        → HasWrittenText (reply_bytes busy_reply) conn conn' f f' after → after ≢ MoreMayCome
        → TakesTurn (desk_backend rules number home seen setup) (IsDerivingTurn pairs setup) last m b h c g g2 conn conn' f f' after
    ask-lapsed call is x written off =
        let e : GnapEntry = entry_of gnap (rules b) (h ++ x.others) (number b) t draw unmarked_lapse in
        turn-of (desk_backend rules number home seen setup) (IsDerivingTurn pairs setup) last m b h c (h ++ x.others ++ e ∷ []) t (e ∷ []) g g2 conn conn' f f'
        after
        (reply_bytes busy_reply) false (entered-lapse rules number home seen setup gnap b b c h [] h t g g1 g2 none same_rules same_number same_home draw drew
        x)
        (omega arith) written (follows_none after off) (derived.plain _ (lapsed m e call is refl))

    ask-answered : (call : Signed) (reply : Reply) → derive_call pairs setup m t ≡ Plain (Ask call)
        → (x : Enters gnap (rules b) (number b) h t draw call reply (seen c))
        → HasAnswered (reply_bytes (http_reply last (response_of setup reply))) conn conn' f f' after
        → TakesTurn (desk_backend rules number home seen setup) (IsDerivingTurn pairs setup) last m b h c g g2 conn conn' f f' after
    ask-answered call reply is x how = at how
      where
        e : GnapEntry
        e = entry_of gnap (rules b) (h ++ x.others) (number b) t draw call

        one : Entered (desk_backend rules number home seen setup) b h (e ∷ []) t g g2 c (h ++ x.others ++ e ∷ [])
        one = entered-reply rules number home seen setup gnap b b c h [] h t g g1 g2 none same_rules same_number same_home draw drew call reply x

        at : HasAnswered (reply_bytes (http_reply last (response_of setup reply))) conn conn' f f' after
            → TakesTurn (desk_backend rules number home seen setup) (IsDerivingTurn pairs setup) last m b h c g g2 conn conn' f f' after
        at (said written on) =
            turn-of (desk_backend rules number home seen setup) (IsDerivingTurn pairs setup) last m b h c (h ++ x.others ++ e ∷ []) t (e ∷ []) g g2 conn conn' f
            f' after
            (reply_bytes (http_reply last (response_of setup e.reply))) true one (omega arith)
            (subst (λ (r : Reply). HasWrittenText (reply_bytes (http_reply last (response_of setup r))) conn conn' f f' after) x.reply_is written)
            (follows_on after on) (derived.plain _ (called m e is))
        at (answered.starved written off) =
            turn-of (desk_backend rules number home seen setup) (IsDerivingTurn pairs setup) last m b h c (h ++ x.others ++ e ∷ []) t (e ∷ []) g g2 conn conn' f
            f' after
            (reply_bytes busy_reply) false one (omega arith) written (follows_none after off) (derived.plain _ (unsaid m e is))

    -- a token is to be derived
    module _ (parent server : Text) (begin : Signed) (step : derive_call pairs setup m t ≡ Derive parent server begin) where
      pub question-lapsed : EntersLapse gnap (rules b) (number b) h t draw (seen c)
          → HasWrittenText (reply_bytes busy_reply) conn conn' f f' after → after ≢ MoreMayCome
          → TakesTurn (desk_backend rules number home seen setup) (IsDerivingTurn pairs setup) last m b h c g g2 conn conn' f f' after
      question-lapsed x written off =
          let e : GnapEntry = entry_of gnap (rules b) (h ++ x.others) (number b) t draw unmarked_lapse in
          turn-of (desk_backend rules number home seen setup) (IsDerivingTurn pairs setup) last m b h c (h ++ x.others ++ e ∷ []) t (e ∷ []) g g2 conn conn' f
          f' after
          (reply_bytes busy_reply) false (entered-lapse rules number home seen setup gnap b b c h [] h t g g1 g2 none same_rules same_number same_home draw drew
          x)
          (omega arith) written (follows_none after off) (derived.lapsed m begin e parent server step refl)

      -- the parent was asked about
      module _ (asked : Signed) (asked_is : asked ≡ question server parent) (told : Reply) (x : Enters gnap (rules b) (number b) h t draw asked told (seen c))
        where
          abbrev pub e : GnapEntry
          e = entry_of gnap (rules b) (h ++ x.others) (number b) t draw asked

          -- what the desk has seen then
          abbrev pub then_seen : List GnapEntry
          then_seen = h ++ x.others ++ e ∷ []

          one : Entered (desk_backend rules number home seen setup) b h (e ∷ []) t g g2 c then_seen
          one = entered-reply rules number home seen setup gnap b b c h [] h t g g1 g2 none same_rules same_number same_home draw drew asked told x

          asks : AsksParent pairs setup m begin e
          asks = record { parent = parent; server = server; step = step; asked = asked_is }

          pub parent-inactive : active_until told ≡ None → HasAnswered (reply_bytes (http_reply last (error_response RequestDenied))) conn conn' f f' after
              → TakesTurn (desk_backend rules number home seen setup) (IsDerivingTurn pairs setup) last m b h c g g2 conn conn' f f' after
          parent-inactive gone how = at how
            where
              inactive : e.reply ≡ Inactive
              inactive = sym x.reply_is
                  ∙ told_inactive (rules b) (h ++ x.others) t draw server parent told
                  (x.reply_is ∙ ap (λ s. (gnap.answer (rules b) (h ++ x.others) t draw s).reply) asked_is) gone

              at : HasAnswered (reply_bytes (http_reply last (error_response RequestDenied))) conn conn' f f' after
                  → TakesTurn (desk_backend rules number home seen setup) (IsDerivingTurn pairs setup) last m b h c g g2 conn conn' f f' after
              at (said written on) =
                  turn-of (desk_backend rules number home seen setup) (IsDerivingTurn pairs setup) last m b h c then_seen t (e ∷ []) g g2 conn conn' f f' after
                  (reply_bytes (http_reply last (error_response RequestDenied))) true one (omega arith) written (follows_on after on)
                  (derived.refused m begin e asks inactive)
              at (answered.starved written off) =
                  turn-of (desk_backend rules number home seen setup) (IsDerivingTurn pairs setup) last m b h c then_seen t (e ∷ []) g g2 conn conn' f f' after
                  (reply_bytes busy_reply) false one (omega arith) written (follows_none after off) (derived.unsaid m begin e asks inactive)

          -- the grant was asked for
          module _ (end : ℕ) (live : active_until told ≡ Some end) (d : D) (g3 : GearState) (rules_again : rules d ≡ rules c) (number_again : number d ≡ number c)
              (home_again : home d ≡ home c) (draw' : List ℕ) (drew' : g3 ≡ with_draw draw' g2) where
            goes_on : (k : GnapEntry) → k.moment ≡ t → GoesOnWith pairs setup m begin e k end
            goes_on k same = record { parent = asks; live = ap active_until (sym x.reply_is) ∙ live; moment = same }

            begin-lapsed : EntersLapse gnap (rules c) (number c) then_seen t draw' (seen d)
                → HasWrittenText (reply_bytes busy_reply) conn conn' f f' after → after ≢ MoreMayCome
                → TakesTurn (desk_backend rules number home seen setup) (IsDerivingTurn pairs setup) last m b h d g g3 conn conn' f f' after
            begin-lapsed y written off =
                let k : GnapEntry = entry_of gnap (rules c) (then_seen ++ y.others) (number c) t draw' unmarked_lapse in
                turn-of (desk_backend rules number home seen setup) (IsDerivingTurn pairs setup) last m b h d (then_seen ++ y.others ++ k ∷ []) t (e ∷ k ∷ []) g
                g3 conn conn' f f' after
                (reply_bytes busy_reply) false
                (entered-lapse rules number home seen setup gnap b c d h (e ∷ []) then_seen t g g2 g3 one rules_again number_again home_again draw' drew' y)
                (omega arith) written (follows_none after off) (derived.begin_lapsed m begin e k end (goes_on k refl) refl)

            begin-answered : (begun : Signed) → begun ≡ ending end begin → (reply : Reply)
                → (y : Enters gnap (rules c) (number c) then_seen t draw' begun reply (seen d))
                → HasAnswered (reply_bytes (http_reply last (response_of setup reply))) conn conn' f f' after
                → TakesTurn (desk_backend rules number home seen setup) (IsDerivingTurn pairs setup) last m b h d g g3 conn conn' f f' after
            begin-answered begun begun_is reply y how = at how
              where
                k : GnapEntry
                k = entry_of gnap (rules c) (then_seen ++ y.others) (number c) t draw' begun

                both : Entered (desk_backend rules number home seen setup) b h (e ∷ k ∷ []) t g g3 d (then_seen ++ y.others ++ k ∷ [])
                both = entered-reply rules number home seen setup gnap b c d h (e ∷ []) then_seen t g g2 g3 one rules_again number_again home_again draw' drew'
                    begun reply y

                at : HasAnswered (reply_bytes (http_reply last (response_of setup reply))) conn conn' f f' after
                    → TakesTurn (desk_backend rules number home seen setup) (IsDerivingTurn pairs setup) last m b h d g g3 conn conn' f f' after
                at (said written on) =
                    turn-of (desk_backend rules number home seen setup) (IsDerivingTurn pairs setup) last m b h d (then_seen ++ y.others ++ k ∷ []) t (e ∷ k ∷ [])
                    g g3 conn conn' f f' after
                    (reply_bytes (http_reply last (response_of setup k.reply))) true both (omega arith)
                    (subst (λ (r : Reply). HasWrittenText (reply_bytes (http_reply last (response_of setup r))) conn conn' f f' after) y.reply_is written)
                    (follows_on after on) (derived.begun m begin e k end (goes_on k refl) begun_is)
                at (answered.starved written off) =
                    turn-of (desk_backend rules number home seen setup) (IsDerivingTurn pairs setup) last m b h d (then_seen ++ y.others ++ k ∷ []) t (e ∷ k ∷ [])
                    g g3 conn conn' f f' after
                    (reply_bytes busy_reply) false both (omega arith) written (follows_none after off)
                    (derived.begin_unsaid m begin e k end (goes_on k refl) begun_is)

          pub begin-turn : (end : ℕ) → active_until told ≡ Some end → (d : D) (g3 : GearState) → rules d ≡ rules c → number d ≡ number c → home d ≡ home c
              → (begun : Signed) → begun ≡ ending end begin
              → HasReplied setup last (rules c) (number c) then_seen t begun (seen d) g2 g3 conn conn' f f' after
              → TakesTurn (desk_backend rules number home seen setup) (IsDerivingTurn pairs setup) last m b h d g g3 conn conn' f f' after
          begin-turn end live d g3 rules_again number_again home_again begun is (replied draw' drew' reply y how) =
              begin-answered end live d g3 rules_again number_again home_again draw' drew' begun is reply y how
          begin-turn end live d g3 rules_again number_again home_again begun is (unreplied draw' drew' y written off) =
              begin-lapsed end live d g3 rules_again number_again home_again draw' drew' y written off

  pub ask-turn : (c : D) (g2 : GearState) → rules c ≡ rules b → number c ≡ number b → home c ≡ home b → (call : Signed)
      → derive_call pairs setup m t ≡ Plain (Ask call) → HasReplied setup last (rules b) (number b) h t call (seen c) g1 g2 conn conn' f f' after
      → TakesTurn (desk_backend rules number home seen setup) (IsDerivingTurn pairs setup) last m b h c g g2 conn conn' f f' after
  ask-turn c g2 same_rules same_number same_home call is (replied draw drew reply x how) =
      ask-answered c g2 same_rules same_number same_home draw drew call reply is x how
  ask-turn c g2 same_rules same_number same_home call is (unreplied draw drew x written off) =
      ask-lapsed c g2 same_rules same_number same_home draw drew call is x written off
