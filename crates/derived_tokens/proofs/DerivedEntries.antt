-- Of the entries of a number, a grant of a pair's client begins only behind a live parent.
use Rattle.std.proofs.Common.{◌≡◌, ◌≢◌, ◌∙◌, ◌⊎◌, inl, inr, ℕ, zero, suc, ◌+◌, ◌<◌, ◌≤◌, Bool, List, [], ◌∷◌, ◌++◌, length, refl, ap, sym, subst, arith, append_assoc, Option, Some, None}
use Rattle.std.specs.Prelude.{option_and_then}
use Rattle.std.proofs.lemmas.Bool.{cases_lt}
use Rattle.outside.specs.Outside.{Served}
use Rattle.outside.specs.Gears.{GearState}
use Rattle.bytes_and_lists.specs.declared.message.Message.{Message}
use Rattle.histories.specs.Turns.{Turn, IsTurn, direct, called, lapsed, starved, unsaid, entries_in}
use Rattle.histories.specs.Steps.{NoneOf}
use Rattle.histories.specs.Whole.{OneHistory, AllMeet, Below, own_of}
use Rattle.histories.proofs.OwnEntries.{own-none}
use Rattle.gnap_model.specs.Common.{Text}
use Rattle.gnap_model.specs.declared.objects.GrantRequest.{GrantRequest}
use Rattle.gnap_model.specs.declared.objects.Setup.{Setup}
use Rattle.gnap_model.specs.declared.calls.Call.{Call}
use Rattle.gnap_model.specs.declared.calls.Call.TheVariants.{Begin}
use Rattle.signed_calls.specs.declared.signed.Signed.{Signed}
use Rattle.signed_calls.specs.Marks.{unmarked_lapse}
use Rattle.grant_machine.specs.Gnap.{GnapEntry, gnap}
use Rattle.as_requests.specs.declared.desk_calls.RequestStep.{RequestStep}
use Rattle.as_requests.specs.declared.desk_calls.RequestStep.TheVariants.{Direct, Ask}
use Rattle.as_requests.specs.DeskCalls.{desk_call}
use Rattle.derivation_requests.specs.declared.derive_calls.DeriveStep.{DeriveStep}
use Rattle.derivation_requests.specs.declared.derive_calls.DeriveStep.TheVariants.{Plain, Derive}
use Rattle.derivation_requests.specs.Pairs.{Pair}
use Rattle.derivation_requests.specs.Deriving.{parent_of, server_of, beginner, by_parent, by_server, derive_step, derive_call}
use Rattle.http_serving.specs.EdgeWire.{edge_wire}
use Rattle.serving.specs.Connections.{AreTurns, is_closing}
use Rattle.serving.specs.Logs.{joined, Sessions}
use Rattle.serving.specs.Workers.{accounts_of}
use Rattle.derived_tokens.specs.DerivedTurns.{deriving_face, question, with_end, ending, AsksParent, GoesOnWith, IsDerivingTurn}
use Rattle.derived_tokens.specs.DerivedTurns as derived
use Rattle.derived_tokens.specs.DerivedSessions.{IsDerivingSession, ToldLive, IsDerived, AreDerivedAfter, AreDerived}

-- ---- what messages ask

-- a call that is asked as it is begins no grant of a pair's client
unpaired : (pairs : List Pair) (body : List ℕ) (call asked : Signed) (key server : Text) (found : Option Text) → by_server body call found ≡ Plain (Ask asked)
    → found ≡ option_and_then (server_of pairs) (beginner call.call) → beginner asked.call ≡ Some key → server_of pairs key ≡ Some server → ⊥
unpaired pairs body call asked key server None is found begins paired =
    let same : call ≡ asked = cc is in
    let none = found ∙ ap (λ (s : Signed). option_and_then (server_of pairs) (beginner s.call)) same ∙ ap (option_and_then (server_of pairs)) begins ∙ paired in
    absurd cc
unpaired pairs body call asked key server (Some asker) is found begins paired = by (parent_of body) is
  where
    by : (parent : Option Text) → by_parent call asker parent ≡ Plain (Ask asked) → ⊥
    by None is = absurd cc
    by (Some parent) is = absurd cc

asked_unpaired : (pairs : List Pair) (m : Message) (step : RequestStep) (asked : Signed) (key server : Text) → derive_step pairs m step ≡ Plain (Ask asked)
    → beginner asked.call ≡ Some key → server_of pairs key ≡ Some server → ⊥
asked_unpaired pairs m (Direct answer) asked key server is begins paired = absurd cc
asked_unpaired pairs m (Ask call) asked key server is begins paired = unpaired pairs m.body call asked key server _ is refl begins paired

plain_unpaired : (pairs : List Pair) (setup : Setup) (m : Message) (moment : ℕ) (asked : Signed) (key server : Text)
    → derive_call pairs setup m moment ≡ Plain (Ask asked)
    → beginner asked.call ≡ Some key → server_of pairs key ≡ Some server → ⊥
unfolding derive_call
plain_unpaired pairs setup m moment asked key server is begins paired = asked_unpaired pairs m (desk_call setup m moment) asked key server is begins paired

-- the server that asks for the parent is that of the client's pair
asked_by : (pairs : List Pair) (body : List ℕ) (call begin : Signed) (parent server : Text) (found : Option Text)
    → by_server body call found ≡ Derive parent server begin
    → (found ≡ Some server) × (call ≡ begin)
asked_by pairs body call begin parent server None is = absurd cc
asked_by pairs body call begin parent server (Some asker) is = by (parent_of body) is
  where
    by : (p : Option Text) → by_parent call asker p ≡ Derive parent server begin → (Some asker ≡ Some server) × (call ≡ begin)
    by None is = absurd cc
    by (Some p) is = (cc, cc)

step_paired : (pairs : List Pair) (m : Message) (step : RequestStep) (begin : Signed) (parent server : Text)
    → derive_step pairs m step ≡ Derive parent server begin
    → option_and_then (server_of pairs) (beginner begin.call) ≡ Some server
step_paired pairs m (Direct answer) begin parent server is = absurd cc
step_paired pairs m (Ask call) begin parent server is =
    let both = asked_by pairs m.body call begin parent server _ is in
    sym (ap (λ (s : Signed). option_and_then (server_of pairs) (beginner s.call)) both.1) ∙ both.0

derive_paired : (pairs : List Pair) (setup : Setup) (m : Message) (moment : ℕ) (begin : Signed) (parent server : Text)
    → derive_call pairs setup m moment ≡ Derive parent server begin
    → option_and_then (server_of pairs) (beginner begin.call) ≡ Some server
unfolding derive_call
derive_paired pairs setup m moment begin parent server is = step_paired pairs m (desk_call setup m moment) begin parent server is

-- ---- one entry

module _ (pairs : List Pair) where
  no_begin : (before : Option GnapEntry) (e : GnapEntry) → beginner e.call.call ≡ None → IsDerived pairs before e
  no_begin before e none key server request not_after is paired = let no = sym none ∙ ap beginner is in absurd cc

  question_derived : (before : Option GnapEntry) (e : GnapEntry) (server parent : Text) → e.call ≡ question server parent → IsDerived pairs before e
  question_derived before e server parent is = no_begin before e (ap (λ (s : Signed). beginner s.call) is)

  lapse_derived : (before : Option GnapEntry) (e : GnapEntry) → e.call ≡ unmarked_lapse → IsDerived pairs before e
  lapse_derived before e is = no_begin before e (ap (λ (s : Signed). beginner s.call) is)

  ended_by : (end : ℕ) (call : Call) (key : Text) (request : GrantRequest) (not_after : Option ℕ) → with_end end call ≡ Begin key request not_after
      → (beginner call ≡ Some key) × (not_after ≡ Some end)
  ended_by end (Begin k r n) key request not_after is = (cc, cc)
  ended_by end call key request not_after is = absurd cc

  module _ (setup : Setup) where
    asked_derived : (before : Option GnapEntry) (m : Message) (e : GnapEntry) → derive_call pairs setup m e.moment ≡ Plain (Ask e.call)
        → IsDerived pairs before e
    asked_derived before m e is key server request not_after begins paired =
        absurd (plain_unpaired pairs setup m e.moment e.call key server is (ap beginner begins) paired)

    begun_derived : (m : Message) (begin : Signed) (e f : GnapEntry) (end : ℕ) → GoesOnWith pairs setup m begin e f end → f.call ≡ ending end begin
        → IsDerived pairs (Some e) f
    begun_derived m begin e f end on is key server request not_after begins paired =
        let asks = on.parent in
        let both = ended_by end begin.call key request not_after (sym (ap (λ (s : Signed). s.call) is) ∙ begins) in
        let asker : Some server ≡ Some asks.server = sym paired ∙ sym (ap (option_and_then (server_of pairs)) both.0)
        ∙ derive_paired pairs setup m e.moment begin asks.parent asks.server asks.step in
        let same : asks.server ≡ server = cc asker in
        (e, end, refl, record { parent = asks.parent; asked = asks.asked ∙ ap (λ s. question s asks.parent) same; told = on.live }, both.1)

    -- ---- turns

    plain_derived : (last : Bool) (t : Turn Message GnapEntry) → IsTurn gnap (deriving_face pairs) setup last t → AreDerived pairs t.entries
    plain_derived last t (direct m moment bytes says) = tt
    plain_derived last t (called m e asks) = (asked_derived None m e asks, tt)
    plain_derived last t (starved m moment) = tt
    plain_derived last t (lapsed m e call asks is) = (lapse_derived None e is, tt)
    plain_derived last t (unsaid m e asks) = (asked_derived None m e asks, tt)

    turn_derived : (last : Bool) (t : Turn Message GnapEntry) → IsDerivingTurn pairs setup last t → AreDerived pairs t.entries
    turn_derived last t (derived.plain _ is) = plain_derived last t is
    turn_derived last t (derived.refused m begin e asks gone) = (question_derived None e asks.server asks.parent asks.asked, tt)
    turn_derived last t (derived.begun m begin e f end on is) =
        (question_derived None e on.parent.server on.parent.parent on.parent.asked, (begun_derived m begin e f end on is, tt))
    turn_derived last t (derived.lapsed m begin e parent server step is) = (lapse_derived None e is, tt)
    turn_derived last t (derived.unsaid m begin e asks gone) = (question_derived None e asks.server asks.parent asks.asked, tt)
    turn_derived last t (derived.begin_lapsed m begin e f end on is) =
        (question_derived None e on.parent.server on.parent.parent on.parent.asked, (lapse_derived (Some e) f is, tt))
    turn_derived last t (derived.begin_unsaid m begin e f end on is) =
        (question_derived None e on.parent.server on.parent.parent on.parent.asked, (begun_derived m begin e f end on is, tt))

  -- ---- entries behind entries

  -- what is derived with none before it is so behind any entry
  derived_behind : (before : Option GnapEntry) (e : GnapEntry) → IsDerived pairs None e → IsDerived pairs before e
  derived_behind before e is key server request not_after begins paired =
      let parent = is key server request not_after begins paired in
      let none = parent.2 in
      absurd cc

  behind : (before : Option GnapEntry) (es : List GnapEntry) → AreDerived pairs es → AreDerivedAfter pairs before es
  behind before [] are = tt
  behind before (e ∷ es) are = (derived_behind before e are.0, are.1)

  more : (before : Option GnapEntry) (es fs : List GnapEntry) → AreDerivedAfter pairs before es → AreDerived pairs fs → AreDerivedAfter pairs before (es ++ fs)
  more before [] fs first second = behind before fs second
  more before (e ∷ es) fs first second = (first.0, more (Some e) es fs first.1 second)

  module _ (setup : Setup) where
    turns_derived : (place : ℕ) (turns : List (Turn Message GnapEntry)) → AreTurns edge_wire (IsDerivingTurn pairs setup) place turns
        → AreDerived pairs (entries_in turns)
    turns_derived place [] each = tt
    turns_derived place (t ∷ ts) each =
        more None t.entries (entries_in ts) (turn_derived setup (is_closing edge_wire place t.message) t each.0) (turns_derived (suc place) ts each.1)

    entries-append : (ts us : List (Turn Message GnapEntry)) → entries_in (ts ++ us) ≡ entries_in ts ++ entries_in us
    entries-append [] us = refl
    entries-append (t ∷ ts) us = ap (λ es. t.entries ++ es) (entries-append ts us) ∙ sym (append_assoc t.entries (entries_in ts) (entries_in us))

    sessions_derived : (conns : List Served) (turns : List (List (Turn Message GnapEntry))) → Sessions (IsDerivingSession pairs setup) conns turns
        → AreDerived pairs (entries_in (joined turns))
    sessions_derived [] [] each = tt
    sessions_derived [] (ts ∷ more_turns) each = absurd each
    sessions_derived (conn ∷ conns) [] each = absurd each
    sessions_derived (conn ∷ conns) (ts ∷ more_turns) each =
        subst (AreDerived pairs) (sym (entries-append ts (joined more_turns)))
        (more None (entries_in ts) (entries_in (joined more_turns)) (turns_derived 0 ts each.0.1.each) (sessions_derived conns more_turns each.1))

    -- ---- numbers

    meeting_derived : (first : ℕ) (gears : List GearState) (h : List GnapEntry) → AllMeet first (accounts_of (IsDerivingSession pairs setup) gears) h
        → (k : ℕ) → k < length gears → AreDerived pairs (own_of (first + k) h)
    meeting_derived first [] h meet k few = absurd (omega (arith, few))
    meeting_derived first (gear ∷ gears) h meet zero few =
        let account = meet.0 in
        let at : first ≡ first + 0 = omega arith in
        subst (λ n. AreDerived pairs (own_of n h)) at
        (subst (AreDerived pairs) (sym account.own_is) (sessions_derived gear.log.served account.turns account.sessions))
    meeting_derived first (gear ∷ gears) h meet (suc k) few =
        let at : suc first + k ≡ first + suc k = omega arith in
        subst (λ n. AreDerived pairs (own_of n h)) at (meeting_derived (suc first) gears h meet.1 k (omega (arith, few)))

    none_above : (n k : ℕ) (h : List GnapEntry) → Below n h → n ≤ k → own_of k h ≡ []
    none_above n k h below above = own-none k h (all h below)
      where
        all : (es : List GnapEntry) → Below n es → NoneOf k es
        all [] below = tt
        all (e ∷ es) below = ((λ is. let low = below.0 in absurd (omega (arith, low, above, is))), all es below.1)

    as_many : (gears : List GearState) → length (accounts_of (IsDerivingSession pairs setup) gears) ≡ length gears
    as_many [] = refl
    as_many (gear ∷ gears) = ap suc (as_many gears)

    -- of the one history of gears
    pub history_derived : (gears : List GearState) (one : OneHistory gnap setup (accounts_of (IsDerivingSession pairs setup) gears)) (number : ℕ)
        → AreDerived pairs (own_of number one.history)
    history_derived gears one number = elim (cases_lt number (length gears)) [
      | inl few ↦ let at : 0 + number ≡ number = omega arith in
          subst (λ n. AreDerived pairs (own_of n one.history)) at (meeting_derived 0 gears one.history one.each number few)
      | inr many ↦ subst (AreDerived pairs)
          (sym (none_above (length gears) number one.history (subst (λ n. Below n one.history) (as_many gears) one.numbers) many)) tt
    ]
