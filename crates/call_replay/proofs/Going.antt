-- A replay that goes on.
use Rattle.std.proofs.Common.{◌≡◌, ◌∙◌, ℕ, ◌+◌, ◌<◌, ◌≤◌, ◌^◌, List, [], ◌∷◌, ◌++◌, length, false, refl, ap, sym, arith, length-append}
use Rattle.outside.specs.Outside.{Told}
use Rattle.histories.specs.History.{places}
use Rattle.histories.specs.Turns.{entries_in}
use Rattle.serving.proofs.LogLemmas.{entries_few}
use Rattle.histories.proofs.OwnEntries.{places_own}
use Rattle.histories.proofs.TurnLemmas.{entries_in-next}
use Rattle.gnap_model.specs.declared.objects.Setup.{Setup}
use Rattle.grant_machine.specs.Gnap.{GnapEntry, gnap}
use Rattle.command_inputs.specs.declared.printed_text.After.{After}
use Rattle.command_inputs.specs.declared.ended.Ended.{Ended}
use Rattle.command_inputs.specs.LineRuns.{EachFrom, EndsAs}
use Rattle.call_replay.specs.Replays.{LineTurn, IsLineTurn, AreLineTurns, first_call_line, line_face}
use Rattle.call_replay.specs.Replaying.{AnswersLine, Turns, Goes, Replays}
use Rattle.command_inputs.proofs.LineRuns.{each_from-next, runs-weaker}

pub none-had : (setup : Setup) (worker : ℕ) (seen : List GnapEntry → Type 0) → seen [] → Turns setup worker seen []
none-had setup worker seen fresh = record { each = tt; history = []; seen_now = fresh; own = refl }

few_from : (setup : Setup) (number : ℕ) (turns : List LineTurn) → EachFrom number (IsLineTurn setup) turns → length (entries_in turns) ≤ length turns
few_from setup number [] each = omega arith
few_from setup number (turn ∷ turns) each =
    let one = entries_few gnap (line_face number) setup false turn each.0 in
    let rest = few_from setup (number + 1) turns each.1 in
    omega (arith, one, rest, length-append turn.entries (entries_in turns))

-- turns make as many entries as they are at most
pub all_few : (setup : Setup) (turns : List LineTurn) → AreLineTurns setup turns → length (entries_in turns) ≤ length turns
all_few setup turns each = few_from setup first_call_line turns each

-- there is room for more entries
pub room : (setup : Setup) (worker : ℕ) (seen : List GnapEntry → Type 0) (held held1 : List ℕ) (taken taken1 : ℕ) (s s1 o o1 : Told)
    → (goes : Goes setup worker seen held held1 taken taken1 s s1 o o1) → taken1 ≤ 1073741824 → length (places worker goes.had.history) < 2 ^ 52
room setup worker seen held held1 taken taken1 s s1 o o1 goes most =
    let size : length (places worker goes.had.history) ≡ length (entries_in goes.turns) = places_own 0 worker goes.had.history ∙ ap length goes.had.own in
    let few = all_few setup goes.turns goes.had.each in
    omega (arith, size, few, most, goes.few)

-- a line had its turn
pub had-next : (setup : Setup) (worker : ℕ) (seen seen2 : List GnapEntry → Type 0) (turns : List LineTurn) (full : List ℕ) (o1 o2 : Told) (result : After)
    → (had : Turns setup worker seen turns) → (answer : AnswersLine setup worker (first_call_line + length turns) full seen2 had.history o1 o2 result)
    → Turns setup worker seen2 (turns ++ answer.turn ∷ [])
had-next setup worker seen seen2 turns full o1 o2 result had answer = record {
  each = each_from-next (IsLineTurn setup) first_call_line turns answer.turn had.each answer.is_turn;
  history = answer.history;
  seen_now = answer.seen_now;
  own = answer.own ∙ ap (λ x. x ++ answer.turn.entries) had.own ∙ sym (entries_in-next turns answer.turn);
}

pub replays-weaker : (setup : Setup) (worker : ℕ) (seen more : List GnapEntry → Type 0) (held : List ℕ) (taken taken2 : ℕ) (s s2 o o2 : Told) (ended : Ended)
    → ((h : List GnapEntry) → seen h → more h) → Replays setup worker seen held taken taken2 s s2 o o2 ended
    → Replays setup worker more held taken taken2 s s2 o o2 ended
replays-weaker setup worker seen more held taken taken2 s s2 o o2 ended weaker r =
    runs-weaker (Turns setup worker seen) (Turns setup worker more) EndsAs EndsAs held taken taken2 s s2 o o2 ended ended
    (λ turns had. record { each = had.each; history = had.history; seen_now = weaker had.history had.seen_now; own = had.own })
    (λ turns whole later sent ends. ends) r
