-- Tables that are swept, answer by the rows and take the notes stand for the history with the call's entry.
use Rattle.std.proofs.Common.{ℕ, ◌≡◌, ◌≤◌, ◌+◌, max, List, [], ◌∷◌, ◌++◌, length, reverse, refl, sym, ◌∙◌, ap, subst, arith, append-nil, length-append}
use Rattle.std.specs.List.{count_by, flat_map}
use Rattle.std.proofs.lemmas.List.{length-reverse, reverse-append}
use Rattle.histories.specs.History.{Legal, Renumbered, entry_of, notes_of, now as latest_of, last_moment}
use Rattle.histories.specs.Histories.{legal-nil, legal-append, legal-weaker, legal-renumbered, now-append, now-max, now-renumbered, notes-append, notes-renumbered}
use Rattle.histories.specs.Steps.{Answers, Lapses}
use Rattle.gnap_model.specs.declared.objects.Setup.{Setup}
use Rattle.gnap_model.specs.declared.calls.Call.{Call}
use Rattle.gnap_model.specs.declared.calls.Call.TheVariants.{Lapse}
use Rattle.gnap_model.specs.declared.calls.Reply.{Reply}
use Rattle.gnap_model.specs.declared.notes.Note.{Note}
use Rattle.gnap_model.specs.Common.{Text}
use Rattle.gnap_model.specs.Notes.{Event, first_serial, note_values, trail_values}
use Rattle.gnap_model.specs.Standing.{next_grant, is_opening}
use Rattle.gnap_model.specs.Actions.{Supply, Outcome, outcome_of}
use Rattle.gnap_model.specs.Answer.{gnap_answer, action_of, supply_of}
use Rattle.gnap_model.specs.Legal.{HasFewAsks}
use Rattle.gnap_laws.proofs.NewestFirst.{legal_past, trail-back}
use Rattle.gnap_laws.proofs.NoteCounts.{count-append, count-reverse}
use Rattle.gnap_laws.proofs.Serials.{trail-onto}
use Rattle.gnap_tables.specs.Tables.{Tables, tables_of, after_notes}
use Rattle.table_laws.specs.AddableNotes.{CanAllFollow}
use Rattle.gnap_tables.specs.ActionsByRows.{row_action, row_supply}
use Rattle.gnap_tables.specs.StandsFor.{Kept, kept_of, machine_of, StandsByRows, at_moment, row_answer, with_notes}
use Rattle.table_laws.proofs.TablesAfter.{tables_after}
use Rattle.table_laws.proofs.SweptTables.{tables_swept}
use Rattle.table_laws.proofs.RoundBridges.{codes_are}
use Rattle.table_laws.proofs.ActionsAgree.{IsWhole, action_is}
use Rattle.table_laws.proofs.WholePast.{past_whole}
use Rattle.table_laws.proofs.Known.{AreKnown, past_known}
use Rattle.table_laws.proofs.MoreCauses.{more_cause}
use Rattle.table_laws.proofs.NotesOfAnswers.{action_follows}
use Rattle.gnap_laws.proofs.Causes.{cause_of}
use Rattle.gnap_laws.proofs.Sound.{IsSound, past_sound}

-- what holds of the notes of a legal history
pub record AreLegalNotes (trail : List Note) : Type 0 where
  pub whole : IsWhole trail
  pub sound : IsSound trail
  pub known : AreKnown (next_grant trail) trail

-- calls that fit have few asks
abbrev pub FitFew : (Call → Type 0) → Type 0
FitFew fits = (call : Call) → fits call → HasFewAsks call

pub legal_notes : (fits : Call → Type 0) (rules : Setup) (h : List Event) → FitFew fits → Legal (machine_of fits) rules h → AreLegalNotes (reverse (notes_of h))
legal_notes fits rules h few legal =
    let past = legal_past rules h (legal-weaker gnap_answer fits HasFewAsks Lapse rules h few legal) in
    subst AreLegalNotes (trail-back h)
    (record { whole = past_whole rules (reverse h) past; sound = past_sound rules (reverse h) past; known = past_known rules (reverse h) past })

-- Time: what is kept of the notes at a later moment is swept.
pub kept_swept : (notes : List Note) (latest now : ℕ) → IsWhole (reverse notes) → latest ≤ now → kept_of notes now ≡ at_moment now (kept_of notes latest)
kept_swept notes latest now whole le =
    ap (λ (t : Tables). record { tables = t; next = next_grant (reverse notes); first = first_serial (reverse notes); latest = now })
    (tables_swept (reverse notes) latest now whole.once whole.grants le)

-- The answer from what is kept is the answer from the notes.
pub row_answer_is : (rules : Setup) (notes : List Note) (now : ℕ) (draw : List ℕ) (call : Call) → IsWhole (reverse notes)
    → row_answer rules (kept_of notes now) draw call ≡ gnap_answer rules notes now draw call
row_answer_is rules notes now draw call whole =
    let trail = reverse notes in
    let supply : row_supply (first_serial trail) (tables_of trail now) now draw ≡ supply_of trail now draw =
    ap (λ codes. record { now = now; first = first_serial trail; words = draw; taken = codes }) (codes_are trail now) in
    ap (λ (s : Supply). outcome_of s (row_action rules (next_grant trail) (tables_of trail now) now call)) supply
    ∙ ap (outcome_of (supply_of trail now draw)) (action_is rules trail (supply_of trail now draw) call whole)

-- What is kept after the notes of an answer.
pub kept_noted : (rules : Setup) (notes : List Note) (now : ℕ) (draw : List ℕ) (call : Call) → AreLegalNotes (reverse notes)
    → kept_of (notes ++ (gnap_answer rules notes now draw call).notes) now ≡ with_notes (gnap_answer rules notes now draw call).notes (kept_of notes now)
kept_noted rules notes now draw call legal =
    let trail = reverse notes in
    let supply = supply_of trail now draw in
    let more = (gnap_answer rules notes now draw call).notes in
    let turned : reverse (notes ++ more) ≡ reverse more ++ trail = reverse-append notes more in
    let can : CanAllFollow now trail more =
    action_follows supply trail call (action_of rules supply trail call) legal.sound legal.known refl (cause_of rules supply trail call)
    (more_cause rules supply trail call) in
    let tables : tables_of (reverse (notes ++ more)) now ≡ after_notes more (tables_of trail now) = ap (λ ns. tables_of ns now) turned
    ∙ tables_after more trail now can in
    let opened = count-append is_opening (reverse more) trail in
    let opened_more = count-reverse is_opening more in
    let next : next_grant (reverse (notes ++ more)) ≡ next_grant trail + count_by is_opening more =
    ap next_grant turned ∙ (let k : next_grant (reverse more ++ trail) ≡ next_grant trail + count_by is_opening more = omega arith in k) in
    let drawn = ap (length {A = Text}) (trail-onto more trail) in
    let parts = length-append (reverse (flat_map note_values more)) (trail_values trail) in
    let drawn_more = length-reverse (flat_map note_values more) in
    let first : first_serial (reverse (notes ++ more)) ≡ first_serial trail + length (flat_map note_values more) =
    ap first_serial turned ∙ (let k : first_serial (reverse more ++ trail) ≡ first_serial trail + length (flat_map note_values more) = omega arith in k) in
    ap (λ (t : Tables). record { tables = t; next = next_grant (reverse (notes ++ more)); first = first_serial (reverse (notes ++ more)); latest = now }) tables
    ∙ ap (λ n. record { tables = after_notes more (tables_of trail now); next = n; first = first_serial (reverse (notes ++ more)); latest = now }) next
    ∙ ap (λ n. record { tables = after_notes more (tables_of trail now); next = next_grant trail + count_by is_opening more; first = n; latest = now }) first

-- Nothing is kept of the empty history.
pub stands-nothing : (fits : Call → Type 0) (rules : Setup)
    → StandsByRows fits rules (record { tables = record { grants = []; tokens = [] }; next = 1; first = 1; latest = 0 }) []
stands-nothing fits rules = record { is_legal = legal-nil (machine_of fits) rules; kept_is = refl }

-- What was kept, swept.
pub swept_is : (fits : Call → Type 0) (rules : Setup) (kept : Kept) (h : List Event) (moment : ℕ) → FitFew fits → StandsByRows fits rules kept h
    → at_moment (max kept.latest moment) kept ≡ kept_of (notes_of h) (max (latest_of h 0) moment)
swept_is fits rules kept h moment few stands =
    let legal = legal_notes fits rules h few stands.is_legal in
    let at : max kept.latest moment ≡ max (latest_of h 0) moment = ap (λ (k : Kept). max k.latest moment) stands.kept_is in
    ap (λ n. at_moment n kept) at ∙ ap (at_moment (max (latest_of h 0) moment)) stands.kept_is
    ∙ sym (kept_swept (notes_of h) (latest_of h 0) (max (latest_of h 0) moment) legal.whole (omega arith))

stands-next : (fits : Call → Type 0) (rules : Setup) (h : List Event) (k moment : ℕ) (draw : List ℕ) (call : Call) → FitFew fits
    → Legal (machine_of fits) rules h → fits call → moment ≤ last_moment
    → StandsByRows fits rules (with_notes (gnap_answer rules (notes_of h) (max (latest_of h 0) moment) draw call).notes
    (kept_of (notes_of h) (max (latest_of h 0) moment))) (h ++ entry_of (machine_of fits) rules h k moment draw call ∷ [])
stands-next fits rules h k moment draw call few legal fit time =
    let e : Event = entry_of (machine_of fits) rules h k moment draw call in
    let at : latest_of h moment ≡ max (latest_of h 0) moment = now-max h moment in
    let added : e.notes ≡ (gnap_answer rules (notes_of h) (max (latest_of h 0) moment) draw call).notes = ap
    (λ n. (gnap_answer rules (notes_of h) n draw call).notes) at in
    let last : latest_of (h ++ e ∷ []) 0 ≡ max (latest_of h 0) moment =
    (let a = now-append h e 0 in let b = now-max h (max moment 0) in grind (arith, a, b)) in
    let all : notes_of (h ++ e ∷ []) ≡ notes_of h ++ (gnap_answer rules (notes_of h) (max (latest_of h 0) moment) draw call).notes =
    notes-append h (e ∷ []) ∙ ap (λ x. notes_of h ++ x) (append-nil e.notes ∙ added) in
    record {
      is_legal = legal-append (machine_of fits) rules h e legal (record { fits = fit; in_time = time; reply = refl; notes = refl });
      kept_is = sym (ap (λ ns. kept_of ns (latest_of (h ++ e ∷ []) 0)) all
          ∙ ap (kept_of (notes_of h ++ (gnap_answer rules (notes_of h) (max (latest_of h 0) moment) draw call).notes)) last
          ∙ kept_noted rules (notes_of h) (max (latest_of h 0) moment) draw call (legal_notes fits rules h few legal));
    }

-- So a step that sweeps, answers by the rows, and adds the notes to the rows, answers by the machine.
pub answers-by_rows : (fits : Call → Type 0) (rules : Setup) (kept after : Kept) (h : List Event) (moment : ℕ) (draw : List ℕ) (call : Call) (reply : Reply)
    → FitFew fits → StandsByRows fits rules kept h → fits call → moment ≤ last_moment
    → reply ≡ (row_answer rules (at_moment (max kept.latest moment) kept) draw call).reply
    → after ≡ with_notes (row_answer rules (at_moment (max kept.latest moment) kept) draw call).notes (at_moment (max kept.latest moment) kept)
    → Answers (machine_of fits) rules h moment draw call reply (StandsByRows fits rules after)
answers-by_rows fits rules kept after h moment draw call reply few stands fit time told changed =
    let now = max (latest_of h 0) moment in
    let legal = legal_notes fits rules h few stands.is_legal in
    let at : latest_of h moment ≡ now = now-max h moment in
    let swept_same : at_moment (max kept.latest moment) kept ≡ kept_of (notes_of h) now = swept_is fits rules kept h moment few stands in
    let same : row_answer rules (at_moment (max kept.latest moment) kept) draw call ≡ gnap_answer rules (notes_of h) now draw call =
    ap (λ (k : Kept). row_answer rules k draw call) swept_same ∙ row_answer_is rules (notes_of h) now draw call legal.whole in
    record {
      reply_is = told ∙ ap (λ (o : Outcome). o.reply) same ∙ sym (ap (λ n. (gnap_answer rules (notes_of h) n draw call).reply) at);
      stands_now = λ k.
          let next = stands-next fits rules h k moment draw call few stands.is_legal fit time in
          let is : after ≡ with_notes (gnap_answer rules (notes_of h) now draw call).notes (kept_of (notes_of h) now) =
          changed ∙ ap (λ (o : Outcome). with_notes o.notes (at_moment (max kept.latest moment) kept)) same
          ∙ ap (with_notes (gnap_answer rules (notes_of h) now draw call).notes) swept_same in
          subst (λ (x : Kept). StandsByRows fits rules x (h ++ entry_of (machine_of fits) rules h k moment draw call ∷ [])) (sym is) next;
    }

-- A lapse sweeps, and changes nothing else.
pub lapses-by_rows : (fits : Call → Type 0) (rules : Setup) (kept after : Kept) (h : List Event) (moment : ℕ) (draw : List ℕ)
    → FitFew fits → StandsByRows fits rules kept h → fits Lapse → moment ≤ last_moment → after ≡ at_moment (max kept.latest moment) kept
    → Lapses (machine_of fits) rules h moment draw (StandsByRows fits rules after)
lapses-by_rows fits rules kept after h moment draw few stands fit time changed k =
    let now = max (latest_of h 0) moment in
    let next = stands-next fits rules h k moment draw Lapse few stands.is_legal fit time in
    let none : with_notes [] (kept_of (notes_of h) now) ≡ kept_of (notes_of h) now =
    (let a : next_grant (reverse (notes_of h)) + 0 ≡ next_grant (reverse (notes_of h)) = omega arith in
    let b : first_serial (reverse (notes_of h)) + 0 ≡ first_serial (reverse (notes_of h)) = omega arith in
    ap (λ n. record { tables = tables_of (reverse (notes_of h)) now; next = n; first = first_serial (reverse (notes_of h)) + 0; latest = now }) a
    ∙ ap (λ n. record { tables = tables_of (reverse (notes_of h)) now; next = next_grant (reverse (notes_of h)); first = n; latest = now }) b) in
    let is : after ≡ with_notes [] (kept_of (notes_of h) now) = changed ∙ swept_is fits rules kept h moment few stands ∙ sym none in
    subst (λ (x : Kept). StandsByRows fits rules x (h ++ entry_of (machine_of fits) rules h k moment draw Lapse ∷ [])) (sym is) next

-- What stands for a history doesn't look at numbers.
pub rows-renumbered : (fits : Call → Type 0) (rules : Setup) (kept : Kept) (h k : List Event) → Renumbered h k → StandsByRows fits rules kept h
    → StandsByRows fits rules kept k
rows-renumbered fits rules kept h k r stands = record {
  is_legal = legal-renumbered gnap_answer fits Lapse rules h k r stands.is_legal;
  kept_is = stands.kept_is ∙ ap (λ ns. kept_of ns (latest_of h 0)) (notes-renumbered h k r) ∙ ap (kept_of (notes_of k)) (now-renumbered h k 0 r);
}

-- Where no time goes on, nothing is to be swept.
pub unswept : (fits : Call → Type 0) (rules : Setup) (kept : Kept) (h : List Event) (moment : ℕ) → FitFew fits → StandsByRows fits rules kept h
    → moment ≤ kept.latest → at_moment (max kept.latest moment) kept ≡ kept
unswept fits rules kept h moment few stands le =
    let at : max (latest_of h 0) moment ≡ latest_of h 0 = (let same = ap (λ (k : Kept). k.latest) stands.kept_is in omega arith) in
    swept_is fits rules kept h moment few stands ∙ ap (kept_of (notes_of h)) at ∙ sym stands.kept_is
