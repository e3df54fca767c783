-- A step of the core over tables.
use Rattle.std.proofs.Common.{ℕ, ◌≡◌, ◌<◌, ◌≤◌, ◌+◌, ◌^◌, max, Bool, true, false, List, length, refl, sym, ◌∙◌, ap, subst, arith}
use Rattle.std.specs.Prelude.{nat_lt, Result, Ok, Err, OnErr}
use Rattle.std.specs.List.{count_by}
use Rattle.std.proofs.lemmas.Bool.Decides.{nat_tests}
use Rattle.histories.specs.History.{last_moment, notes_of, now as latest_of}
use Rattle.histories.specs.Steps.{Answers, Lapses}
use Rattle.gnap_model.specs.declared.objects.Setup.{Setup}
use Rattle.gnap_model.specs.declared.calls.Call.{Call}
use Rattle.gnap_model.specs.declared.calls.Reply.{Reply}
use Rattle.gnap_model.specs.Notes.{Event}
use Rattle.gnap_model.specs.Standing.{is_opening}
use Rattle.gnap_tables.specs.Tables.{Tables, sweep, after_notes}
use Rattle.gnap_tables.specs.ActionsByRows.{row_action, row_supply}
use Rattle.gnap_tables.specs.StandsFor.{Kept, kept_of, machine_of, StandsByRows, at_moment, row_answer, with_notes}
use Rattle.table_laws.proofs.TablesThroughCalls.{swept_is, FitFew, answers-by_rows, lapses-by_rows, unswept}
use Rattle.grant_machine.specs.Gnap.{GnapFits}
use Rattle.grant_machine.proofs.Weaker.{grant_legal}
use Rattle.grant_states.specs.Grants.{StoredGrants}
use Rattle.token_manager.specs.Tokens.{StoredTokens}
use Rattle.table_core.specs.CallEffects.{ActsBy, HasRoom, tables_in, kept_in, moved}
use Rattle.table_core.specs.OtherCalls.{LeadsTo}
use Rattle.table_core.specs.StandsInTables.{StandsInTables}
use Rattle.table_core.specs.declared.answered.Answered.{Answered}
use Rattle.table_core.proofs.RowFacts.{KeepsRoom, room_of}
use Rattle.table_core.proofs.Undrawn.{undrawn_of}

few : FitFew GnapFits
few call fits = fits.0

abbrev pub kept_with : Tables → ℕ → ℕ → ℕ → Kept
kept_with tables next first latest = record { tables = tables; next = next; first = first; latest = latest }

-- the tables that moved are those at the later moment
moved_is : (rules : Setup) (tables after : Tables) (next first latest later moment : ℕ) (h : List Event)
    → StandsByRows GnapFits rules (kept_with tables next first latest) h
    → later ≡ max latest moment → after ≡ moved latest moment tables
    → at_moment (max latest moment) (kept_with tables next first latest) ≡ kept_with after next first later
moved_is rules tables after next first latest later moment h stands top went = by (nat_lt latest moment) refl
  where
    kept : Kept
    kept = kept_with tables next first latest

    back : (t : Tables) → after ≡ t → kept_with t next first (max latest moment) ≡ kept_with after next first later
    back t e = ap (λ (x : Tables). kept_with x next first (max latest moment)) (sym e) ∙ ap (λ n. kept_with after next first n) (sym top)

    by : (b : Bool) → nat_lt latest moment ≡ b → at_moment (max latest moment) kept ≡ kept_with after next first later
    by true e =
        let top_is : max latest moment ≡ moment = grind (arith, nat_tests) in
        let moves : after ≡ sweep (max latest moment) tables = went
        ∙ (rw e (ap (λ n. sweep n tables) (sym top_is))) in back (sweep (max latest moment) tables) moves
    by false e =
        let le : moment ≤ latest = grind (arith, nat_tests) in
        let same : max latest moment ≡ latest = omega arith in
        let stay : after ≡ tables = went ∙ rw e refl in
        unswept GnapFits rules kept h moment few stands le ∙ ap (λ n. kept_with tables next first n) (sym same) ∙ back tables stay

pub step_room : (rules : Setup) (grants after : StoredGrants) (tokens issued : StoredTokens) (next first latest later moment : ℕ) (h : List Event)
    → StandsInTables rules grants tokens next first latest h → length h < 2 ^ 58 → later ≡ max latest moment
    → tables_in after.rows issued.rows ≡ moved latest moment (tables_in grants.rows tokens.rows) → after.doors_below ≡ grants.doors_below
    → HasRoom next first after issued
step_room rules grants after tokens issued next first latest later moment h stands short top went same_doors =
    let kept : Kept = kept_in grants.rows tokens.rows next first latest in
    let is : kept_of (notes_of h) (max (latest_of h 0) moment) ≡ kept_in after.rows issued.rows next first later =
    sym (swept_is GnapFits rules kept h moment few stands.rows)
    ∙ moved_is rules (tables_in grants.rows tokens.rows) (tables_in after.rows issued.rows) next first latest later moment h stands.rows top went in
    let room : KeepsRoom (kept_in after.rows issued.rows next first later) =
    subst KeepsRoom is (room_of rules h (max (latest_of h 0) moment) (grant_legal rules h stands.rows.is_legal) short (omega arith)) in
    let below = stands.doors in
    record {
      next_small = room.next_small;
      first_small = room.first_small;
      numbers = room.numbers;
      serials = room.serials;
      doors = omega (arith, below, same_doors);
      wrongs = room.wrongs;
      asks = room.asks;
      approved = room.approved;
    }

step_ok : (rules : Setup) (grants after : StoredGrants) (tokens issued : StoredTokens) (moved_tables : Tables) (next first latest later moment : ℕ)
    (draw : List ℕ) (call : Call) (answered : Answered) (h : List Event)
    → StandsInTables rules grants tokens next first latest h → GnapFits call → moment ≤ last_moment → later ≡ max latest moment
    → moved_tables ≡ moved latest moment (tables_in grants.rows tokens.rows)
    → ActsBy (row_supply first moved_tables later draw) (row_action rules next moved_tables later call) moved_tables (tables_in after.rows issued.rows) answered
    → after.doors_below ≤ first + answered.drawn
    → Answers (machine_of GnapFits) rules h moment draw call answered.reply
    (StandsInTables rules after issued (next + answered.opened) (first + answered.drawn) later)
step_ok rules grants after tokens issued moved_tables next first latest later moment draw call answered h stands fit time top went acts below =
    let kept : Kept = kept_in grants.rows tokens.rows next first latest in
    let at : Kept = kept_with moved_tables next first later in
    let swept : Kept = at_moment (max latest moment) kept in
    let same : swept ≡ at = moved_is rules (tables_in grants.rows tokens.rows) moved_tables next first latest later moment h stands.rows top went in
    let told : answered.reply ≡ (row_answer rules swept draw call).reply = acts.reply ∙ sym (ap (λ (k : Kept). (row_answer rules k draw call).reply) same) in
    let here : kept_in after.rows issued.rows (next + answered.opened) (first + answered.drawn) later ≡ with_notes (row_answer rules at draw call).notes at =
    ap (λ (t : Tables). kept_with t (next + answered.opened) (first + answered.drawn) later) acts.tables
    ∙ ap (λ n. kept_with (after_notes (row_answer rules at draw call).notes moved_tables) (next + n) (first + answered.drawn) later) acts.opened
    ∙ ap (λ n. kept_with (after_notes (row_answer rules at draw call).notes moved_tables) (next + count_by is_opening (row_answer rules at draw call).notes)
    (first + n) later) acts.drawn in
    let changed : kept_in after.rows issued.rows (next + answered.opened) (first + answered.drawn) later
    ≡ with_notes (row_answer rules swept draw call).notes swept =
    here ∙ sym (ap (λ (k : Kept). with_notes (row_answer rules k draw call).notes k) same) in
    let made = answers-by_rows GnapFits rules kept (kept_in after.rows issued.rows (next + answered.opened) (first + answered.drawn) later) h moment draw call
    answered.reply few stands.rows fit time told changed in
    record { reply_is = made.reply_is; stands_now = λ k. record { rows = made.stands_now k; doors = below } }

pub step_led : (rules then_rules : Setup) (grants after : StoredGrants) (tokens issued : StoredTokens) (moved_tables : Tables)
    (next first then_next then_first latest later then_latest moment : ℕ) (draw : List ℕ) (call : Call) (reply : Reply) (h : List Event)
    → StandsInTables rules grants tokens next first latest h → GnapFits call → moment ≤ last_moment → later ≡ max latest moment
    → moved_tables ≡ moved latest moment (tables_in grants.rows tokens.rows)
    → LeadsTo rules draw call reply (kept_with moved_tables next first later) (kept_in after.rows issued.rows then_next then_first later)
    → after.doors_below ≤ then_first → then_rules ≡ rules → then_latest ≡ later
    → Answers (machine_of GnapFits) rules h moment draw call reply (StandsInTables then_rules after issued then_next then_first then_latest)
step_led rules then_rules grants after tokens issued moved_tables next first then_next then_first latest later then_latest moment draw call reply h stands fit
    time top went leads below same_rules same_latest =
    let counts = leads.first in
    rw (same_rules, same_latest, leads.next, leads.first, sym leads.replies)
    (step_ok rules grants after tokens issued moved_tables next first latest later moment draw call leads.answered h stands fit time top went leads.acts
    (omega (arith, below, counts)))

-- the same of a call that neither opens nor draws
pub step_told : (rules : Setup) (grants after : StoredGrants) (tokens issued : StoredTokens) (next first latest later moment : ℕ)
    (draw : List ℕ) (call : Call) (reply : Reply) (h : List Event)
    → StandsInTables rules grants tokens next first latest h → GnapFits call → moment ≤ last_moment → later ≡ max latest moment
    → tables_in after.rows issued.rows ≡ moved latest moment (tables_in grants.rows tokens.rows) → after.doors_below ≡ grants.doors_below
    → ActsBy (row_supply first (tables_in after.rows issued.rows) later draw) (row_action rules next (tables_in after.rows issued.rows) later call)
    (tables_in after.rows issued.rows) (tables_in after.rows issued.rows) (undrawn_of reply)
    → Answers (machine_of GnapFits) rules h moment draw call reply (StandsInTables rules after issued next first later)
step_told rules grants after tokens issued next first latest later moment draw call reply h stands fit time top went same_doors acts =
    let below = stands.doors in
    step_led rules rules grants after tokens issued (tables_in after.rows issued.rows) next first next first latest later later moment draw call reply h stands
    fit time top went (record { answered = undrawn_of reply; replies = refl; acts = acts; next = omega arith; first = omega arith })
    (omega (arith, below, same_doors)) refl refl

pub step_err : (rules : Setup) (grants after : StoredGrants) (tokens issued : StoredTokens) (moved_tables : Tables) (next first latest later moment : ℕ)
    (draw : List ℕ) (h : List Event)
    → StandsInTables rules grants tokens next first latest h → moment ≤ last_moment → later ≡ max latest moment
    → moved_tables ≡ moved latest moment (tables_in grants.rows tokens.rows)
    → tables_in after.rows issued.rows ≡ moved_tables → after.doors_below ≡ grants.doors_below
    → Lapses (machine_of GnapFits) rules h moment draw (StandsInTables rules after issued next first later)
step_err rules grants after tokens issued moved_tables next first latest later moment draw h stands time top went same same_doors k =
    let kept : Kept = kept_in grants.rows tokens.rows next first latest in
    let below = stands.doors in
    let changed : kept_in after.rows issued.rows next first later ≡ at_moment (max latest moment) kept =
    ap (λ (t : Tables). kept_with t next first later) same
    ∙ sym (moved_is rules (tables_in grants.rows tokens.rows) moved_tables next first latest later moment h stands.rows top went) in
    record {
      rows = lapses-by_rows GnapFits rules kept (kept_in after.rows issued.rows next first later) h moment draw few stands.rows (tt, tt) time changed k;
      doors = omega (arith, below, same_doors);
    }

-- the same where nothing that is kept was changed since the time went on
pub step_lapsed : (rules then_rules : Setup) (grants after : StoredGrants) (tokens issued : StoredTokens) (moved_tables : Tables)
    (next first then_next then_first latest later then_latest moment : ℕ) (draw : List ℕ) (h : List Event)
    → StandsInTables rules grants tokens next first latest h → moment ≤ last_moment → later ≡ max latest moment
    → moved_tables ≡ moved latest moment (tables_in grants.rows tokens.rows)
    → kept_in after.rows issued.rows then_next then_first later ≡ kept_with moved_tables next first later → after.doors_below ≡ grants.doors_below
    → then_rules ≡ rules → then_latest ≡ later
    → Lapses (machine_of GnapFits) rules h moment draw (StandsInTables then_rules after issued then_next then_first then_latest)
step_lapsed rules then_rules grants after tokens issued moved_tables next first then_next then_first latest later then_latest moment draw h stands time top went
    same same_doors same_rules same_latest =
    rw (same_rules, same_latest, ap (λ (kept : Kept). kept.next) same, ap (λ (kept : Kept). kept.first) same)
    (step_err rules grants after tokens issued moved_tables next first latest later moment draw h stands time top went (ap (λ (kept : Kept). kept.tables) same)
    same_doors)

pub on_err_always : {A E P : Type 0} (r : Result A E) → P → OnErr r P
on_err_always (Ok x) is = tt
on_err_always (Err e) is = is
