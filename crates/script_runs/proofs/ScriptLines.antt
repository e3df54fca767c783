-- A script that goes on, and how it ends.
use Rattle.std.proofs.Common.{◌≡◌, ◌∙◌, ℕ, ◌+◌, ◌<◌, ◌≤◌, List, [], ◌∷◌, ◌++◌, length, Bool, true, false, refl, ap, sym, subst, arith, append_assoc, inl, inr}
use Rattle.std.specs.Prelude.{◌≢◌, ◌&&◌, Some, None}
use Rattle.std.proofs.lemmas.List.{append-nil, take_all}
use Rattle.std.proofs.lemmas.List.Concat.{flat_map-append}
use Rattle.std.proofs.lemmas.List.Folds.{list_all-append}
use Rattle.bytes_and_lists.specs.Prefixes.{IsPrefix}
use Rattle.outside.specs.Outside.{Told, IsAtEnd, IsRest, Writes}
use Rattle.outside.specs.Links.{Exchange}
use Rattle.histories.specs.Turns.{AllOn, messages_in, entries_in, bytes_in}
use Rattle.histories.proofs.TurnLemmas.{messages_in-append, entries_in-next, length-next}
use Rattle.gnap_client.specs.declared.client.Client.{Client}
use Rattle.client_scripts.specs.Turns.{ScriptEntry, ScriptTurn, IsScriptTurn, Chained, entry_exchanges, exchanges_in, turn_of, bytes_said, fine_said, was_said}
use Rattle.command_inputs.specs.declared.printed_text.After.{After}
use Rattle.command_inputs.specs.declared.line_end.LineEnd.{LineEnd}
use Rattle.command_inputs.specs.declared.line_end.LineEnd.TheVariants as line_ends
use Rattle.command_inputs.specs.declared.ended.Ended.{Ended}
use Rattle.command_inputs.specs.declared.ended.Ended.TheVariants.{Done, Failed, WriteFault, Memory, TooLong}
use Rattle.command_inputs.specs.Lines.{IsLine, lines_of, whole_lines}
use Rattle.command_inputs.specs.Reading.{Came, ReadsLine}
use Rattle.command_inputs.specs.LineRuns.{EndsAs, RunsLines, stopped}
use Rattle.script_runs.specs.Scripts.{SaysLine, all_fine, is_fine_entry, ScriptHad, ScriptGoes, AllHad, EndsInText, EndsScript, RunsScript, ended_script}
use Rattle.command_inputs.specs.Ends.{CountsReads, CountsWrites, EndsAt, Took}
use Rattle.command_inputs.proofs.LineRuns.{each_from-next, goes-start, goes-next, runs-weaker, turned, turned-starved, turned-cut, stops-behind, out_on, on-next, after_last, none_left}
use Rattle.command_inputs.proofs.LineStops.{line_size, not_starved}

-- ---- one line

chained_next : (first : Client) (entries : List ScriptEntry) (entry : ScriptEntry) (last : Client) → Chained first entries last → entry.before ≡ last
    → Chained first (entries ++ entry ∷ []) entry.after
chained_next first [] entry last is same = (same ∙ sym is, refl)
chained_next first (one ∷ entries) entry last chained same = (chained.0, chained_next one.after entries entry last chained.1 same)

none-had : (first : Client) (asked : List Exchange) → ScriptHad first asked first asked []
none-had first asked = record { each = tt; chained = refl; adds = sym (append-nil asked) }

pub script-start : (first : Client) (asked : List Exchange) (held : List ℕ) (taken : ℕ) (source out : Told) → length held ≤ taken
    → ScriptGoes first asked first asked true 0 held held taken taken source source out out
unfolding goes-start
script-start first asked held taken source out few = record {
  goes = goes-start (ScriptHad first asked first asked) held taken source out (none-had first asked) few;
  fine_is = refl;
  number_is = refl;
}

-- the endings that a script has as all lines have them
module _ (Had : List ScriptTurn → Type 0) (held : List ℕ) (taken taken2 : ℕ) (s s2 o o2 : Told) where
  same_ends : (ended : Ended) → ((turns : List ScriptTurn) (whole later : List (List ℕ)) (sent : List ℕ) → EndsAs ended turns whole later sent
      → EndsScript ended turns whole later sent)
      → RunsLines Had EndsAs held taken taken2 s s2 o o2 ended → RunsLines Had EndsScript held taken taken2 s s2 o o2 ended
  same_ends ended ends r = runs-weaker Had Had EndsAs EndsScript held taken taken2 s s2 o o2 ended ended (λ turns had. had) ends r

  pub as_starved : RunsLines Had EndsAs held taken taken2 s s2 o o2 Memory → RunsLines Had EndsScript held taken taken2 s s2 o o2 Memory
  as_starved r = same_ends Memory (λ turns whole later sent ends. ends) r

  pub as_cut : RunsLines Had EndsAs held taken taken2 s s2 o o2 WriteFault → RunsLines Had EndsScript held taken taken2 s s2 o o2 WriteFault
  as_cut r = same_ends WriteFault (λ turns whole later sent ends. ends) r

  pub as_stopped : (end : LineEnd) (ended : Ended) → stopped end ≡ Some ended → RunsLines Had EndsAs held taken taken2 s s2 o o2 ended
      → RunsLines Had EndsScript held taken taken2 s s2 o o2 ended
  as_stopped line_ends.Whole ended is r = absurd cc
  as_stopped line_ends.Last ended is r = absurd cc
  as_stopped line_ends.Long ended is r = absurd cc
  as_stopped line_ends.Full ended is r = let at : ended ≡ TooLong = cc in
      let R : Ended → Type 0 = λ e. RunsLines Had EndsAs held taken taken2 s s2 o o2 e → RunsLines Had EndsScript held taken taken2 s s2 o o2 e in
      subst R (sym at) (λ r2. same_ends TooLong (λ turns whole later sent ends. ends) r2) r
  as_stopped line_ends.Failed ended is r = let at : ended ≡ Failed = cc in
      let R : Ended → Type 0 = λ e. RunsLines Had EndsAs held taken taken2 s s2 o o2 e → RunsLines Had EndsScript held taken taken2 s s2 o o2 e in
      subst R (sym at) (λ r2. same_ends Failed (λ turns whole later sent ends. ends) r2) r
  as_stopped line_ends.Memory ended is r = let at : ended ≡ Memory = cc in
      let R : Ended → Type 0 = λ e. RunsLines Had EndsAs held taken taken2 s s2 o o2 e → RunsLines Had EndsScript held taken taken2 s s2 o o2 e in
      subst R (sym at) as_starved r

and_true : (b : Bool) → (b && true) ≡ b
and_true true = refl
and_true false = refl

module _ (first : Client) (asked : List Exchange) (last : Client) (asked1 : List Exchange) (fine : Bool) (number : ℕ)
    (held held1 : List ℕ) (taken taken1 : ℕ) (s s1 o o1 : Told) (goes : ScriptGoes first asked last asked1 fine number held held1 taken taken1 s s1 o o1) where
  -- the next line had its turn
  module _ (full bytes : List ℕ) (new : Client) (asked2 : List Exchange) (o2 : Told) (result : After) (fine2 : Bool) (next : ℕ)
      (is_next : next ≡ number + 1) (says : SaysLine next full last new asked1 asked2 o1 o2 result fine fine2) where
    abbrev entry : ScriptEntry
    entry = record { before = last; after = new; exchanges = says.turn.exchanges; fine = fine_said says.said }

    abbrev pub line_turn : ScriptTurn
    line_turn = turn_of full says.turn.at last new says.turn.exchanges (bytes_said says.said) (fine_said says.said) (was_said says.said)

    entries_now : entries_in (goes.goes.turns ++ line_turn ∷ []) ≡ entries_in goes.goes.turns ++ entry ∷ []
    entries_now = entries_in-next goes.goes.turns line_turn

    exchanges_now : exchanges_in (entries_in (goes.goes.turns ++ line_turn ∷ [])) ≡ exchanges_in (entries_in goes.goes.turns) ++ says.turn.exchanges
    exchanges_now = ap exchanges_in entries_now ∙ flat_map-append entry_exchanges (entries_in goes.goes.turns) (entry ∷ [])
        ∙ ap (λ (x : List Exchange). exchanges_in (entries_in goes.goes.turns) ++ x) (append-nil says.turn.exchanges)

    place : next ≡ 1 + length goes.goes.turns
    place = let count = goes.number_is in omega (arith, is_next, count)

    pub script-had : ScriptHad first asked new asked2 (goes.goes.turns ++ line_turn ∷ [])
    script-had = record {
      each = each_from-next IsScriptTurn 1 goes.goes.turns line_turn goes.goes.had.each (subst (λ (n : ℕ). IsScriptTurn n line_turn) place says.turn.turn);
      chained = subst (λ (es : List ScriptEntry). Chained first es new) (sym entries_now)
          (chained_next first (entries_in goes.goes.turns) entry last goes.goes.had.chained refl);
      adds = says.turn.adds ∙ ap (λ (x : List Exchange). x ++ says.turn.exchanges) goes.goes.had.adds
          ∙ append_assoc asked (exchanges_in (entries_in goes.goes.turns)) says.turn.exchanges
          ∙ ap (λ (x : List Exchange). asked ++ x) (sym exchanges_now);
    }

    pub fine_now : fine2 ≡ all_fine (entries_in (goes.goes.turns ++ line_turn ∷ []))
    fine_now = says.fine_is ∙ ap (λ (b : Bool). b && fine_said says.said) goes.fine_is
        ∙ ap (λ (b : Bool). all_fine (entries_in goes.goes.turns) && b) (sym (and_true (fine_said says.said)))
        ∙ sym (ap all_fine entries_now ∙ list_all-append is_fine_entry (entries_in goes.goes.turns) (entry ∷ []))

    number_now : next ≡ length (goes.goes.turns ++ line_turn ∷ [])
    number_now = let count = length-next goes.goes.turns line_turn in omega (arith, place, count)

    -- more lines may follow
    pub script-next : (held2 : List ℕ) (taken2 : ℕ) (s2 : Told) → Came bytes taken1 taken2 s1 s2 → IsLine full → held1 ++ bytes ≡ full ++ 10 ∷ held2
        → was_said says.said ≡ true → Writes (bytes_said says.said) o1 o2
        → ScriptGoes first asked new asked2 fine2 next held held2 taken taken2 s s2 o o2
    unfolding goes-next
    script-next held2 taken2 s2 came is_line whole on prints = record {
      goes = goes-next (ScriptHad first asked last asked1) held held1 taken taken1 s s1 o o1 goes.goes full bytes taken2 s2 came is_line o2
          (ScriptHad first asked new asked2) line_turn script-had refl held2 whole on prints;
      fine_is = fine_now;
      number_is = number_now;
    }

    -- it ended with this line
    module _ (taken2 : ℕ) (s2 : Told) (came : Came bytes taken1 taken2 s1 s2) (is_line : IsLine full) where
      module _ (ends : (rest : List ℕ) → IsRest s2 rest → (later : List (List ℕ)) × (lines_of (held1 ++ bytes ++ rest) ≡ full ∷ later)) where
        pub script-starved : (o2 ≡ o1) × (bytes_said says.said ≡ [])
            → RunsLines (ScriptHad first asked new asked2) EndsScript held taken taken2 s s2 o o2 Memory
        script-starved nothing = as_starved (ScriptHad first asked new asked2) held taken taken2 s s2 o o2
            (turned-starved (ScriptHad first asked last asked1) held held1 taken taken1 s s1 o o1 goes.goes full bytes taken2 s2 came is_line o2
            (ScriptHad first asked new asked2) line_turn script-had refl ends nothing)

        pub script-cut : ((part : List ℕ) × IsPrefix part (bytes_said says.said) × Writes part o1 o2)
            → RunsLines (ScriptHad first asked new asked2) EndsScript held taken taken2 s s2 o o2 WriteFault
        script-cut cut = as_cut (ScriptHad first asked new asked2) held taken taken2 s s2 o o2
            (turned-cut (ScriptHad first asked last asked1) held held1 taken taken1 s s1 o o1 goes.goes full bytes taken2 s2 came is_line o2
            (ScriptHad first asked new asked2) line_turn script-had refl ends cut)

-- ---- a line that was read

module _ (first : Client) (asked : List Exchange) (last : Client) (asked1 : List Exchange) (fine : Bool) (number : ℕ)
    (held held1 : List ℕ) (taken taken1 : ℕ) (s s1 o o1 : Told) (goes : ScriptGoes first asked last asked1 fine number held held1 taken taken1 s s1 o o1)
    (line held2 : List ℕ) (taken2 : ℕ) (s2 : Told) (end : LineEnd)
    (none : stopped end ≡ None) (short : end ≢ line_ends.Long) (read : ReadsLine 1073741824 line held1 held2 taken1 taken2 s1 s2 end)
    (most : taken2 ≤ 1073741824) where
  -- all of it is kept
  pub kept_line : line ≡ read.full
  kept_line =
      let all = goes.goes.few in
      let few : length held1 ≤ taken1 = omega (arith, all) in
      let size = line_size 1073741824 line held1 held2 taken1 taken2 s1 s2 end none short read few in
      read.kept (not_starved end none) ∙ take_all 1073741825 read.full (omega (arith, size, most))

  -- so it had its turn
  pub says_full : (next : ℕ) (new : Client) (asked2 : List Exchange) (o2 : Told) (result : After) (fine2 : Bool)
      → SaysLine next line last new asked1 asked2 o1 o2 result fine fine2 → SaysLine next read.full last new asked1 asked2 o1 o2 result fine fine2
  says_full next new asked2 o2 result fine2 says = subst (λ (l : List ℕ). SaysLine next l last new asked1 asked2 o1 o2 result fine fine2) kept_line says

-- ---- how a script ends

script_ends : (fine : Bool) (turns : List ScriptTurn) (whole later : List (List ℕ)) (sent : List ℕ) → AllOn turns → AllHad turns later → sent ≡ bytes_in turns
    → fine ≡ all_fine (entries_in turns) → EndsScript (ended_script fine) turns whole later sent
script_ends true turns whole later sent on had is fine_is = (on, had, is, sym fine_is)
script_ends false turns whole later sent on had is fine_is = (on, had, is, sym fine_is)

-- the counts of faults are as they were
pub script_reads : (fine : Bool) (faults faults_now : ℕ) → faults_now ≡ faults → CountsReads (ended_script fine) faults faults_now
script_reads true faults faults_now same = same
script_reads false faults faults_now same = same

pub script_writes : (fine : Bool) (faults faults_now : ℕ) → faults_now ≡ faults → CountsWrites (ended_script fine) faults faults_now
script_writes true faults faults_now same = same
script_writes false faults faults_now same = same

-- all was taken of the source
pub script_at_end : (fine : Bool) (taken : ℕ) (told : Told) → taken < 1073741824 → IsAtEnd told → EndsAt (ended_script fine) taken told
script_at_end true taken told few end = (few, end)
script_at_end false taken told few end = (few, end)

ends_in_text : (lines : List (List ℕ)) (full : List ℕ) → length full ≢ 0 → EndsInText (lines ++ full ∷ [])
ends_in_text lines [] some = absurd (some refl)
ends_in_text lines (byte ∷ text) some = (lines, byte, text, refl)

module _ (first : Client) (asked : List Exchange) (last : Client) (asked1 : List Exchange) (fine : Bool) (number : ℕ)
    (held held1 : List ℕ) (taken taken1 : ℕ) (s s1 o o1 : Told) (goes : ScriptGoes first asked last asked1 fine number held held1 taken taken1 s s1 o o1) where
  -- nothing stands behind the last LF
  pub script-behind : (bytes : List ℕ) (taken2 : ℕ) (s2 : Told) → Came bytes taken1 taken2 s1 s2 → held1 ++ bytes ≡ [] → IsAtEnd s2
      → RunsLines (ScriptHad first asked last asked1) EndsScript held taken taken2 s s2 o o1 (ended_script fine)
  script-behind bytes taken2 s2 came none end =
      stops-behind (ScriptHad first asked last asked1) held held1 taken taken1 s s1 o o1 goes.goes bytes taken2 s2 came o1 refl EndsScript (ended_script fine)
      none end
      (script_ends fine goes.goes.turns _ ([] ∷ []) (bytes_in goes.goes.turns) goes.goes.on (inl refl) refl goes.fine_is)

  -- the last line had its turn
  module _ (full bytes : List ℕ) (new : Client) (asked2 : List Exchange) (o2 : Told) (result : After) (fine2 : Bool) (next : ℕ)
      (is_next : next ≡ number + 1) (says : SaysLine next full last new asked1 asked2 o1 o2 result fine fine2) (taken2 : ℕ) (s2 : Told)
      (came : Came bytes taken1 taken2 s1 s2) (is_line : IsLine full)
      (whole : held1 ++ bytes ≡ full) (end : IsAtEnd s2) where
    abbrev turn : ScriptTurn
    turn = line_turn first asked last asked1 fine number held held1 taken taken1 s s1 o o1 goes full bytes new asked2 o2 result fine2 next is_next says

    had : ScriptHad first asked new asked2 (goes.goes.turns ++ turn ∷ [])
    had = script-had first asked last asked1 fine number held held1 taken taken1 s s1 o o1 goes full bytes new asked2 o2 result fine2 next is_next says

    pub script-last : length full ≢ 0 → was_said says.said ≡ true → Writes (bytes_said says.said) o1 o2
        → RunsLines (ScriptHad first asked new asked2) EndsScript held taken taken2 s s2 o o2 (ended_script fine2)
    script-last some on prints =
        turned (ScriptHad first asked last asked1) held held1 taken taken1 s s1 o o1 goes.goes full bytes taken2 s2 came is_line o2
        (ScriptHad first asked new asked2) turn had refl EndsScript (ended_script fine2) (bytes_in (goes.goes.turns ++ turn ∷ []))
        (out_on (ScriptHad first asked last asked1) held held1 taken taken1 s s1 o o1 goes.goes full bytes taken2 s2 came is_line o2
        (ScriptHad first asked new asked2) turn had refl prints)
        (λ rest known. (
          [],
          after_last (ScriptHad first asked last asked1) held held1 taken taken1 s s1 o o1 goes.goes full bytes taken2 s2 came is_line o2
              (ScriptHad first asked new asked2) turn had refl rest whole (none_left s2 rest known end),
          script_ends fine2 (goes.goes.turns ++ turn ∷ []) _ [] (bytes_in (goes.goes.turns ++ turn ∷ []))
              (on-next goes.goes.turns turn goes.goes.on on)
              (inr (refl, subst EndsInText (sym (messages_in-append goes.goes.turns (turn ∷ []))) (ends_in_text (messages_in goes.goes.turns) full some)))
              refl
              (fine_now first asked last asked1 fine number held held1 taken taken1 s s1 o o1 goes full bytes new asked2 o2 result fine2 next is_next says),
        ))

-- what that is of the whole script, of which nothing was read before
pub script_account : (first last : Client) (asked asked2 : List Exchange) (held : List ℕ) (taken taken2 : ℕ) (s s2 o o2 : Told) (ended : Ended)
    → asked ≡ [] → held ≡ [] → s.taken ≡ []
    → RunsLines (ScriptHad first asked last asked2) EndsScript held taken taken2 s s2 o o2 ended → (rest : List ℕ) → IsRest s2 rest
    → RunsScript first s2.taken rest asked2 o o2 ended
script_account first last asked asked2 held taken taken2 s s2 o o2 ended unasked none fresh r rest known =
    let l = r.lines rest known in
    let text : s2.taken ≡ r.bytes = r.came.takes.taken ∙ ap (λ (t : List ℕ). t ++ r.bytes) fresh in
    let front : held ++ r.bytes ≡ s2.taken = ap (λ (t : List ℕ). t ++ r.bytes) none ∙ sym text in
    let lines : lines_of (s2.taken ++ rest) ≡ messages_in r.turns ++ l.0 =
    ap (λ (t : List ℕ). lines_of (t ++ rest)) (sym front) ∙ l.1 in
    let E : List (List ℕ) → Type 0 = λ w. EndsScript ended r.turns w l.0 r.sent in
    record {
      turns = r.turns;
      each = r.had.each;
      last = last;
      chained = r.had.chained;
      exchanges_are = r.had.adds ∙ ap (λ (es : List Exchange). es ++ exchanges_in (entries_in r.turns)) unasked;
      sent = r.sent;
      told = r.prints;
      later = l.0;
      lines_are = lines;
      ends = subst E (ap whole_lines front) l.2;
    }

-- as many bytes were counted as were taken
pub script_took : (bytes : List ℕ) (taken taken2 : ℕ) (s s2 : Told) (ended : Ended) → s.taken ≡ [] → taken ≡ 0 → Came bytes taken taken2 s s2
    → EndsAt ended taken2 s2
    → Took ended s2
script_took bytes taken taken2 s s2 ended fresh zero came at =
    let text : s2.taken ≡ bytes = came.takes.taken ∙ ap (λ (t : List ℕ). t ++ bytes) fresh in
    let count : taken2 ≡ length s2.taken = (let size = ap length text in let counted = came.counted in omega (arith, size, counted, zero)) in
    subst (λ (n : ℕ). EndsAt ended n s2) count at

pub script_done : (ended : Ended) (taken : ℕ) (told : Told) → EndsAt ended taken told → ended ≡ Done → IsAtEnd told
script_done ended taken told at is = (subst (λ (e : Ended). EndsAt e taken told) is at).1

-- a line of no bytes
pub empty_line : (full : List ℕ) → length full ≡ 0 → full ≡ []
empty_line [] none = refl
empty_line (byte ∷ text) none = absurd (omega (arith, none))
