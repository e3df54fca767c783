-- A file that was replayed, from its first line on.
use Rattle.std.proofs.Common.{◌≡◌, ◌∙◌, ℕ, ◌+◌, ◌<◌, ◌≤◌, ◌^◌, List, [], ◌∷◌, ◌++◌, length, take, refl, ap, sym, subst, arith, append_assoc, length-append, ◌⊎◌, inl, inr}
use Rattle.std.specs.Prelude.{Option, Some, None, Err, ◌==◌}
use Rattle.std.proofs.lemmas.Bool.{or_parts}
use Rattle.std.proofs.lemmas.List.{append-nil, length-take, length-take-le}
use Rattle.outside.specs.Outside.{Told, Takes, IsAtEnd, IsRest}
use Rattle.outside.proofs.Devices.{writes_none}
use Rattle.histories.specs.History.{Legal}
use Rattle.histories.specs.Histories.{legal-nil}
use Rattle.histories.specs.Turns.{messages_in, entries_in}
use Rattle.histories.proofs.OwnEntries.{own-all}
use Rattle.histories.proofs.WholeLemmas.{below_one}
use Rattle.gnap_model.specs.declared.objects.Setup.{Setup}
use Rattle.gnap_objects.specs.Setups.{setup_of}
use Rattle.grant_machine.specs.Gnap.{GnapEntry, gnap}
use Rattle.grant_machine.specs.Laws.{WhatHolds}
use Rattle.command_inputs.specs.declared.line_end.LineEnd.{LineEnd}
use Rattle.command_inputs.specs.declared.line_end.LineEnd.TheVariants as line_ends
use Rattle.command_inputs.specs.declared.ended.Ended.{Ended}
use Rattle.command_inputs.specs.declared.ended.Ended.TheVariants.{Done, NoSetup, Failed, WriteFault, Memory, Refused, TooLong}
use Rattle.command_inputs.specs.Lines.{IsLine, lines_of, onto_first, whole_lines}
use Rattle.command_inputs.specs.Reading.{Came, ReadsLine}
use Rattle.command_inputs.specs.Ends.{CountsReads, CountsWrites, EndsAt, Took}
use Rattle.call_replay.specs.Replays.{LineTurn, Replayed, EndsWithoutSetup, ReplaysFile, first_of, after_first}
use Rattle.command_inputs.specs.Configs.{setup_in, GivesRead}
use Rattle.command_inputs.specs.LineRuns.{EndsAs}
use Rattle.call_replay.specs.Replaying.{Replays, IsSetupAlone, IsRefusal, IsLoneHistory}
use Rattle.command_inputs.specs.declared.ended.WrongSetup.{WrongSetup}
use Rattle.command_inputs.proofs.ConfigTexts.{config_long, setup_kept}
use Rattle.command_inputs.proofs.LineTexts.{line_ended, line_last, whole_first, whole_none}
use Rattle.call_replay.proofs.Going.{all_few}
use Rattle.command_inputs.proofs.LineRuns.{none_left}

first_onto : (b : ℕ) (lines : List (List ℕ)) → first_of (onto_first b lines) ≡ b ∷ first_of lines
first_onto b [] = refl
first_onto b (line ∷ lines) = refl

first_grows : (full rest : List ℕ) → IsLine full → first_of (lines_of (full ++ rest)) ≡ full ++ first_of (lines_of rest)
first_grows [] rest is = refl
first_grows (b ∷ full) rest is =
    let h = or_parts (b == 10) _ is in
    rw h.0 (first_onto b (lines_of (full ++ rest)) ∙ ap (λ x. b ∷ x) (first_grows full rest h.1))

-- ---- the one history

pub none_replayed : (setup : Setup) (whole lines : List (List ℕ)) (o : Told) (ended : Ended) → EndsAs {E = GnapEntry} ended [] whole lines []
    → WhatHolds setup []
    → Replayed setup whole lines o o ended
none_replayed setup whole lines o ended ends holds = record {
  sent = [];
  told = writes_none o;
  one = record {
    history = [];
    legal = legal-nil gnap setup;
    numbers = tt;
    each = (record { turns = []; each = tt; own_is = refl; later = lines; lines_are = refl; ends = ends }, tt);
  };
  holds = holds;
}

-- a setup without further lines
alone_replayed : (setup : Setup) (reading : Option Setup) (ended : Ended) (o : Told) → IsSetupAlone ended reading → reading ≡ Some setup → WhatHolds setup []
    → Replayed setup [] [] o o ended
alone_replayed setup reading Done o alone is holds = none_replayed setup [] [] o Done (tt, refl, refl) holds
alone_replayed setup reading (NoSetup why) o alone is holds = let no : None ≡ Some setup = sym alone ∙ is in absurd cc
alone_replayed setup reading Memory o alone is holds = none_replayed setup [] [] o Memory (refl, inl tt) holds
alone_replayed setup reading Failed o alone is holds = absurd alone
alone_replayed setup reading WriteFault o alone is holds = absurd alone
alone_replayed setup reading Refused o alone is holds = absurd alone
alone_replayed setup reading TooLong o alone is holds = absurd alone

alone_without : (reading : Option Setup) (ended : Ended) (taken : List ℕ) → IsSetupAlone ended reading → reading ≡ None → EndsWithoutSetup ended taken
alone_without reading Done taken alone is = let no : None ≡ Some alone.0 = sym is ∙ alone.1 in absurd cc
alone_without reading (NoSetup why) taken alone is = tt
alone_without reading Memory taken alone is = tt
alone_without reading Failed taken alone is = absurd alone
alone_without reading WriteFault taken alone is = absurd alone
alone_without reading Refused taken alone is = absurd alone
alone_without reading TooLong taken alone is = absurd alone

pub alone_at : (reading : Option Setup) (ended : Ended) (taken : ℕ) (told : Told) → IsSetupAlone ended reading → taken < 1073741824 → IsAtEnd told
    → EndsAt ended taken told
alone_at reading Done taken told alone few end = (few, end)
alone_at reading (NoSetup why) taken told alone few end = tt
alone_at reading Memory taken told alone few end = tt
alone_at reading Failed taken told alone few end = absurd alone
alone_at reading WriteFault taken told alone few end = absurd alone
alone_at reading Refused taken told alone few end = absurd alone
alone_at reading TooLong taken told alone few end = absurd alone

refusal_without : (ended : Ended) (taken : List ℕ) → IsRefusal ended → EndsWithoutSetup ended taken
refusal_without (NoSetup why) taken refusal = tt
refusal_without Memory taken refusal = tt
refusal_without Done taken refusal = absurd refusal
refusal_without Failed taken refusal = absurd refusal
refusal_without WriteFault taken refusal = absurd refusal
refusal_without Refused taken refusal = absurd refusal
refusal_without TooLong taken refusal = absurd refusal

-- where a first line is no setup, or memory ran out while it was read
pub gives_refusal : (ended : Ended) (reading : Option Setup) → GivesRead (λ (setup : Setup). setup) (Err ended) reading → IsRefusal ended
gives_refusal (NoSetup why) reading gives = tt
gives_refusal Memory reading gives = tt
gives_refusal Done reading gives = absurd gives
gives_refusal Failed reading gives = absurd gives
gives_refusal WriteFault reading gives = absurd gives
gives_refusal Refused reading gives = absurd gives
gives_refusal TooLong reading gives = absurd gives

pub gives_starved : (setup : Setup) (ended : Ended) (reading : Option Setup) → GivesRead (λ (setup : Setup). setup) (Err ended) reading
    → reading ≡ Some setup → ended ≡ Memory
gives_starved setup (NoSetup why) reading gives is = let no : None ≡ Some setup = sym gives ∙ is in absurd cc
gives_starved setup Memory reading gives is = refl
gives_starved setup Done reading gives is = absurd gives
gives_starved setup Failed reading gives is = absurd gives
gives_starved setup WriteFault reading gives is = absurd gives
gives_starved setup Refused reading gives is = absurd gives
gives_starved setup TooLong reading gives is = absurd gives

pub refusal_reads : (ended : Ended) (faults : ℕ) → IsRefusal ended → CountsReads ended faults faults
refusal_reads (NoSetup why) faults refusal = refl
refusal_reads Memory faults refusal = refl
refusal_reads Done faults refusal = refl
refusal_reads Failed faults refusal = absurd refusal
refusal_reads WriteFault faults refusal = refl
refusal_reads Refused faults refusal = refl
refusal_reads TooLong faults refusal = refl

pub refusal_writes : (ended : Ended) (faults : ℕ) → IsRefusal ended → CountsWrites ended faults faults
refusal_writes (NoSetup why) faults refusal = refl
refusal_writes Memory faults refusal = refl
refusal_writes Done faults refusal = refl
refusal_writes Failed faults refusal = refl
refusal_writes WriteFault faults refusal = absurd refusal
refusal_writes Refused faults refusal = refl
refusal_writes TooLong faults refusal = refl

pub refusal_at : (ended : Ended) (taken : ℕ) (told : Told) → IsRefusal ended → EndsAt ended taken told
refusal_at (NoSetup why) taken told refusal = tt
refusal_at Memory taken told refusal = tt
refusal_at Done taken told refusal = absurd refusal
refusal_at Failed taken told refusal = absurd refusal
refusal_at WriteFault taken told refusal = absurd refusal
refusal_at Refused taken told refusal = absurd refusal
refusal_at TooLong taken told refusal = absurd refusal

ends_whole : (ended : Ended) (turns : List LineTurn) (whole more later : List (List ℕ)) (sent : List ℕ) → whole ≡ more
    → EndsAs ended turns more later sent → EndsAs ended turns whole later sent
ends_whole ended turns whole more later sent is ends = subst (λ (w : List (List ℕ)). EndsAs ended turns w later sent) (sym is) ends

-- no more of it was kept, so it has no more
short_line : (limit : ℕ) (first full : List ℕ) → first ≡ take (limit + 1) full → length first ≤ limit → length full ≤ limit
short_line limit first full is short =
    let either : (length full ≤ limit) ⊎ (limit < length full) = grind arith in
    elim either [
      | inl few ↦ few
      | inr long ↦ absurd (omega (arith, short, ap length is, length-take-le (limit + 1) full (omega (arith, long))))
    ]

-- ---- a file, from its first line on

module _ (first held0 held1 : List ℕ) (taken0 taken1 : ℕ) (s s1 : Told) (empty : held0 ≡ []) (fresh : s.taken ≡ []) (start : taken0 ≡ 0) where
  module _ (end : LineEnd) (read : ReadsLine 1048576 first held0 held1 taken0 taken1 s s1 end) where
    -- what was taken for the first line
    taken_is : s1.taken ≡ held0 ++ read.bytes
    taken_is = read.came.takes.taken ∙ ap (λ x. x ++ read.bytes) (fresh ∙ sym empty)

    kept : (end ≡ line_ends.Memory → ⊥) → setup_in read.full ≡ setup_in first
    kept isnt = setup_kept read.full ∙ ap setup_in (sym (read.kept isnt))

    -- as many bytes were taken as were counted
    took_first : length s1.taken ≡ taken1
    took_first = omega (arith, ap length taken_is, ap length empty, length-append held0 read.bytes, read.came.counted, start)

    pub took_all : (b : List ℕ) (taken2 : ℕ) (s2 : Told) → Came b taken1 taken2 s1 s2 → (ended : Ended) → EndsAt ended taken2 s2 → Took ended s2
    took_all b taken2 s2 came ended at =
        let size : taken2 ≡ length s2.taken = omega (arith, took_first, ap length came.takes.taken, length-append s1.taken b, came.counted) in
        let A : ℕ → Type 0 = λ n. EndsAt ended n s2 in
        subst A size at

  -- an LF ended it
  module _ (read : ReadsLine 1048576 first held0 held1 taken0 taken1 s s1 line_ends.Whole) (b : List ℕ) (s2 : Told) (takes : Takes b s1 s2) where
    taken_whole : s2.taken ≡ read.full ++ 10 ∷ (held1 ++ b)
    taken_whole = takes.taken ∙ ap (λ x. x ++ b) (taken_is line_ends.Whole read ∙ read.ends) ∙ append_assoc read.full (10 ∷ held1) b

    whole_text : (rest : List ℕ) → lines_of (s2.taken ++ rest) ≡ read.full ∷ lines_of (held1 ++ b ++ rest)
    whole_text rest =
        ap (λ x. lines_of (x ++ rest)) taken_whole ∙ ap lines_of (append_assoc read.full (10 ∷ (held1 ++ b)) rest)
        ∙ line_ended read.full (held1 ++ b ++ rest) read.is_line

    whole_read : whole_lines s2.taken ≡ read.full ∷ whole_lines (held1 ++ b)
    whole_read = ap whole_lines taken_whole ∙ whole_first read.full (held1 ++ b) read.is_line

    -- the setup is the one that the file's first line is
    whole_setup : (rest : List ℕ) → setup_in (first_of (lines_of (s2.taken ++ rest))) ≡ setup_in first
    whole_setup rest = ap (λ ls. setup_in (first_of ls)) (whole_text rest) ∙ kept line_ends.Whole read (λ no. cc)

  pub whole_replayed : (read : ReadsLine 1048576 first held0 held1 taken0 taken1 s s1 line_ends.Whole)
      → (b : List ℕ) (taken2 : ℕ) (s2 o o2 : Told) (ended : Ended) → Came b taken1 taken2 s1 s2 → taken2 ≤ 1073741824
      → ((setup : Setup) → setup_in first ≡ Some setup → Replays setup 0 (IsLoneHistory setup) held1 taken1 taken2 s1 s2 o o2 ended)
      → (setup_in first ≡ None → IsRefusal ended × (o2 ≡ o))
      → ((setup : Setup) (h : List GnapEntry) → Legal gnap setup h → length h ≤ 2 ^ 58 → WhatHolds setup h)
      → (rest : List ℕ) → IsRest s2 rest → ReplaysFile s2.taken rest o o2 ended
  whole_replayed read b taken2 s2 o o2 ended came most replays refuses holds rest known = record {
    by_setup = λ setup is.
        let r = replays setup (sym (whole_setup read b s2 came.takes rest) ∙ is) in
        let h = r.had.history in
        let lone = r.had.seen_now in
        let l = r.lines rest known in
        let lines : after_first (lines_of (s2.taken ++ rest)) ≡ messages_in r.turns ++ l.0
        = ap after_first (whole_text read r.bytes s2 r.came.takes rest) ∙ l.1 in
        let whole : after_first (whole_lines s2.taken) ≡ whole_lines (held1 ++ r.bytes) = ap after_first (whole_read read r.bytes s2 r.came.takes) in
        let own : h ≡ entries_in r.turns = sym (own-all 0 h lone.1) ∙ r.had.own in
        let few : length h ≤ length r.turns = omega (arith, ap length own, all_few setup r.turns r.had.each) in
        record {
          sent = r.sent;
          told = r.prints;
          one = record {
            history = h;
            legal = lone.0;
            numbers = below_one h lone.1;
            each = (
              record {
                turns = r.turns;
                each = r.had.each;
                own_is = r.had.own;
                later = l.0;
                lines_are = lines;
                ends = ends_whole ended r.turns _ _ l.0 r.sent whole l.2;
              },
              tt,
            );
          };
          holds = holds setup h lone.0 (omega (arith, few, r.few, most));
        };
    without = λ is.
        let refused = refuses (sym (whole_setup read b s2 came.takes rest) ∙ is) in
        (refusal_without ended s2.taken refused.0, refused.1);
  }

  -- the input ended with it
  pub last_replayed : (read : ReadsLine 1048576 first held0 held1 taken0 taken1 s s1 line_ends.Last) (o : Told) (ended : Ended)
      → IsSetupAlone ended (setup_in first)
      → ((setup : Setup) → WhatHolds setup []) → (rest : List ℕ) → IsRest s1 rest → ReplaysFile s1.taken rest o o ended
  last_replayed read o ended alone holds rest known =
      let taken : s1.taken ≡ read.full = taken_is line_ends.Last read ∙ read.ends.0 in
      let text : lines_of (s1.taken ++ rest) ≡ read.full ∷ []
      = ap (λ x. lines_of (s1.taken ++ x)) (none_left s1 rest known read.ends.2) ∙ ap lines_of (append-nil s1.taken ∙ taken)
      ∙ line_last read.full read.is_line in
      let setup_is : setup_in (first_of (lines_of (s1.taken ++ rest))) ≡ setup_in first
      = ap (λ ls. setup_in (first_of ls)) text ∙ kept line_ends.Last read (λ no. cc) in
      let whole : after_first (whole_lines s1.taken) ≡ [] = ap (λ t. after_first (whole_lines t)) taken ∙ ap after_first (whole_none read.full read.is_line) in
      let R : List (List ℕ) → List (List ℕ) → Setup → Type 0 = λ w ls setup. Replayed setup w ls o o ended in
      record {
        by_setup = λ setup is.
            subst (λ w. R w (after_first (lines_of (s1.taken ++ rest))) setup) (sym whole)
            (subst (λ ls. R [] ls setup) (sym (ap after_first text)) (alone_replayed setup (setup_in first) ended o alone (sym setup_is ∙ is) (holds setup)));
        without = λ is. (alone_without (setup_in first) ended s1.taken alone (sym setup_is ∙ is), refl);
      }

  -- a first line that is too long is no setup
  pub long_replayed : (read : ReadsLine 1048576 first held0 held1 taken0 taken1 s s1 line_ends.Long) → 1048576 < length first → (o : Told) (why : WrongSetup)
      → (rest : List ℕ) → ReplaysFile s1.taken rest o o (NoSetup why)
  long_replayed read long o why rest =
      let line : lines_of (s1.taken ++ rest) ≡ lines_of (read.full ++ (held1 ++ rest))
      = ap (λ x. lines_of (x ++ rest)) (taken_is line_ends.Long read ∙ read.ends) ∙ ap lines_of (append_assoc read.full held1 rest) in
      let begins : first_of (lines_of (s1.taken ++ rest)) ≡ read.full ++ first_of (lines_of (held1 ++ rest)) = ap first_of line
      ∙ first_grows read.full (held1 ++ rest) read.is_line in
      let size : length first ≤ length read.full = omega (arith, ap length (read.kept (λ no. cc)), length-take 1048577 read.full) in
      let none : setup_in (first_of (lines_of (s1.taken ++ rest))) ≡ None
      = config_long setup_of (first_of (lines_of (s1.taken ++ rest)))
      (omega (arith, long, size, ap length begins, length-append read.full (first_of (lines_of (held1 ++ rest))))) in
      record {
        by_setup = λ setup is. let no : None ≡ Some setup = sym none ∙ is in absurd cc;
        without = λ is. (tt, refl);
      }

  -- a read failed in it
  pub failed_replayed : (read : ReadsLine 1048576 first held0 held1 taken0 taken1 s s1 line_ends.Failed) → length first ≤ 1048576 → (o : Told)
      → ((setup : Setup) → WhatHolds setup []) → (rest : List ℕ) → ReplaysFile s1.taken rest o o Failed
  failed_replayed read short o holds rest =
      let taken : s1.taken ≡ read.full = taken_is line_ends.Failed read ∙ read.ends.0 in
      let whole : after_first (whole_lines s1.taken) ≡ [] = ap (λ t. after_first (whole_lines t)) taken ∙ ap after_first (whole_none read.full read.is_line) in
      let few = short_line 1048576 first read.full (read.kept (λ no. cc)) short in
      record {
        by_setup = λ setup is. none_replayed setup (after_first (whole_lines s1.taken)) (after_first (lines_of (s1.taken ++ rest))) o Failed
            (tt, refl, whole) (holds setup);
        without = λ is. ((subst IsLine (sym taken) read.is_line, omega (arith, few, ap length taken)), refl);
      }

  -- as many bytes as may be were taken in it: it would have been too long before
  pub full_replayed : (read : ReadsLine 1048576 first held0 held1 taken0 taken1 s s1 line_ends.Full) → length first ≤ 1048576 → taken1 ≡ 1073741824 → (o : Told)
      → (rest : List ℕ) → ReplaysFile s1.taken rest o o TooLong
  full_replayed read short all o rest =
      let few = short_line 1048576 first read.full (read.kept (λ no. cc)) short in
      absurd (omega (arith, few, all, ap length read.ends.0, ap length (taken_is line_ends.Full read), took_first line_ends.Full read))

-- memory ran out in it
pub starved_replayed : (taken rest : List ℕ) (o : Told) → ((setup : Setup) → WhatHolds setup []) → ReplaysFile taken rest o o Memory
starved_replayed taken rest o holds = record {
  by_setup = λ setup is. none_replayed setup (after_first (whole_lines taken)) (after_first (lines_of (taken ++ rest))) o Memory (refl, inl tt) (holds setup);
  without = λ is. (tt, refl);
}
