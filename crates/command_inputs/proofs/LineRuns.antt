-- Lines that have their turns, and how that ends.
use Rattle.std.proofs.Common.{◌≡◌, ◌∙◌, ℕ, ◌+◌, ◌≤◌, List, [], ◌∷◌, ◌++◌, length, refl, ap, sym, subst, arith, append_assoc, length-append, inl, inr}
use Rattle.std.specs.Prelude.{true, Option, IfSome}
use Rattle.std.proofs.lemmas.List.{append-nil}
use Rattle.bytes_and_lists.specs.Prefixes.{IsPrefix}
use Rattle.outside.specs.Outside.{Told, IsAtEnd, IsRest, Writes}
use Rattle.outside.proofs.Devices.{writes_none, writes_then}
use Rattle.histories.specs.Turns.{Turn, AllOn, messages_in, bytes_in}
use Rattle.histories.proofs.TurnLemmas.{messages_in-append, bytes_in-next, length-next}
use Rattle.command_inputs.specs.declared.ended.Ended.{Ended}
use Rattle.command_inputs.specs.declared.ended.Ended.TheVariants.{Done, Failed, WriteFault, Memory, TooLong}
use Rattle.command_inputs.specs.Lines.{IsLine, lines_of, whole_lines}
use Rattle.command_inputs.specs.Reading.{Came}
use Rattle.command_inputs.specs.LineRuns.{EachFrom, EndsAs, GoesOn, RunsLines, ended_lines, AreLines}
use Rattle.command_inputs.proofs.Reading.{came-none, came-more}
use Rattle.command_inputs.proofs.LineTexts.{line_last, lines_ended, whole_ended, whole_none, ended-next, lines-next}

pub none_left : (s : Told) (rest : List ℕ) → IsRest s rest → IsAtEnd s → rest ≡ []
none_left s rest known end = subst (λ (left : Option (List ℕ)). IfSome left (λ l. rest ≡ l)) end known

module _ {E : Type 0} where
  unfoldable pub goes-start : (Had : List (Turn (List ℕ) E) → Type 0) (held : List ℕ) (taken : ℕ) (source out : Told)
      → Had [] → length held ≤ taken → GoesOn Had held held taken taken source source out out
  goes-start Had held taken source out had few = record {
    turns = [];
    had = had;
    on = tt;
    bytes = [];
    came = came-none taken source;
    are_lines = tt;
    parts = append-nil held;
    few = omega (arith, few);
    prints = writes_none out;
  }

  pub on-next : (turns : List (Turn (List ℕ) E)) (turn : Turn (List ℕ) E) → AllOn turns → turn.on ≡ true → AllOn (turns ++ turn ∷ [])
  on-next [] turn all on = (on, tt)
  on-next (first ∷ turns) turn all on = (all.0, on-next turns turn all.1 on)

  pub each_from-next : (P : ℕ → Turn (List ℕ) E → Type 0) (number : ℕ) (turns : List (Turn (List ℕ) E)) (turn : Turn (List ℕ) E)
      → EachFrom number P turns → P (number + length turns) turn → EachFrom number P (turns ++ turn ∷ [])
  each_from-next P number [] turn each is = let same : number + 0 ≡ number = omega arith in (subst (λ (n : ℕ). P n turn) same is, tt)
  each_from-next P number (first ∷ turns) turn each is =
      let place : number + length (first ∷ turns) ≡ number + 1 + length turns = omega arith in
      (each.0, each_from-next P (number + 1) turns turn each.1 (subst (λ (n : ℕ). P n turn) place is))

  module _ (Had : List (Turn (List ℕ) E) → Type 0) (held held1 : List ℕ) (taken taken1 : ℕ) (s s1 o o1 : Told)
      (goes : GoesOn Had held held1 taken taken1 s s1 o o1) where
    pub came_next : (bytes : List ℕ) (taken2 : ℕ) (s2 : Told) → Came bytes taken1 taken2 s1 s2 → Came (goes.bytes ++ bytes) taken taken2 s s2
    came_next bytes taken2 s2 came = came-more goes.bytes bytes taken taken1 taken2 s s1 s2 goes.came came.takes came.counted

    pub whole_next : (bytes : List ℕ) → held ++ (goes.bytes ++ bytes) ≡ ended_lines (messages_in goes.turns) ++ (held1 ++ bytes)
    whole_next bytes = sym (append_assoc held goes.bytes bytes) ∙ ap (λ x. x ++ bytes) goes.parts
        ∙ append_assoc (ended_lines (messages_in goes.turns)) held1 bytes

    -- the lines of the whole are those that had their turns, and those of the rest
    lines_next : (bytes left : List ℕ) → lines_of (held ++ (goes.bytes ++ bytes) ++ left) ≡ messages_in goes.turns ++ lines_of (held1 ++ bytes ++ left)
    lines_next bytes left =
        ap lines_of (ap (λ x. x ++ left) (whole_next bytes) ∙ append_assoc (ended_lines (messages_in goes.turns)) (held1 ++ bytes) left)
        ∙ lines_ended (messages_in goes.turns) (held1 ++ bytes ++ left) goes.are_lines

    -- those that were read whole are those that had their turns, and those of the rest
    whole_lines_next : (bytes : List ℕ) → whole_lines (held ++ (goes.bytes ++ bytes)) ≡ messages_in goes.turns ++ whole_lines (held1 ++ bytes)
    whole_lines_next bytes = ap whole_lines (whole_next bytes) ∙ whole_ended (messages_in goes.turns) (held1 ++ bytes) goes.are_lines

    -- it ended while a line was read
    module _ (bytes : List ℕ) (taken2 : ℕ) (s2 : Told) (came : Came bytes taken1 taken2 s1 s2) (o2 : Told) (out : o2 ≡ o1) where
      -- these lines are left
      stops_with : (Ends : Ended → List (Turn (List ℕ) E) → List (List ℕ) → List (List ℕ) → List ℕ → Type 0) (ended : Ended)
          → ((rest : List ℕ) → IsRest s2 rest
          → Ends ended goes.turns (whole_lines (held ++ (goes.bytes ++ bytes))) (lines_of (held1 ++ bytes ++ rest)) (bytes_in goes.turns))
          → RunsLines Had Ends held taken taken2 s s2 o o2 ended
      stops_with Ends ended ends = record {
        turns = goes.turns;
        had = goes.had;
        few = omega (arith, goes.few, came.counted);
        bytes = goes.bytes ++ bytes;
        came = came_next bytes taken2 s2 came;
        sent = bytes_in goes.turns;
        prints = subst (λ (t : Told). Writes (bytes_in goes.turns) o t) (sym out) goes.prints;
        lines = λ rest known. (lines_of (held1 ++ bytes ++ rest), lines_next bytes rest, ends rest known);
      }

      stops : (ended : Ended) → ((later : List (List ℕ)) → EndsAs ended goes.turns (whole_lines (held ++ (goes.bytes ++ bytes))) later (bytes_in goes.turns))
          → RunsLines Had EndsAs held taken taken2 s s2 o o2 ended
      stops ended ends = stops_with EndsAs ended (λ rest known. ends (lines_of (held1 ++ bytes ++ rest)))

      -- nothing stands behind the last line
      pub stops-behind : (Ends : Ended → List (Turn (List ℕ) E) → List (List ℕ) → List (List ℕ) → List ℕ → Type 0) (ended : Ended)
          → held1 ++ bytes ≡ [] → IsAtEnd s2 → Ends ended goes.turns (whole_lines (held ++ (goes.bytes ++ bytes))) ([] ∷ []) (bytes_in goes.turns)
          → RunsLines Had Ends held taken taken2 s s2 o o2 ended
      stops-behind Ends ended none end ends = stops_with Ends ended (λ rest known.
          let left : rest ≡ [] = none_left s2 rest known end in
          let same : lines_of (held1 ++ bytes ++ rest) ≡ [] ∷ [] = ap (λ (x : List ℕ). lines_of (held1 ++ bytes ++ x)) left
          ∙ ap lines_of (append-nil (held1 ++ bytes) ∙ none) in
          subst (λ (ls : List (List ℕ)). Ends ended goes.turns (whole_lines (held ++ (goes.bytes ++ bytes))) ls (bytes_in goes.turns)) (sym same) ends)

      -- what was read of a line is no whole line
      module _ (full : List ℕ) (is_line : IsLine full) (parts : held1 ++ bytes ≡ full) where
        all_turned : whole_lines (held ++ (goes.bytes ++ bytes)) ≡ messages_in goes.turns
        all_turned = whole_lines_next bytes
            ∙ ap (λ ls. messages_in goes.turns ++ ls) (ap whole_lines parts ∙ whole_none full is_line) ∙ append-nil (messages_in goes.turns)

        pub stops-failed : RunsLines Had EndsAs held taken taken2 s s2 o o2 Failed
        stops-failed = stops Failed (λ later. (goes.on, refl, all_turned))

        pub stops-full : RunsLines Had EndsAs held taken taken2 s s2 o o2 TooLong
        stops-full = stops TooLong (λ later. (goes.on, refl, all_turned))

      pub stops-starved : RunsLines Had EndsAs held taken taken2 s s2 o o2 Memory
      stops-starved = stops Memory (λ later. (refl, inl goes.on))

    -- a line had its turn
    module _ (full bytes : List ℕ) (taken2 : ℕ) (s2 : Told) (came : Came bytes taken1 taken2 s1 s2) (is_line : IsLine full) (o2 : Told)
        (Now : List (Turn (List ℕ) E) → Type 0) (turn : Turn (List ℕ) E) (had_now : Now (goes.turns ++ turn ∷ [])) (message : turn.message ≡ full) where
      pub messages_now : messages_in (goes.turns ++ turn ∷ []) ≡ messages_in goes.turns ++ full ∷ []
      messages_now = messages_in-append goes.turns (turn ∷ []) ∙ ap (λ m. messages_in goes.turns ++ m ∷ []) message

      few_now : length (goes.turns ++ turn ∷ []) ≤ taken2 + 1
      few_now = omega (arith, length-next goes.turns turn, goes.few, came.counted)

      -- where its end came before or with the end of the input: what follows it
      pub turned : (Ends : Ended → List (Turn (List ℕ) E) → List (List ℕ) → List (List ℕ) → List ℕ → Type 0) (ended : Ended) (sent : List ℕ) → Writes sent o o2
          → ((rest : List ℕ) → IsRest s2 rest → (later : List (List ℕ)) × (lines_of (held1 ++ bytes ++ rest) ≡ full ∷ later)
          × Ends ended (goes.turns ++ turn ∷ []) (whole_lines (held ++ (goes.bytes ++ bytes))) later sent)
          → RunsLines Now Ends held taken taken2 s s2 o o2 ended
      turned Ends ended sent prints ends = record {
        turns = goes.turns ++ turn ∷ [];
        had = had_now;
        few = few_now;
        bytes = goes.bytes ++ bytes;
        came = came_next bytes taken2 s2 came;
        sent = sent;
        prints = prints;
        lines = λ rest known. let l = ends rest known in (
          l.0,
          lines_next bytes rest ∙ ap (λ ls. messages_in goes.turns ++ ls) l.1 ∙ sym (append_assoc (messages_in goes.turns) (full ∷ []) l.0)
              ∙ ap (λ ms. ms ++ l.0) (sym messages_now),
          l.2,
        );
      }

      pub out_on : Writes turn.bytes o1 o2 → Writes (bytes_in (goes.turns ++ turn ∷ [])) o o2
      out_on prints = subst (λ (b : List ℕ). Writes b o o2) (sym (bytes_in-next goes.turns turn))
          (writes_then (bytes_in goes.turns) turn.bytes o o1 o2 goes.prints prints)

      -- more lines may follow
      unfoldable pub goes-next : (held2 : List ℕ) → held1 ++ bytes ≡ full ++ 10 ∷ held2 → turn.on ≡ true → Writes turn.bytes o1 o2
          → GoesOn Now held held2 taken taken2 s s2 o o2
      goes-next held2 whole on prints = record {
        turns = goes.turns ++ turn ∷ [];
        had = had_now;
        on = on-next goes.turns turn goes.on on;
        bytes = goes.bytes ++ bytes;
        came = came_next bytes taken2 s2 came;
        are_lines = subst AreLines (sym messages_now) (lines-next (messages_in goes.turns) full goes.are_lines is_line);
        parts = whole_next bytes ∙ ap (λ x. ended_lines (messages_in goes.turns) ++ x) (whole ∙ sym (append_assoc full (10 ∷ []) held2))
            ∙ sym (append_assoc (ended_lines (messages_in goes.turns)) (full ++ 10 ∷ []) held2)
            ∙ ap (λ x. x ++ held2) (sym (ended-next (messages_in goes.turns) full)) ∙ ap (λ ms. ended_lines ms ++ held2) (sym messages_now);
        few = omega (arith, length-next goes.turns turn, goes.few, came.counted, ap length whole, length-append held1 bytes, length-append full (10 ∷ held2));
        prints = out_on prints;
      }

      pub after_last : (left : List ℕ) → held1 ++ bytes ≡ full → left ≡ [] → lines_of (held1 ++ bytes ++ left) ≡ full ∷ []
      after_last left whole none = ap (λ x. lines_of (held1 ++ bytes ++ x)) none ∙ ap lines_of (append-nil (held1 ++ bytes) ∙ whole) ∙ line_last full is_line

      -- how the line ended: an LF, or the end of the input
      pub turned-done : held1 ++ bytes ≡ full → IsAtEnd s2 → turn.on ≡ true → Writes turn.bytes o1 o2 → RunsLines Now EndsAs held taken taken2 s s2 o o2 Done
      turned-done whole end on prints = turned EndsAs Done (bytes_in (goes.turns ++ turn ∷ [])) (out_on prints)
          (λ rest known. ([], after_last rest whole (none_left s2 rest known end), (on-next goes.turns turn goes.on on, refl, refl)))

      module _ (ends : (rest : List ℕ) → IsRest s2 rest → (later : List (List ℕ)) × (lines_of (held1 ++ bytes ++ rest) ≡ full ∷ later)) where
        pub turned-starved : (o2 ≡ o1) × (turn.bytes ≡ []) → RunsLines Now EndsAs held taken taken2 s s2 o o2 Memory
        turned-starved nothing = turned EndsAs Memory (bytes_in goes.turns) (subst (λ (t : Told). Writes (bytes_in goes.turns) o t) (sym nothing.0) goes.prints)
            (λ rest known. let l = ends rest known in (
              l.0,
              l.1,
              (
                sym (bytes_in-next goes.turns turn ∙ ap (λ b. bytes_in goes.turns ++ b) nothing.1 ∙ append-nil (bytes_in goes.turns)),
                inr (goes.turns, turn, record { is = refl; before = goes.on }),
              ),
            ))

        pub turned-cut : ((part : List ℕ) × IsPrefix part turn.bytes × Writes part o1 o2) → RunsLines Now EndsAs held taken taken2 s s2 o o2 WriteFault
        turned-cut cut = turned EndsAs WriteFault (bytes_in goes.turns ++ cut.0)
            (writes_then (bytes_in goes.turns) cut.0 o o1 o2 goes.prints cut.2)
            (λ rest known. let l = ends rest known in
            (l.0, l.1, (goes.turns, turn, record { is = refl; before = goes.on }, record { part = cut.0; is_prefix = cut.1; is = refl })))

  -- memory ran out before the first line
  pub runs-starved : (Had : List (Turn (List ℕ) E) → Type 0) (held : List ℕ) (taken : ℕ) (s o : Told)
      → Had [] → length held ≤ taken → RunsLines Had EndsAs held taken taken s s o o Memory
  runs-starved Had held taken s o had few =
      stops-starved Had held held taken taken s s o o (goes-start Had held taken s o had few) [] taken s (came-none taken s) o refl

  -- more is known of the turns, and of how they ended
  pub runs-weaker : (Had More : List (Turn (List ℕ) E) → Type 0)
      (Ends Ended2 : Ended → List (Turn (List ℕ) E) → List (List ℕ) → List (List ℕ) → List ℕ → Type 0)
      (held : List ℕ) (taken taken2 : ℕ) (s s2 o o2 : Told) (ended ended2 : Ended)
      → ((turns : List (Turn (List ℕ) E)) → Had turns → More turns)
      → ((turns : List (Turn (List ℕ) E)) (whole later : List (List ℕ)) (sent : List ℕ) → Ends ended turns whole later sent
      → Ended2 ended2 turns whole later sent)
      → RunsLines Had Ends held taken taken2 s s2 o o2 ended → RunsLines More Ended2 held taken taken2 s s2 o o2 ended2
  runs-weaker Had More Ends Ended2 held taken taken2 s s2 o o2 ended ended2 weaker ends r = record {
    turns = r.turns;
    had = weaker r.turns r.had;
    few = r.few;
    bytes = r.bytes;
    came = r.came;
    sent = r.sent;
    prints = r.prints;
    lines = λ rest known. let l = r.lines rest known in (l.0, l.1, ends r.turns _ l.0 r.sent l.2);
  }
