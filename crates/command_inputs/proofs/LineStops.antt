-- A line of lines that have their turns: it came to its end, or its reading stopped.
use Rattle.std.proofs.Common.{◌≡◌, ◌≢◌, ◌∙◌, ℕ, ◌<◌, ◌≤◌, List, [], ◌∷◌, ◌++◌, length, refl, ap, subst, arith, append_assoc, length-append}
use Rattle.std.specs.Prelude.{true, false, Some, None}
use Rattle.std.proofs.lemmas.List.{append-nil}
use Rattle.outside.specs.Outside.{Told, IsAtEnd, IsRest, Rose}
use Rattle.histories.specs.Turns.{Turn}
use Rattle.command_inputs.specs.declared.ended.Ended.{Ended}
use Rattle.command_inputs.specs.declared.ended.Ended.TheVariants.{TooLong, Failed, Memory}
use Rattle.command_inputs.specs.declared.line_end.LineEnd.{LineEnd}
use Rattle.command_inputs.specs.declared.line_end.LineEnd.TheVariants as line_ends
use Rattle.command_inputs.specs.Ends.{CountsReads, CountsWrites, EndsAt}
use Rattle.command_inputs.specs.Lines.{lines_of}
use Rattle.command_inputs.specs.Reading.{EndsBy, ReadsLine, CountsFault, CountsTaken}
use Rattle.command_inputs.specs.LineRuns.{EndsAs, GoesOn, RunsLines, stopped, is_last}
use Rattle.command_inputs.proofs.LineTexts.{line_ended, line_last}
use Rattle.command_inputs.proofs.LineRuns.{none_left, stops-failed, stops-full, stops-starved}

-- ---- how it ended

pub not_starved : (end : LineEnd) → stopped end ≡ None → end ≢ line_ends.Memory
not_starved end none is = let no : Some Memory ≡ None = subst (λ (e : LineEnd). stopped e ≡ None) is none in absurd cc

-- where no line is too long
pub not_long : (end : LineEnd) {A : Type 0} → (end ≡ line_ends.Long → (true ≡ false) × A) → end ≢ line_ends.Long
not_long end long = λ is. (let no : true ≡ false = (long is).0 in absurd cc)

pub is_whole : (end : LineEnd) → stopped end ≡ None → is_last end ≡ false → end ≢ line_ends.Long → end ≡ line_ends.Whole
is_whole line_ends.Whole none last short = refl
is_whole line_ends.Last none last short = absurd cc
is_whole line_ends.Long none last short = absurd (short refl)
is_whole line_ends.Full none last short = absurd cc
is_whole line_ends.Failed none last short = absurd cc
is_whole line_ends.Memory none last short = absurd cc

pub is_at_end : (end : LineEnd) → is_last end ≡ true → end ≡ line_ends.Last
is_at_end line_ends.Whole last = absurd cc
is_at_end line_ends.Last last = refl
is_at_end line_ends.Long last = absurd cc
is_at_end line_ends.Full last = absurd cc
is_at_end line_ends.Failed last = absurd cc
is_at_end line_ends.Memory last = absurd cc

-- the counts of a command that ends there
pub read_counts : (end : LineEnd) (faults faults_now : ℕ) → stopped end ≡ None → CountsFault end faults faults_now → faults_now ≡ faults
read_counts line_ends.Whole faults faults_now none counts = counts
read_counts line_ends.Last faults faults_now none counts = counts
read_counts line_ends.Long faults faults_now none counts = counts
read_counts line_ends.Full faults faults_now none counts = counts
read_counts line_ends.Failed faults faults_now none counts = absurd cc
read_counts line_ends.Memory faults faults_now none counts = counts

pub stopped_reads : (end : LineEnd) (ended : Ended) (faults faults_then faults_now : ℕ) → stopped end ≡ Some ended → faults_then ≡ faults
    → CountsFault end faults_then faults_now → CountsReads ended faults faults_now
stopped_reads line_ends.Whole ended faults faults_then faults_now is same counts = absurd cc
stopped_reads line_ends.Last ended faults faults_then faults_now is same counts = absurd cc
stopped_reads line_ends.Long ended faults faults_then faults_now is same counts = absurd cc
stopped_reads line_ends.Full ended faults faults_then faults_now is same counts =
    let at : TooLong ≡ ended = cc in subst (λ (e : Ended). CountsReads e faults faults_now) at (counts ∙ same)
stopped_reads line_ends.Failed ended faults faults_then faults_now is same counts =
    let at : Failed ≡ ended = cc in subst (λ (e : Ended). CountsReads e faults faults_now) at (subst (λ n. Rose n faults_now) same counts)
stopped_reads line_ends.Memory ended faults faults_then faults_now is same counts =
    let at : Memory ≡ ended = cc in subst (λ (e : Ended). CountsReads e faults faults_now) at (counts ∙ same)

pub stopped_writes : (end : LineEnd) (ended : Ended) (faults faults_now : ℕ) → stopped end ≡ Some ended → faults_now ≡ faults
    → CountsWrites ended faults faults_now
stopped_writes line_ends.Whole ended faults faults_now is same = absurd cc
stopped_writes line_ends.Last ended faults faults_now is same = absurd cc
stopped_writes line_ends.Long ended faults faults_now is same = absurd cc
stopped_writes line_ends.Full ended faults faults_now is same = let at : TooLong ≡ ended = cc in subst (λ (e : Ended). CountsWrites e faults faults_now) at same
stopped_writes line_ends.Failed ended faults faults_now is same = let at : Failed
    ≡ ended = cc in subst (λ (e : Ended). CountsWrites e faults faults_now) at same
stopped_writes line_ends.Memory ended faults faults_now is same = let at : Memory
    ≡ ended = cc in subst (λ (e : Ended). CountsWrites e faults faults_now) at same

pub stopped_at : (end : LineEnd) (ended : Ended) (taken : ℕ) (told : Told) → stopped end ≡ Some ended → CountsTaken end taken → EndsAt ended taken told
stopped_at line_ends.Whole ended taken told is counts = absurd cc
stopped_at line_ends.Last ended taken told is counts = absurd cc
stopped_at line_ends.Long ended taken told is counts = absurd cc
stopped_at line_ends.Full ended taken told is counts = let at : TooLong ≡ ended = cc in subst (λ (e : Ended). EndsAt e taken told) at counts
stopped_at line_ends.Failed ended taken told is counts = let at : Failed ≡ ended = cc in subst (λ (e : Ended). EndsAt e taken told) at counts
stopped_at line_ends.Memory ended taken told is counts = let at : Memory ≡ ended = cc in subst (λ (e : Ended). EndsAt e taken told) at tt

pub last_counts : (end : LineEnd) (taken : ℕ) → is_last end ≡ true → CountsTaken end taken → taken < 1073741824
last_counts end taken last counts = subst (λ (e : LineEnd). CountsTaken e taken) (is_at_end end last) counts

-- ---- what that is of the lines

module _ {E : Type 0} (Had : List (Turn (List ℕ) E) → Type 0) (held held1 : List ℕ) (taken taken1 : ℕ) (s s1 o o1 : Told)
    (goes : GoesOn Had held held1 taken taken1 s s1 o o1) (limit : ℕ) (line held2 : List ℕ) (taken2 : ℕ) (s2 : Told) where
  -- its reading stopped
  pub stops-at : (end : LineEnd) (ended : Ended) → stopped end ≡ Some ended → ReadsLine limit line held1 held2 taken1 taken2 s1 s2 end
      → RunsLines Had EndsAs held taken taken2 s s2 o o1 ended
  stops-at line_ends.Whole ended is read = absurd cc
  stops-at line_ends.Last ended is read = absurd cc
  stops-at line_ends.Long ended is read = absurd cc
  stops-at line_ends.Full ended is read =
      let at : TooLong ≡ ended = cc in
      subst (λ (e : Ended). RunsLines Had EndsAs held taken taken2 s s2 o o1 e) at
      (stops-full Had held held1 taken taken1 s s1 o o1 goes read.bytes taken2 s2 read.came o1 refl read.full read.is_line read.ends.0)
  stops-at line_ends.Failed ended is read =
      let at : Failed ≡ ended = cc in
      subst (λ (e : Ended). RunsLines Had EndsAs held taken taken2 s s2 o o1 e) at
      (stops-failed Had held held1 taken taken1 s s1 o o1 goes read.bytes taken2 s2 read.came o1 refl read.full read.is_line read.ends.0)
  stops-at line_ends.Memory ended is read =
      let at : Memory ≡ ended = cc in
      subst (λ (e : Ended). RunsLines Had EndsAs held taken taken2 s s2 o o1 e) at
      (stops-starved Had held held1 taken taken1 s s1 o o1 goes read.bytes taken2 s2 read.came o1 refl)

-- ---- a line that came to its end

module _ (limit : ℕ) (line held held2 : List ℕ) (taken taken2 : ℕ) (s s2 : Told) where
  pub whole_parts : (end : LineEnd) → stopped end ≡ None → is_last end ≡ false → end ≢ line_ends.Long
      → (read : ReadsLine limit line held held2 taken taken2 s s2 end)
      → held ++ read.bytes ≡ read.full ++ 10 ∷ held2
  whole_parts end none last short read = subst (λ (e : LineEnd). EndsBy e (held ++ read.bytes) read.full held2 s2) (is_whole end none last short) read.ends

  pub last_parts : (end : LineEnd) → is_last end ≡ true → (read : ReadsLine limit line held held2 taken taken2 s s2 end)
      → (held ++ read.bytes ≡ read.full) × (held2 ≡ []) × IsAtEnd s2
  last_parts end last read = subst (λ (e : LineEnd). EndsBy e (held ++ read.bytes) read.full held2 s2) (is_at_end end last) read.ends

  -- other lines follow, or none
  pub line_later : (end : LineEnd) → stopped end ≡ None → end ≢ line_ends.Long → (read : ReadsLine limit line held held2 taken taken2 s s2 end)
      → (rest : List ℕ) → IsRest s2 rest → (later : List (List ℕ)) × (lines_of (held ++ read.bytes ++ rest) ≡ read.full ∷ later)
  line_later line_ends.Whole none short read rest known = (
    lines_of (held2 ++ rest),
    ap (λ x. lines_of (x ++ rest)) read.ends ∙ ap lines_of (append_assoc read.full (10 ∷ held2) rest)
        ∙ line_ended read.full (held2 ++ rest) read.is_line,
  )
  line_later line_ends.Last none short read rest known = (
    [],
    ap (λ x. lines_of (held ++ read.bytes ++ x)) (none_left s2 rest known read.ends.2) ∙ ap lines_of (append-nil (held ++ read.bytes) ∙ read.ends.0)
        ∙ line_last read.full read.is_line,
  )
  line_later line_ends.Long none short read rest known = absurd (short refl)
  line_later line_ends.Full none short read rest known = absurd cc
  line_later line_ends.Failed none short read rest known = absurd cc
  line_later line_ends.Memory none short read rest known = absurd cc

  -- its bytes are among those that were taken
  pub line_size : (end : LineEnd) → stopped end ≡ None → end ≢ line_ends.Long → (read : ReadsLine limit line held held2 taken taken2 s s2 end)
      → length held ≤ taken → length read.full ≤ taken2
  line_size line_ends.Whole none short read few =
      omega (arith, ap length read.ends, length-append held read.bytes, length-append read.full (10 ∷ held2), few, read.came.counted)
  line_size line_ends.Last none short read few = omega (arith, ap length read.ends.0, length-append held read.bytes, few, read.came.counted)
  line_size line_ends.Long none short read few = absurd (short refl)
  line_size line_ends.Full none short read few = absurd cc
  line_size line_ends.Failed none short read few = absurd cc
  line_size line_ends.Memory none short read few = absurd cc
