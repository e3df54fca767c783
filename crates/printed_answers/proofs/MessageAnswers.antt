-- The answer to a message file, from what was printed for it.
use Rattle.std.proofs.Common.{◌≡◌, ◌≢◌, ℕ, List, [], refl, sym, subst, ◌⊎◌, inl, inr}
use Rattle.std.specs.Prelude.{Result, Ok, Err}
use Rattle.outside.specs.Outside.{Told}
use Rattle.outside.proofs.Devices.{writes_none}
use Rattle.signed_files.specs.declared.fault.FileFault.{FileFault}
use Rattle.signed_files.specs.declared.fault.FileFault.TheVariants as file_faults
use Rattle.signed_files.specs.MessageFiles.{Gives, CountsReadFault}
use Rattle.command_inputs.specs.declared.ended.Ended.{Ended}
use Rattle.command_inputs.specs.declared.ended.Ended.TheVariants.{Done, NoSetup, Failed, WriteFault, Memory, Refused, TooLong}
use Rattle.command_inputs.specs.Ends.{CountsReads}
use Rattle.command_inputs.specs.Printing.{EndsPrinting, PrintsAnswer}
use Rattle.printed_answers.specs.MessageAnswers.{PrintsFor, PrintsFault, refused_line}
use Rattle.command_inputs.proofs.Printing.{prints_weaker}

module _ (answers : Result (List ℕ) (List ℕ) → Type 0) (before after : Told) (ended : Ended) where
  abbrev pub IsRefusal : List ℕ → Type 0
  IsRefusal line = (name : List ℕ) × answers (Err name) × (line ≡ refused_line name)

  pub prints_text : (text : List ℕ) → answers (Ok text) → PrintsAnswer (λ line. line ≡ text) (λ line. ⊥) before after ended
      → PrintsFor answers before after ended
  prints_text text is prints =
      prints_weaker (λ line. line ≡ text) (λ line. ⊥) (λ line. answers (Ok line)) IsRefusal (λ line same. subst (λ t. answers (Ok t)) (sym same) is)
      (λ line no. absurd no)
      before after ended prints

  nothing : (last : Ended) → EndsPrinting (λ text. answers (Ok text)) IsRefusal last [] → (after ≡ before) × (ended ≡ last)
      → PrintsFor answers before after ended
  nothing last ends is =
      let N : Told → Type 0 = λ told. PrintsFor answers before told last in
      let none : N before = record { sent = []; told = writes_none before; ends = ends } in
      let E : Ended → Type 0 = λ e. PrintsFor answers before after e in
      subst E (sym is.1) (subst N (sym is.0) none)

  pub prints_fault : (fault : FileFault) → Gives answers (Err fault) → PrintsFault fault before after ended → PrintsFor answers before after ended
  prints_fault (file_faults.Refused name) is prints =
      prints_weaker (λ text. ⊥) (λ line. line ≡ refused_line name.now) (λ line. answers (Ok line)) IsRefusal (λ line no. absurd no)
      (λ line same. (name.now, is, same))
      before after ended prints.0
  prints_fault file_faults.ReadFault is prints = nothing Failed refl prints
  prints_fault file_faults.OutOfMemory is prints = nothing Memory refl prints

-- ---- how it ended

pub text_reads : (ended : Ended) (faults faults_now : ℕ) → (ended ≡ Done) ⊎ (ended ≡ WriteFault) → faults_now ≡ faults → CountsReads ended faults faults_now
text_reads ended faults faults_now (inl is) same = subst (λ (e : Ended). CountsReads e faults faults_now) (sym is) same
text_reads ended faults faults_now (inr is) same = subst (λ (e : Ended). CountsReads e faults faults_now) (sym is) same

pub text_unlimited : (ended : Ended) → (ended ≡ Done) ⊎ (ended ≡ WriteFault) → ended ≢ TooLong
text_unlimited ended (inl is) = λ no. let both : Done ≡ TooLong = cc in absurd cc
text_unlimited ended (inr is) = λ no. let both : WriteFault ≡ TooLong = cc in absurd cc

pub fault_reads : (fault : FileFault) (ended : Ended) (before after : Told) (faults faults_now : ℕ) → PrintsFault fault before after ended
    → CountsReadFault {X = List ℕ} (Err fault) faults faults_now → CountsReads ended faults faults_now
fault_reads (file_faults.Refused name) ended before after faults faults_now prints counts = at prints.1
  where
    C : Ended → Type 0
    C e = CountsReads e faults faults_now

    at : (ended ≡ Refused) ⊎ (ended ≡ WriteFault) ⊎ (ended ≡ Memory) → C ended
    at (inl is) = subst C (sym is) counts
    at (inr (inl is)) = subst C (sym is) counts
    at (inr (inr is)) = subst C (sym is) counts
fault_reads file_faults.ReadFault ended before after faults faults_now prints counts = subst (λ (e : Ended). CountsReads e faults faults_now) (sym prints.1)
    counts
fault_reads file_faults.OutOfMemory ended before after faults faults_now prints counts = subst (λ (e : Ended). CountsReads e faults faults_now) (sym prints.1)
    counts

abbrev pub IsFault : Ended → Type 0
IsFault Refused = Unit {0}
IsFault WriteFault = Unit {0}
IsFault Memory = Unit {0}
IsFault Failed = Unit {0}
IsFault Done = ⊥
IsFault (NoSetup why) = ⊥
IsFault TooLong = ⊥

fault_ends : (fault : FileFault) (ended : Ended) (before after : Told) → PrintsFault fault before after ended → IsFault ended
fault_ends (file_faults.Refused name) ended before after prints = at prints.1
  where
    at : (ended ≡ Refused) ⊎ (ended ≡ WriteFault) ⊎ (ended ≡ Memory) → IsFault ended
    at (inl is) = subst IsFault (sym is) tt
    at (inr (inl is)) = subst IsFault (sym is) tt
    at (inr (inr is)) = subst IsFault (sym is) tt
fault_ends file_faults.ReadFault ended before after prints = subst IsFault (sym prints.1) tt
fault_ends file_faults.OutOfMemory ended before after prints = subst IsFault (sym prints.1) tt

pub fault_unlimited : (fault : FileFault) (ended : Ended) (before after : Told) → PrintsFault fault before after ended → ended ≢ TooLong
fault_unlimited fault ended before after prints = λ is. subst IsFault is (fault_ends fault ended before after prints)

pub fault_unfinished : (fault : FileFault) (ended : Ended) (before after : Told) → PrintsFault fault before after ended → ended ≢ Done
fault_unfinished fault ended before after prints = λ is. subst IsFault is (fault_ends fault ended before after prints)
