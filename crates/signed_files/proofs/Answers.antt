-- The answer to a file, from that to its message.
use Rattle.std.proofs.Common.{◌≡◌, ◌≢◌, ℕ, List, [], refl, sym, subst}
use Rattle.std.specs.Prelude.{◌↔◌, Bool, true, false, Result, Ok, Err}
use Rattle.bytes_and_lists.specs.declared.message.Message.{Message}
use Rattle.message_signature.specs.declared.fault.SignFault.{SignFault}
use Rattle.message_signature.specs.declared.fault.SignFault.TheVariants.{HasSignature}
use Rattle.signed_files.specs.declared.fault.FileFault.{FileFault}
use Rattle.signed_files.specs.declared.fault.FileFault.TheVariants.{Refused, ReadFault, OutOfMemory}
use Rattle.signed_files.specs.MessageFiles.{IsMessageFile, AnswersFile, to_message, no_message, Gives, GivesMessage, CountsReadFault}

-- what is signed had no signature
pub unsigned : (b : Bool) (u : Unit {0}) → (let r : Result (Unit {0}) SignFault = Ok u in (r ≡ Err HasSignature) ↔ (b ≡ true)) → b ≡ false
unsigned true u tells = let no = tells.1 refl in absurd cc
unsigned false u tells = refl

module _ (answers : Message → Result (List ℕ) (List ℕ) → Type 0) (text : List ℕ) where
  pub of_message : (m : Message) (result : Result (List ℕ) FileFault) → IsMessageFile text (Ok m) → Gives (answers m) result
      → Gives (AnswersFile answers text) result
  of_message m (Ok answer) file is = to_message m (Ok answer) file is
  of_message m (Err (Refused name)) file is = to_message m (Err name.now) file is
  of_message m (Err ReadFault) file is = tt
  of_message m (Err OutOfMemory) file is = tt

  fails : (fault : FileFault) → GivesMessage text (Err fault) → Gives {X = List ℕ} (AnswersFile answers text) (Err fault)
  fails (Refused name) file = no_message name.now file
  fails ReadFault file = tt
  fails OutOfMemory file = tt

  pub of_none : (fault : FileFault) (result : Result (List ℕ) FileFault) → GivesMessage text (Err fault) → result ≡ Err fault
      → Gives (AnswersFile answers text) result
  of_none fault result file is = subst (λ (r : Result (List ℕ) FileFault). Gives (AnswersFile answers text) r) (sym is) (fails fault file)

pub counts_none : (result : Result (List ℕ) FileFault) (faults faults_now : ℕ) → result ≢ Err ReadFault → faults_now ≡ faults
    → CountsReadFault result faults faults_now
counts_none (Ok text) faults faults_now unread same = same
counts_none (Err (Refused name)) faults faults_now unread same = same
counts_none (Err ReadFault) faults faults_now unread same = absurd (unread refl)
counts_none (Err OutOfMemory) faults faults_now unread same = same
