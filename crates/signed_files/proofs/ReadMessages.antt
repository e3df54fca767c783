-- The message that a file is, from what was read of it.
use Rattle.std.proofs.Common.{◌≡◌, ◌≢◌, ◌∙◌, ℕ, List, [], ◌∷◌, ◌++◌, refl, ap, sym, subst, append_assoc}
use Rattle.std.specs.Prelude.{◌↔◌, Bool, true, false, IsTrue, Option, Some, None, Result, Ok, Err, IfSome, codes}
use Rattle.std.specs.Borrow.{Bor}
use Rattle.std.proofs.lemmas.List.{append-nil}
use Rattle.outside.specs.declared.device.Failed.{Failed}
use Rattle.outside.specs.Outside.{Told, IsAtEnd, IsRest}
use Rattle.bytes_and_lists.specs.declared.message.Message.{Message}
use Rattle.http_edge.specs.declared.fault.EdgeFault.{EdgeFault}
use Rattle.http_edge.specs.declared.fault.EdgeFault.TheVariants as edge
use Rattle.http_edge.specs.Streams.{IsMessage, IsRefusedFor, IsOpen}
use Rattle.http_edge.specs.Reads.{IsNextMessage}
use Rattle.http_edge.specs.Laws.{MessageStays, RefusalStays}
use Rattle.signed_files.specs.declared.fault.FileFault.{FileFault}
use Rattle.signed_files.specs.declared.fault.FileFault.TheVariants.{Refused, ReadFault, OutOfMemory}
use Rattle.signed_files.specs.MessageFiles.{IsMessageFile, message, bad_head, too_large, coded, unfinished, empty, followed, GivesMessage, HasEdgeFault, HasMore}

-- ---- what a source told

-- nothing is left at the end
none_left : (told : Told) (rest : List ℕ) → IsRest told rest → IsAtEnd told → rest ≡ []
none_left told rest known end = subst (λ (left : Option (List ℕ)). IfSome left (λ l. rest ≡ l)) end known

-- ---- faults by their names

named : (text : List ℕ) (fault : FileFault) (word : List ℕ) → (name : Bor (List ℕ)) × (fault ≡ Refused name) × (name.now ≡ word) → IsMessageFile text (Err word)
    → GivesMessage text (Err fault)
named text fault word has file =
    subst (λ (f : FileFault). GivesMessage text (Err f)) (sym has.1) (subst (λ (w : List ℕ). IsMessageFile text (Err w)) (sym has.2) file)

-- ---- what was read of a file of which nothing was held and nothing read yet

module _ (held held_now : List ℕ) (s s1 : Told) (none_held : held ≡ []) (fresh : s.taken ≡ []) where
  came_is : (answer : Result (Option Message) EdgeFault) (read : IsNextMessage held held_now s s1 answer) → held ++ read.came ≡ s1.taken
  came_is answer read = ap (λ h. h ++ read.came) (none_held ∙ sym fresh) ∙ sym read.takes.taken

  refused_at : (stays : RefusalStays) (fault : EdgeFault) (read : IsNextMessage held held_now s s1 (Err fault)) → IsRefusedFor (held ++ read.came) fault
      → (rest : List ℕ) → IsRefusedFor (s1.taken ++ rest) fault
  refused_at stays fault read refused rest = (stays s1.taken rest fault (subst (λ b. IsRefusedFor b fault) (came_is (Err fault) read) refused)).0

  pub fault_read : (stays : RefusalStays) (fault : EdgeFault) → IsNextMessage held held_now s s1 (Err fault) → (result : FileFault) → HasEdgeFault fault result
      → (rest : List ℕ) → IsRest s1 rest → GivesMessage (s1.taken ++ rest) (Err result)
  fault_read stays edge.BadHead read result has rest known = named _ result _ has (bad_head (refused_at stays edge.BadHead read read.answers.1 rest))
  fault_read stays edge.TooLarge read result has rest known = named _ result _ has (too_large (refused_at stays edge.TooLarge read read.answers.1 rest))
  fault_read stays edge.Coded read result has rest known = named _ result _ has (coded (refused_at stays edge.Coded read read.answers.1 rest))
  fault_read stays edge.Truncated read result has rest known =
      let all : s1.taken ++ rest ≡ held ++ read.came
      = ap (λ r. s1.taken ++ r) (none_left s1 rest known read.answers.1.2) ∙ append-nil s1.taken ∙ sym (came_is (Err edge.Truncated) read) in
      named _ result _ has (unfinished (subst IsOpen (sym all) read.answers.1.0))
  fault_read stays edge.ReadFault read result has rest known = subst (λ (f : FileFault). GivesMessage (s1.taken ++ rest) (Err f)) (sym has) tt
  fault_read stays edge.OutOfMemory read result has rest known = subst (λ (f : FileFault). GivesMessage (s1.taken ++ rest) (Err f)) (sym has) tt

  pub none_read : (o : Option Message) → o ≡ None → IsNextMessage held held_now s s1 (Ok o) → (rest : List ℕ) → IsRest s1 rest
      → IsMessageFile (s1.taken ++ rest) (Err (codes "Truncated"))
  none_read o is found rest known =
      let read = subst (λ (x : Option Message). IsNextMessage held held_now s s1 (Ok x)) is found in
      empty (ap (λ r. s1.taken ++ r) (none_left s1 rest known read.answers.2) ∙ append-nil s1.taken ∙ sym (came_is (Ok None) read) ∙ read.answers.0)

  module _ (stays : MessageStays) (m : Message) (o : Option Message) (some_is : o ≡ Some m) (found : IsNextMessage held held_now s s1 (Ok o)) where
    read : IsNextMessage held held_now s s1 (Ok (Some m))
    read = subst (λ (x : Option Message). IsNextMessage held held_now s s1 (Ok x)) some_is found

    begins : IsMessage s1.taken m held_now
    begins = subst (λ b. IsMessage b m held_now) (came_is (Ok (Some m)) read) read.answers

    behind : (more : List ℕ) → IsMessage s1.taken m more → more ≢ [] → (rest : List ℕ) → IsMessageFile (s1.taken ++ rest) (Err (codes "BadHead"))
    behind [] is some rest = absurd (some refl)
    behind (byte ∷ more) is some rest = followed m byte (more ++ rest) (stays s1.taken rest m (byte ∷ more) is)

    -- bytes were held behind it
    pub held_behind : (empty_now : Bool) → IsTrue empty_now ↔ (held_now ≡ []) → empty_now ≡ false → (rest : List ℕ)
        → IsMessageFile (s1.taken ++ rest) (Err (codes "BadHead"))
    held_behind empty_now tells is rest = behind held_now begins (λ none. let yes = tells.1 none in absurd cc) rest

    module _ (empty_now : Bool) (tells : IsTrue empty_now ↔ (held_now ≡ [])) (is : empty_now ≡ true) (s2 : Told) where
      whole : IsMessage s1.taken m []
      whole = subst (λ h. IsMessage s1.taken m h) (tells.0 is) begins

      -- a byte came behind it
      pub came_behind : (more : Bool) → more ≡ true → (let r : Result Bool Failed = Ok more in HasMore s1 s2 r) → (rest : List ℕ)
          → IsMessageFile (s2.taken ++ rest) (Err (codes "BadHead"))
      came_behind more is_so has rest =
          let H : Bool → Type 0 = λ b. (let r : Result Bool Failed = Ok b in HasMore s1 s2 r) in
          let came = subst H is_so has in
          let text : s2.taken ++ rest ≡ s1.taken ++ (came.0 ∷ (came.1 ++ rest)) = ap (λ t. t ++ rest) came.2.taken
          ∙ append_assoc s1.taken (came.0 ∷ came.1) rest in
          subst (λ t. IsMessageFile t (Err (codes "BadHead"))) (sym text)
          (followed m came.0 (came.1 ++ rest) (stays s1.taken (came.0 ∷ (came.1 ++ rest)) m [] whole))

      -- nothing follows it
      pub alone : (more : Bool) → more ≡ false → (let r : Result Bool Failed = Ok more in HasMore s1 s2 r) → (rest : List ℕ) → IsRest s2 rest
          → IsMessageFile (s2.taken ++ rest) (Ok m)
      alone more is_so has rest known =
          let H : Bool → Type 0 = λ b. (let r : Result Bool Failed = Ok b in HasMore s1 s2 r) in
          let none = subst H is_so has in
          let text : s2.taken ++ rest ≡ s1.taken
          = ap (λ r. s2.taken ++ r) (none_left s2 rest known none.1) ∙ append-nil s2.taken ∙ none.0.taken ∙ append-nil s1.taken in
          subst (λ t. IsMessageFile t (Ok m)) (sym text) (message m whole)
