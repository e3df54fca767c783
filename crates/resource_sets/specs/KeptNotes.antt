-- What holds of the sets of each legal history, and what an answer does to them.
use Rattle.std.specs.Prelude.{ℕ, ◌≡◌, ◌≤◌, ◌+◌, List, [], ◌∷◌, ◌++◌, length, Some}
use Rattle.histories.specs.History.{Answer}
use Rattle.gnap_model.specs.Values.{value_text}
use Rattle.gnap_tables.proofs.Lists.{HasItem}
use Rattle.resource_sets.specs.Sets.{SetNote, SetReply, set_limit, set_of}

-- the note has this serial, and its reference is a value of it
abbrev pub IsOfSerial : ℕ → SetNote → Type 0
IsOfSerial k note = (note.serial ≡ k) × ((a : ℕ) × (b : ℕ) × (note.reference ≡ value_text k a b))

-- the notes have the serials from this one on
abbrev pub AreNumbered : ℕ → List SetNote → Type 0
AreNumbered k [] = Unit {0}
AreNumbered k (n ∷ ns) = IsOfSerial k n × AreNumbered (k + 1) ns

-- each note is the first with its server and its rights
abbrev pub AreOnce : List SetNote → Type 0
AreOnce ns = (note : SetNote) → HasItem ns note → set_of note.server note.rights ns ≡ Some note

-- The notes have the serials from 1 on, no set stands twice, and they aren't too many.
pub record AreKept (ns : List SetNote) : Type 0 where
  pub numbered : AreNumbered 1 ns
  pub once : AreOnce ns
  pub few : length ns ≤ set_limit

-- The reply is the answer's, and its notes were added.
pub record IsAnswered (answer : Answer SetReply SetNote) (before after : List SetNote) (reply : SetReply) : Type 0 where
  pub reply_is : reply ≡ answer.reply
  pub added : after ≡ before ++ answer.notes
