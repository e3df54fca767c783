-- What workers do together that put a load on one desk.
use Rattle.std.proofs.Common.{suc, zero}
use Rattle.std.specs.Prelude.{◌≡◌, ◌≢◌, ℕ, ◌+◌, ◌<◌, ◌%◌, ◌^◌, ◌==◌, Bool, true, false, List, [], ◌∷◌, ◌++◌, map, All, length, slice_get, Some}
use Rattle.histories.specs.History.{places}
use Rattle.histories.specs.Whole.{OneHistory, own_of}
use Rattle.gnap_model.specs.declared.calls.Reply.{Reply}
use Rattle.signed_calls.specs.declared.signed.Signed.{Signed}
use Rattle.signed_calls.specs.Marks.{unmarked_lapse}
use Rattle.grant_machine.specs.Gnap.{gnap, GnapEntry, SignedFits}
use Rattle.desk_load.specs.declared.progress.Progress.{Progress}
use Rattle.desk_load.specs.declared.tally.Tally.{Tally}
use Rattle.desk_load.specs.LoadCalls.{load_moment, load_setup, unmarked, question_about, calls_opened, calls_through}
use Rattle.desk_load.specs.Tallies.{none_counted, tally_of, Adds}
use Rattle.desk_load.specs.Words.{HaveDraws, Drawn, generator_at}

-- The grant with this number was put through by these entries: their calls are those that follow from the replies to the first and the third.
pub record IsPutThrough (ends : Bool) (grant : ℕ) (entries : List GnapEntry) : Type 0 where
  pub opened : Reply
  pub rotated : Reply
  pub calls : map (λ e. e.call) entries ≡ calls_through ends grant opened rotated
  pub opened_is : slice_get (map (λ e. e.reply) entries) 0 ≡ Some opened
  pub rotated_is : slice_get (map (λ e. e.reply) entries) 2 ≡ Some rotated
  pub moments : All (λ e. e.moment ≡ load_moment) entries

-- What is left of the grant, whose opening got this reply, was done by these entries: their calls are those that follow from it and from the reply to the
-- second.
pub record IsOpenedThrough (ends : Bool) (grant : ℕ) (opened : Reply) (entries : List GnapEntry) : Type 0 where
  pub rotated : Reply
  pub calls : map (λ e. e.call) entries ≡ calls_opened ends grant opened rotated
  pub rotated_is : slice_get (map (λ e. e.reply) entries) 1 ≡ Some rotated
  pub moments : All (λ e. e.moment ≡ load_moment) entries

-- These calls were made by these entries.
pub record AreMade (made : List Signed) (entries : List GnapEntry) : Type 0 where
  pub calls : map (λ e. e.call) entries ≡ made
  pub moments : All (λ e. e.moment ≡ load_moment) entries

-- what a worker does of the grant with a number: all, where it is the worker's; each grant of an even number is ended
abbrev pub IsPart : Bool → ℕ → List GnapEntry → Type 0
IsPart true i entries = IsPutThrough (i % 2 == 0) i entries
IsPart false i entries = entries ≡ []

-- The worker with a number did its share of the first grants: those whose number, divided by that of the workers, leaves the worker's.
abbrev pub IsShare : ℕ → ℕ → ℕ → List GnapEntry → Type 0
IsShare workers worker zero own = own ≡ []
IsShare workers worker (suc i) own = (before : List GnapEntry) × (part : List GnapEntry) × (own ≡ before ++ part)
    × IsShare workers worker i before × IsPart (i % workers == worker) i part

-- The worker with a number did its share of the first grants with its words under START: its entries have the draws of its stream in order, from the first
-- on, and none is left out.
pub record IsDrawnShare (grants start workers worker : ℕ) (own : List GnapEntry) : Type 0 where
  pub share : IsShare workers worker grants own
  pub draws : HaveDraws start worker 0 own

-- the accounts of so many workers, from a first number on
abbrev pub shares_from : ℕ → ℕ → ℕ → ℕ → ℕ → List (List GnapEntry → Type 0)
shares_from grants start workers first zero = []
shares_from grants start workers first (suc n) = IsDrawnShare grants start workers first ∷ shares_from grants start workers (suc first) n

-- There is one legal history of the load's setup. It has the entries of these workers alone, each of whom did its share of the grants with its words under
-- START, and the tally is that of all its replies.
pub record IsLoad (grants start workers : ℕ) (tally : Tally) : Type 0 where
  pub one : OneHistory gnap load_setup (shares_from grants start workers 0 workers)
  pub counted : Adds (tally_of one.history) none_counted tally

-- a call that may be made
abbrev pub MayBeMade : Signed → Type 0
MayBeMade signed = SignedFits signed × (signed ≢ unmarked_lapse)

-- a desk of this number that has seen such histories has room for so many more entries
abbrev pub HasRoom : ℕ → (List GnapEntry → Type 0) → ℕ → Type 0
HasRoom number seen m = (h : List GnapEntry) × seen h × (length (places number h) + m < 2 ^ 52)

-- a worker at the beginning of its words, which has counted nothing
abbrev pub begun : ℕ → ℕ → Progress
begun start worker = record { words = record { generator = generator_at start worker 0 }; tally = none_counted }

-- From a history that was seen another came to be seen, with these own entries more, which have the next draws, and whose replies were counted.
pub record Grows (number : ℕ) (seen : List GnapEntry → Type 0) (before : List GnapEntry) (progress progress_now : Progress) (entries : List GnapEntry) : Type 0
  where
    pub history : List GnapEntry
    pub seen_now : seen history
    pub own : own_of number history ≡ own_of number before ++ entries
    pub drawn : Drawn progress.words.generator entries progress_now.words.generator
    pub counted : Adds (tally_of entries) progress.tally progress_now.tally

-- One call more was made, and got this reply.
pub record Asks (call : Signed) (reply : Reply) (number : ℕ) (seen : List GnapEntry → Type 0) (before : List GnapEntry)
    (progress progress_now : Progress) : Type 0 where
  pub entry : GnapEntry
  pub call_is : entry.call ≡ call
  pub reply_is : entry.reply ≡ reply
  pub moment_is : entry.moment ≡ load_moment
  pub grows : Grows number seen before progress progress_now (entry ∷ [])

-- One question more was asked about the token of a reply.
abbrev pub AsksAbout : Reply → ℕ → (List GnapEntry → Type 0) → List GnapEntry → Progress → Progress → Type 0
AsksAbout about number seen before progress progress_now =
    (answer : Reply) × Asks (unmarked (question_about about)) answer number seen before progress progress_now

-- A grant more was put through, or what a worker does of it.
pub record PutsThrough (IsDone : List GnapEntry → Type 0) (number : ℕ) (seen : List GnapEntry → Type 0) (before : List GnapEntry)
    (progress progress_now : Progress) : Type 0 where
  pub entries : List GnapEntry
  pub is_done : IsDone entries
  pub grows : Grows number seen before progress progress_now entries

-- From a history that was seen another came to be seen, with a whole share more of a worker with its words, whose replies were counted.
pub record DoesShare (grants start workers worker number : ℕ) (seen : List GnapEntry → Type 0) (before : List GnapEntry) (tally : Tally) : Type 0 where
  pub entries : List GnapEntry
  pub is_done : IsDrawnShare grants start workers worker entries
  pub history : List GnapEntry
  pub seen_now : seen history
  pub own : own_of number history ≡ own_of number before ++ entries
  pub counted : Adds (tally_of entries) none_counted tally
