-- Bytes that come behind those that are held.
use Rattle.std.proofs.Common.{◌≡◌, ℕ, ◌⊎◌, List, [], ◌∷◌, ◌++◌, take, drop, sym, ap, ◌∙◌, subst, arith, append_assoc, append-nil, length-append, inl, inr, refl}
use Rattle.std.specs.Prelude.{◌+◌, ◌-◌, ◌<◌, ◌≤◌, length, Bool, true, false, IsTrue, Some, None, Ok, Err}
use Rattle.bytes_and_lists.specs.declared.message.Message.{Message}
use Rattle.outside.specs.Outside.{Told, Takes, Reads, IsAtEnd, Rose}
use Rattle.outside.proofs.Devices.{takes_none, takes_then}
use Rattle.http_edge.specs.declared.fault.EdgeFault.{EdgeFault}
use Rattle.http_edge.specs.declared.fault.EdgeFault.TheVariants as faults
use Rattle.http_edge.specs.declared.held.Arrival.{Arrival}
use Rattle.http_edge.specs.declared.held.Arrival.TheVariants as arrival
use Rattle.http_edge.specs.declared.places.LinePlace.{LinePlace}
use Rattle.http_edge.specs.declared.places.LinePlace.TheVariants.{BlankLines}
use Rattle.http_edge.specs.Limits.{message_limit}
use Rattle.http_edge.specs.Streams.{IsMessage, IsRefusedFor, IsOpen}
use Rattle.http_edge.specs.Reads.{HasFault, IsNextMessage, CountsReadFault}
use Rattle.std.proofs.lemmas.List.{nil_from_length, length-take, take_rest, drop_at}
use Rattle.std.specs.List.{fold}
use Rattle.std.proofs.lemmas.List.Sums.{fold-append}
use Rattle.http_edge.specs.Steps.{next_line_place, IsOfBytes, Grows, HasArrived}

pub grows_none : (held : List ℕ) (told : Told) → Grows held held told told
grows_none held told = record { came = []; takes = takes_none told; behind = sym (append-nil held) }

pub grows_then : (held mid new : List ℕ) (a m b : Told) → Grows held mid a m → Grows mid new m b → Grows held new a b
grows_then held mid new a m b x y = record {
  came = x.came ++ y.came;
  takes = takes_then x.came y.came a m b x.takes y.takes;
  behind = y.behind ∙ ap (λ (t : List ℕ). t ++ y.came) x.behind ∙ append_assoc held x.came y.came;
}

pub grows_same : (held new : List ℕ) (a b : Told) → new ≡ held → b ≡ a → Grows held new a b
grows_same held new a b e same =
    subst (λ (told : Told). Grows held new a told) (sym same) (record { came = []; takes = takes_none a; behind = e ∙ sym (append-nil held) })

pub grows_end : (held new rest : List ℕ) (a b : Told) (count : ℕ) → new ≡ held → count ≡ 0 → Reads count (take count rest) a b → Grows held new a b × IsAtEnd b
grows_end held new rest a b count e none reads = (
  record {
    came = [];
    takes = subst (λ (n : ℕ). Takes (take n rest) a b) none reads.takes;
    behind = e ∙ sym (append-nil held);
  },
  reads.at_end none,
)

pub grows_by : (held new rest : List ℕ) (a b : Told) (count : ℕ) → new ≡ held ++ take count rest → Reads count (take count rest) a b
    → 0 < count → count ≤ length rest → Grows held new a b × (length held < length new)
grows_by held new rest a b count e reads some within = (
  record { came = take count rest; takes = reads.takes; behind = e },
  omega (arith, ap length e, length-append held (take count rest), length-take count rest),
)

-- what reads came to, each of which gave bytes
pub record HasRead (held held_now : List ℕ) (before after : Told) (faults faults_now : ℕ) : Type 0 where
  pub grows : Grows held held_now before after
  pub longer : length held ≤ length held_now
  pub kept : faults_now ≡ faults

pub read_none : (held : List ℕ) (told : Told) (faults : ℕ) → HasRead held held told told faults faults
read_none held told faults = record { grows = grows_none held told; longer = omega arith; kept = refl }

pub read_more : (held mid new : List ℕ) (a m b : Told) (was kept now : ℕ) → HasRead held mid a m was kept
    → HasArrived arrival.More mid new m b kept now → HasRead held new a b was now
read_more held mid new a m b was kept now so_far more = record {
  grows = grows_then held mid new a m b so_far.grows more.0;
  longer = omega (arith, so_far.longer, more.1);
  kept = more.2 ∙ so_far.kept;
}

-- what the last of several reads did is what they did together
pub arrived_then : (how : Arrival) (held mid new : List ℕ) (a m b : Told) (was kept now : ℕ) → HasRead held mid a m was kept
    → HasArrived how mid new m b kept now → HasArrived how held new a b was now
arrived_then arrival.More held mid new a m b was kept now so_far more =
    (grows_then held mid new a m b so_far.grows more.0, omega (arith, so_far.longer, more.1), more.2 ∙ so_far.kept)
arrived_then arrival.End held mid new a m b was kept now so_far end = (grows_then held mid new a m b so_far.grows end.0, end.1, end.2 ∙ so_far.kept)
arrived_then arrival.Failed held mid new a m b was kept now so_far failed =
    (grows_then held mid new a m b so_far.grows failed.0, subst (λ (n : ℕ). Rose n now) so_far.kept failed.1)
arrived_then arrival.Memory held mid new a m b was kept now so_far none = (grows_then held mid new a m b so_far.grows none.0, none.1 ∙ so_far.kept)

-- nothing was taken, so nothing came
pub none_came : (held new : List ℕ) (told : Told) → Grows held new told told → new ≡ held
none_came held new told x =
    let same : length told.taken ≡ length told.taken + length x.came = ap length x.takes.taken ∙ length-append told.taken x.came in
    let none : x.came ≡ [] = nil_from_length x.came (omega arith) in
    x.behind ∙ ap (λ (t : List ℕ). held ++ t) none ∙ append-nil held

-- ---- answers

refused_fault : (b : List ℕ) (after : Told) (fault : EdgeFault) → IsRefusedFor b fault → IsOfBytes fault → HasFault b after fault
refused_fault b after faults.BadHead r of_bytes = r
refused_fault b after faults.TooLarge r of_bytes = r
refused_fault b after faults.Coded r of_bytes = r
refused_fault b after faults.Truncated r of_bytes = absurd of_bytes
refused_fault b after faults.ReadFault r of_bytes = absurd of_bytes
refused_fault b after faults.OutOfMemory r of_bytes = absurd of_bytes

-- the bytes that were held, and those that came
module _ (old b : List ℕ) (before after : Told) (grows : Grows old b before after) (few : length b ≤ message_limit) where
  few_in_all : length (old ++ grows.came) ≤ message_limit
  few_in_all = subst (λ (t : List ℕ). length t ≤ message_limit) grows.behind few

  pub next_whole : (rest : List ℕ) (m : Message) → IsMessage b m rest → IsNextMessage old rest before after (Ok (Some m))
  next_whole rest m is = record {
    came = grows.came;
    takes = grows.takes;
    few = few_in_all;
    answers = subst (λ (t : List ℕ). IsMessage t m rest) grows.behind is;
  }

  pub next_none : (rest : List ℕ) → b ≡ [] → rest ≡ [] → IsAtEnd after → IsNextMessage old rest before after (Ok None)
  next_none rest none left end = record { came = grows.came; takes = grows.takes; few = few_in_all; answers = (sym grows.behind ∙ none, left, end) }

  pub next_failed : (fault : EdgeFault) → ((t : List ℕ) → HasFault t after fault) → IsNextMessage old b before after (Err fault)
  next_failed fault has = record { came = grows.came; takes = grows.takes; few = few_in_all; answers = (grows.behind, has _) }

  pub next_refused : (fault : EdgeFault) → IsRefusedFor b fault → IsOfBytes fault → IsNextMessage old b before after (Err fault)
  next_refused fault r of_bytes = record {
    came = grows.came;
    takes = grows.takes;
    few = few_in_all;
    answers = (grows.behind, subst (λ (t : List ℕ). HasFault t after fault) grows.behind (refused_fault b after fault r of_bytes));
  }

  pub next_truncated : IsOpen b → 0 < length b → IsAtEnd after → IsNextMessage old b before after (Err faults.Truncated)
  next_truncated opens some end = record {
    came = grows.came;
    takes = grows.takes;
    few = few_in_all;
    answers = (grows.behind, subst (λ (t : List ℕ). HasFault t after faults.Truncated) grows.behind (opens, some, end));
  }

pub refused_count : (fault : EdgeFault) → IsOfBytes fault → (before after : ℕ) → after ≡ before → CountsReadFault (Err fault) before after
refused_count faults.BadHead of_bytes before after e = e
refused_count faults.TooLarge of_bytes before after e = e
refused_count faults.Coded of_bytes before after e = e
refused_count faults.Truncated of_bytes before after e = absurd of_bytes
refused_count faults.ReadFault of_bytes before after e = absurd of_bytes
refused_count faults.OutOfMemory of_bytes before after e = absurd of_bytes

pub some_held : (b : List ℕ) (none : Bool) → (b ≡ [] → IsTrue none) → none ≡ false → 0 < length b
some_held [] none is e = let wrong : ◌≡◌ {A = Bool} false true = sym e ∙ is refl in absurd (cc)
some_held (c ∷ b) none is e = omega arith

-- ---- what was needed

pub needed_so : (held first : List ℕ) (now before : Told) → ((held ≡ first) × (now ≡ before)) ⊎ IsOpen first → (now ≡ before) ⊎ IsOpen first
needed_so held first now before (inl same) = inl same.1
needed_so held first now before (inr waits) = inr waits

pub open_first : (held first : List ℕ) (now before : Told) → ((held ≡ first) × (now ≡ before)) ⊎ IsOpen first → IsOpen held → IsOpen first
open_first held first now before (inl same) waits = subst IsOpen same.0 waits
open_first held first now before (inr waits) _ = waits

-- ---- the lines of a head

-- the place behind all of the bytes, from the place behind those that were seen
pub place_more : (held came all : List ℕ) (seen : ℕ) (place : LinePlace) → all ≡ held ++ came → seen ≡ length held
    → place ≡ fold next_line_place BlankLines held
    → fold next_line_place place (take (length all - seen) (drop seen all)) ≡ fold next_line_place BlankLines all
place_more held came all seen place whole count e =
    let rest : take (length all - seen) (drop seen all) ≡ came = take_rest all seen ∙ ap (drop seen) whole ∙ drop_at held came seen (sym count) in
    ap (fold next_line_place place) rest ∙ ap (λ (p : LinePlace). fold next_line_place p came) e
    ∙ sym (fold-append next_line_place BlankLines held came) ∙ ap (fold next_line_place BlankLines) (sym whole)
