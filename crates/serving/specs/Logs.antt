-- What a worker's gear tells, as what the worker's own entries account for.
use Rattle.std.specs.Prelude.{◌≡◌, ℕ, ◌≤◌, List, [], ◌∷◌, ◌++◌, map, length}
use Rattle.outside.specs.Outside.{Served}
use Rattle.outside.specs.Gears.{Log, GearState, with_uses}
use Rattle.histories.specs.declared.entry.Entry.{Entry}
use Rattle.histories.specs.Turns.{Turn, moments_in, entries_in, draw_of}
use Rattle.histories.specs.Whole.{own_of}

-- the lists one after another
abbrev pub joined : {X : Type 0} → List (List X) → List X
joined [] = []
joined (x ∷ xs) = x ++ joined xs

module _ {Message Call Reply Note : Type 0} (IsSession : Served → List (Turn Message (Entry Call Reply Note)) → Type 0) where
  -- each connection was served by its turns
  abbrev pub Sessions : List Served → List (List (Turn Message (Entry Call Reply Note))) → Type 0
  Sessions [] [] = Unit {0}
  Sessions [] (turns ∷ more) = ⊥
  Sessions (conn ∷ conns) [] = ⊥
  Sessions (conn ∷ conns) (turns ∷ more) = IsSession conn turns × Sessions conns more

  -- The account of a worker: the connections that its gear served, the moments and the draws that it gave are those of turns, in order; and
  -- these entries are the ones that the turns made.
  pub record IsAccount (log : Log) (own : List (Entry Call Reply Note)) : Type 0 where
    pub turns : List (List (Turn Message (Entry Call Reply Note)))
    pub sessions : Sessions log.served turns
    pub moments : log.moments ≡ moments_in (joined turns)
    pub draws : log.draws ≡ map draw_of own
    pub own_is : own ≡ entries_in (joined turns)

  -- A connection that nothing was done with before was served, by turns that led from one history that a desk has seen to another. The gear
  -- gave their moments and their draws, and no turn made more entries than it may.
  pub record Serves (number : ℕ) (seen : List (Entry Call Reply Note) → Type 0) (h : List (Entry Call Reply Note)) (gear gear_now : GearState)
      (conn : Served) : Type 0 where
    pub turns : List (Turn Message (Entry Call Reply Note))
    pub few : length (entries_in turns) ≤ 2000
    pub history : List (Entry Call Reply Note)
    pub seen_now : seen history
    pub own : own_of number history ≡ own_of number h ++ entries_in turns
    pub used : gear_now ≡ with_uses (moments_in turns) (map draw_of (entries_in turns)) gear
    pub session : IsSession conn turns
