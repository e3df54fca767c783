-- A core that took some calls.
use Rattle.std.specs.Prelude.{ℕ, ◌≤◌, List, length}
use Rattle.grant_machine.specs.Gnap.{GnapEntry}

-- it stands for a history of at most so many entries
abbrev pub HasTaken : (List GnapEntry → Type 0) → ℕ → Type 0
HasTaken stands many = (h : List GnapEntry) × stands h × (length h ≤ many)
