-- Notes on which names are there: a tree in cells, five of each node. Four have the numbers of its children, one a number for the name that ends there. In a
-- cell 0 is none.
use Rattle.std.specs.Prelude.{◌≡◌, ℕ, ◌+◌, ◌*◌, ◌/◌, ◌%◌, ◌==◌, if◌then◌else◌, List, [], ◌∷◌, slice_index, Option, Some, None, option_and_then}

abbrev pub positive : ℕ → Option ℕ
positive n = if n == 0 then None else Some n

-- the number in a cell
abbrev pub noted_at : List ℕ → ℕ → Option ℕ
noted_at cells i = positive (slice_index cells i)

-- the cell of a node's child by a digit from 0 to 3, or of the name that ends there
abbrev pub cell_of : ℕ → ℕ → ℕ
cell_of node digit = node * 5 + digit

abbrev pub ends : ℕ
ends = 4

-- the digits of a byte to the base 4
abbrev pub digits : ℕ → List ℕ
digits b = b / 64 ∷ b / 16 % 4 ∷ b / 4 % 4 ∷ b % 4 ∷ []

-- the node behind digits
unfoldable pub steps : List ℕ → ℕ → List ℕ → Option ℕ
steps cells node [] = Some node
steps cells node (d ∷ ds) = option_and_then (λ n. steps cells n ds) (noted_at cells (cell_of node d))

-- what is noted of the name that has these bytes behind a node
unfoldable pub walk : List ℕ → ℕ → List ℕ → Option ℕ
walk cells node [] = noted_at cells (cell_of node ends)
walk cells node (b ∷ name) = option_and_then (λ n. walk cells n name) (steps cells node (digits b))

-- what is noted of a name
abbrev pub noted : List ℕ → List ℕ → Option ℕ
noted cells name = walk cells 0 name

-- what was noted stays
abbrev pub Extends : List ℕ → List ℕ → Type 0
Extends old new = (i n : ℕ) → noted_at old i ≡ Some n → noted_at new i ≡ Some n
