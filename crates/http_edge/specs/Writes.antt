-- What is on its way to a sink.
use Rattle.std.specs.Prelude.{◌≡◌, ℕ, List, ◌++◌, flat_map, Result, MatchResult}
use Rattle.std.specs.Borrow.{Bor}
use Rattle.bytes_and_lists.specs.Prefixes.{IsPrefix}
use Rattle.outside.specs.Outside.{Told, Writes}

-- so many bytes of a reply are written at once
abbrev pub room : ℕ
room = 1024

-- the bytes of the pieces, one behind another
abbrev pub bytes_of_pieces : List (Bor (List ℕ)) → List ℕ
bytes_of_pieces pieces = flat_map (λ piece. piece.now) pieces

-- of this text a beginning was written, and these bytes of it are still kept
pub record IsUnderWay (text kept : List ℕ) (before after : Told) : Type 0 where
  pub sent : List ℕ
  pub writes : Writes sent before after
  pub parts : text ≡ sent ++ kept

-- the answer to a piece that is put behind the bytes that are kept: they are under way, or at an Err a beginning of them went out
abbrev pub HasPut : {E : Type 0} → List ℕ → List ℕ → List ℕ → Told → Told → Result (Unit {0}) E → Type 0
HasPut kept piece kept_now before after result = MatchResult result
    (λ _. IsUnderWay (kept ++ piece) kept_now before after)
    (λ _. (sent : List ℕ) × IsPrefix sent (kept ++ piece) × Writes sent before after)
