use Rattle.std.proofs.Common.{◌≡◌, ℕ, ◌≤◌, ◌&&◌, List, if◌then◌else◌, not, None, take}
use Rattle.std.specs.List.{list_any}
use Rattle.signed_calls.specs.Remembering.{is_live_at}
use Rattle.nonce_store.specs.Places.{is_at}
use Rattle.nonce_store.specs.Kept.{until_in, many_in}
use Rattle.nonce_store.proofs.sweeping.take_over.Given as goal

-- the nonces at the places so far were taken out, where they aren't remembered any more
abbrev pub invariant-loop-place : goal.invariant-loop-place
invariant-loop-place l =
    ((k n : List ℕ) → until_in l.kept.keys k n
    ≡ (if list_any (is_at l.run.texts.items k n) (take l.place-index l.run.places.items) && not (is_live_at l.latest (until_in l.fn.kept.keys k n))
    then None else until_in l.fn.kept.keys k n))
    × ((m : ℕ) → l.latest ≤ m → many_in l.kept.keys m ≡ many_in l.fn.kept.keys m)
