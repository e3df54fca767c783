use Rattle.std.proofs.Common.{◌≡◌, ◌≤◌, take}
use Rattle.std.specs.Prelude.{not, filter, vec_len, vec_capacity}
use Rattle.token_manager.specs.declared.token_table.TokenPlace.{TokenPlace}
use Rattle.std.specs.List.{count_by}
use Rattle.token_manager.specs.Tokens.{is_among, is_lasting}
use Rattle.token_manager.proofs.token_table.take_out_all.Given as goal

abbrev pub invariant-loop-one : goal.invariant-loop-one
invariant-loop-one l =
    (l.places.items ≡ filter (λ (place : TokenPlace). not (is_among l.grant (take l.one-index l.owned) place)) l.fn.places.items)
    × (vec_len l.places ≤ vec_len l.fn.places) × (vec_capacity l.places ≡ vec_capacity l.fn.places) × (l.left ≡ count_by (is_lasting l.moment) l.places.items)
