use Rattle.std.proofs.Common.{◌≡◌, take, true}
use Rattle.std.specs.Prelude.{not, filter, nat_le}
use Rattle.std.specs.List.{count_by}
use Rattle.gnap_tables.proofs.Lists.{HasItem}
use Rattle.grant_states.specs.declared.numbers_by_key.Listed.{Listed}
use Rattle.grant_states.specs.Listed.{where_some}
use Rattle.token_manager.specs.declared.token_table.TokenPlace.{TokenPlace}
use Rattle.token_manager.specs.Tokens.{is_among, is_lasting}
use Rattle.token_manager.proofs.token_table.lasting_without.Given as goal

abbrev pub invariant-loop-one : goal.invariant-loop-one
invariant-loop-one l =
    (l.left ≡ count_by (is_lasting l.moment) (filter (λ (place : TokenPlace). not (is_among l.grant (take l.one-index l.owned) place)) l.places))
    × ((one : Listed) → HasItem (take l.one-index l.owned) one → where_some (nat_le one.number) l.former ≡ true)
