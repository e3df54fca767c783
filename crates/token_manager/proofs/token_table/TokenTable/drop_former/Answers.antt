use Rattle.std.proofs.Common.{subst, sym, List}
use Rattle.grant_states.specs.declared.numbers_by_key.Listed.{Listed}
use Rattle.token_manager.specs.Tokens.{AreListed}
use Rattle.token_manager.proofs.TokenLemmas.{ascending_slice, listed_still}
use Rattle.token_manager.proofs.token_table.TokenTable.drop_former.Goals as goal

pub drop_missing-requires : goal.drop_missing-requires
drop_missing-requires c = ascending_slice c.as_slice.result.now c.self.inside.places.items c.as_slice.ensures.value c.self.invariant.0

pub invariant_of-self : goal.invariant_of-self
invariant_of-self c = (
  c.self.invariant.0,
  subst (λ (os : List Listed). AreListed os c.self.inside.places.items) (sym c.drop_missing.ensures)
      (listed_still c.self.inside.serials.listed c.as_slice.result.now c.self.inside.places.items c.as_slice.ensures.value c.self.invariant.1),
  c.self.invariant.2,
)
