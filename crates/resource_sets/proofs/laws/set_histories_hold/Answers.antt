use Rattle.resource_sets.proofs.laws.set_histories_hold.Goals as goal

pub returns : goal.returns
returns c = λ rules h legal. record {
  references_stay = c.references_stay.ensures rules h legal;
  sets_stand_once = c.sets_stand_once.ensures rules h legal;
  references_differ = c.references_differ.ensures rules h legal;
  sets_are_few = c.sets_are_few.ensures rules h legal;
  replies_fit = c.set_replies_fit.ensures rules h legal;
}
