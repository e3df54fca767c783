use Rattle.grant_machine.proofs.FitsThrough.{replies_fit}
use Rattle.grant_machine.proofs.Weaker.{signed_legal}
use Rattle.grant_machine.proofs.laws.what_holds.Goals as goal

pub returns : goal.returns
returns c = λ rules h legal few. record {
  signed = c.signed_histories_hold.ensures rules h (signed_legal rules h legal) few;
  replies_fit = λ before e after is. replies_fit rules h before e after legal is;
}
