use Rattle.std.proofs.Common.{◌∙◌, [], subst, arith}
use Rattle.histories.specs.History.{Legal}
use Rattle.grant_machine.specs.Gnap.{gnap}
use Rattle.desk_load.proofs.Joining.{load_of_one}
use Rattle.desk_load.proofs.alone.put_load_alone.Goals as goal

pub do_share-requires-clause-room : goal.do_share-requires-clause-room
do_share-requires-clause-room g c = ([], c.new-desk.ensures.empty, omega arith)

pub returns : goal.returns
returns g c =
    let p = c.in_ok-tally.ensures.shares [] c.new-desk.ensures.empty in
    let k = p.history in
    let back = c.into_core.ensures.stands k p.seen_now in
    let rules = c.into_core.ensures.rules ∙ c.do_share.ensures.rules ∙ c.new-desk.ensures.rules ∙ c.requires.rules in
    load_of_one c.args.grants c.args.start c.in_ok-tally.tally _ p back.1 (subst (λ r. Legal gnap r k) rules (g.met.C.Core.legal c.into_core.result k back.0))
