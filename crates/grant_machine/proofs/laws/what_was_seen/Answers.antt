use Rattle.grant_machine.proofs.laws.what_was_seen.Goals as goal

pub returns : goal.returns
returns g c = λ h seen few. c.what_holds.ensures (g.D.Desk.rules c.args.desk.now) h (g.met.D.Desk.legal c.args.desk.now h seen) few
