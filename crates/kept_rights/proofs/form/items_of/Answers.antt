use Rattle.kept_rights.proofs.Items.{one_more, all_read}
use Rattle.kept_rights.specs.Reading.{items_at}
use Rattle.kept_rights.proofs.form.items_of.Goals as goal

pub loop-preserved : goal.loop-preserved
loop-preserved g c = rw c.in_ok-push.ensures.ok
    (one_more g.T.Form.read_at c.args.n c.loop.counter c.loop.items c.in_ok-item.item c.loop.left.now c.in_ok-item.rest.now
    (items_at g.T.Form.read_at c.args.n c.args.bytes.now) c.loop-test.true c.in_ok-item.ensures c.loop.invariant)

pub returns : goal.returns
returns g c = all_read g.T.Form.read_at c.args.n c.loop.counter c.loop.items c.loop.left.now (items_at g.T.Form.read_at c.args.n c.args.bytes.now)
    c.loop-test.false c.loop.invariant
