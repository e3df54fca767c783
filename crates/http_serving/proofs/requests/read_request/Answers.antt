use Rattle.http_serving.proofs.ReadFaults.{reads_fault}
use Rattle.http_serving.proofs.requests.read_request.Goals as goal

pub returns-in-Err-clause-reads : goal.returns-in-Err-clause-reads
returns-in-Err-clause-reads g c = reads_fault c.args.held.now c.next_message.new.held (g.S.Device.told c.args.source.now)
    (g.S.Device.told c.next_message.new.source)
    c.in-Err.fault c.in-Err.ensures.next c.no_message.result c.no_message.ensures
