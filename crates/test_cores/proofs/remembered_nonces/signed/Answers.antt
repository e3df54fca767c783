use Rattle.std.proofs.Common.{rules, ◌≡◌, arith}
use Rattle.std.specs.Fmt.{decimal}
use Rattle.test_cores.proofs.Calls.{client_key, marked_fits}
use Rattle.test_cores.proofs.remembered_nonces.signed.Goals as goal

pub call_of-call-requires : goal.call_of-call-requires
call_of-call-requires c = client_key (search rules)

pub returns : goal.returns
returns c =
    let nonce_is : c.in_ok-nonce.nonce ≡ decimal c.args.sent.nonce = search rules in
    marked_fits c.in_ok-nonce.nonce c.call_of-call.result c.args.sent.created c.args.sent.nonce nonce_is (omega arith) c.requires
    c.call_of-call.ensures.fits c.call_of-call.ensures.call
