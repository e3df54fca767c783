use Rattle.std.proofs.Common.{codes, refl}
use Rattle.json.specs.Print.{escape_byte}
use Rattle.gnap_replies.specs.Discovery.{client_discovery_fields, client_discovery}
use Rattle.gnap_replies.proofs.Printing.{first_name, has_object}
use Rattle.gnap_replies.proofs.discovery.print_for_client.Goals as goal

pub returns : goal.returns
unfolding client_discovery escape_byte
returns c p printed = has_object c.end.new.self p (client_discovery_fields c.args.base.now) refl
    (c.end.ensures _ (c.value-5.ensures _ (c.begin-6.ensures _ (c.value-4.ensures _ (c.begin-5.ensures _ (c.value-3.ensures _ (c.begin-4.ensures _
    (c.value-2.ensures _ (c.begin-3.ensures _ (c.value.ensures _ (c.begin-2.ensures _
    (c.print_place.ensures _ (first_name c.begin.new.self p (codes "grant_request_endpoint") (c.begin.ensures p printed))))))))))))))
