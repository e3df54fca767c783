use Rattle.std.proofs.Common.{codes, refl}
use Rattle.json.specs.Print.{escape_byte}
use Rattle.gnap_replies.specs.Discovery.{server_discovery_fields, server_discovery}
use Rattle.gnap_replies.proofs.Printing.{first_name, has_object}
use Rattle.gnap_replies.proofs.discovery.print_for_server.Goals as goal

pub returns : goal.returns
unfolding server_discovery escape_byte
returns c p printed = has_object c.end.new.self p (server_discovery_fields c.args.base.now) refl
    (c.end.ensures _ (c.print_place-3.ensures _ (c.begin-4.ensures _ (c.value.ensures _ (c.begin-3.ensures _
    (c.print_place-2.ensures _ (c.begin-2.ensures _ (c.print_place.ensures _
    (first_name c.begin.new.self p (codes "grant_request_endpoint") (c.begin.ensures p printed))))))))))
