use Rattle.std.proofs.Common.{sym}
use Rattle.std.specs.Prelude.{filter}
use Rattle.resource_server.specs.Routing.{is_authorization, only_value}
use Rattle.resource_server.proofs.Places.{value_is_text}
use Rattle.resource_server.proofs.routing.question.Goals as goal

pub returns-in-Some-clause-text : goal.returns-in-Some-clause-text
returns-in-Some-clause-text c = value_is_text (only_value (filter is_authorization c.args.message.now.fields)) c.in-Some.scheme c.in-Some.value.now
    (sym c.in-Some.ensures)
