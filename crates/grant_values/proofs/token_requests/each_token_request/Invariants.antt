use Rattle.std.proofs.Common.{◌≡◌, map, take}
use Rattle.serde_json.specs.View.{view}
use Rattle.grant_values.specs.TokenRequests.{token_request_data}
use Rattle.grant_values.proofs.token_requests.each_token_request.Given as goal

abbrev pub invariant-loop-ask : goal.invariant-loop-ask
invariant-loop-ask l = map view l.items.items ≡ map token_request_data (take l.ask-index l.asks)
