use Rattle.grant_values.specs.TokenRequests.{token_request_data}
use Rattle.grant_values.proofs.token_requests.token_request_value.Goals as goal

pub returns : goal.returns
unfolding token_request_data
returns c =
    c.value.ensures _
    (c.with.ensures _ _ c.rights_value.ensures
    (c.with_optional-2.ensures _ _ c.asked_flags.ensures
    (c.with_optional.ensures _ _ c.optional_value.ensures c.new.ensures)))
