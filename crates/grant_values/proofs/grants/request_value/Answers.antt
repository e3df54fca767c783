use Rattle.grant_values.specs.Grants.{request_data}
use Rattle.grant_values.proofs.grants.request_value.Goals as goal

pub returns : goal.returns
unfolding request_data
returns c =
    c.value.ensures _
    (c.with_optional-6.ensures _ _ (rw c.as_slice.ensures at c.token_requests_value.ensures)
    (c.with_optional-5.ensures _ _ c.optional_client.ensures
    (c.with_optional-4.ensures _ _ c.existing_value.ensures
    (c.with_optional-3.ensures _ _ c.optional_modes.ensures
    (c.with_optional-2.ensures _ _ c.subject_request_value.ensures
    (c.with_optional.ensures _ _ c.optional_value.ensures c.new.ensures))))))
