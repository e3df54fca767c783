use Rattle.resource_server.specs.Introspecting.{introspection_data}
use Rattle.resource_server.proofs.introspecting.introspection_value.Goals as goal

pub returns : goal.returns
unfolding introspection_data
returns c =
    c.value.ensures _
    (c.with-4.ensures _ _ c.rights_value.ensures
    (c.with-3.ensures _ _ c.text_value-2.ensures
    (c.with-2.ensures _ _ c.proof_value.ensures
    (c.with.ensures _ _ (rw c.as_slice.ensures.value at c.text_value.ensures) c.new.ensures))))
