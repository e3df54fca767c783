use Rattle.grant_values.proofs.grants.key_object.Goals as goal

pub returns : goal.returns
returns c =
    c.value.ensures _
    (c.with.ensures _ _ c.text_value.ensures c.new.ensures)
