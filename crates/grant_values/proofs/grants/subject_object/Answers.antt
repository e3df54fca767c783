use Rattle.grant_values.proofs.grants.subject_object.Goals as goal

pub returns : goal.returns
returns c =
    c.value.ensures _
    (c.with.ensures _ _ c.formats_value.ensures c.new.ensures)
