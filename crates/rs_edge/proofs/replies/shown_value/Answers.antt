use Rattle.rs_edge.proofs.replies.shown_value.Goals as goal

pub returns : goal.returns
returns c = c.value.ensures _ (c.with.ensures _ _ c.text_value.ensures c.new.ensures)
