use Rattle.std.proofs.Common.{◌∙◌, arith}
use Rattle.gnap_model.specs.Standing.{is_opening}
use Rattle.gnap_history.specs.Counts.{is_issue}
use Rattle.gnap_history.proofs.Counts.{joined_count, joined_values}
use Rattle.gnap_history.proofs.note_list.NoteList.append.Goals as goal

pub overflow_add-self : goal.overflow_add-self
overflow_add-self c =
    let fits = joined_count is_opening c.self.inside.notes c.args.more c.as_slice.result.now c.as_slice-4.result.now c.self.inside.grants
    c.openings-grants.result
    c.self.invariant.0 c.openings-grants.ensures c.as_slice.ensures (c.as_slice-4.ensures ∙ c.in_ok-append.ensures.ok) c.length_in_memory-length.ensures.few in
    omega arith

pub overflow_add-self-2 : goal.overflow_add-self-2
overflow_add-self-2 c =
    let fits = joined_count is_issue c.self.inside.notes c.args.more c.as_slice-2.result.now c.as_slice-4.result.now c.self.inside.tokens c.issues-tokens.result
    c.self.invariant.1 c.issues-tokens.ensures c.as_slice-2.ensures (c.as_slice-4.ensures ∙ c.in_ok-append.ensures.ok) c.length_in_memory-length.ensures.few in
    omega arith

pub overflow_add-self-3 : goal.overflow_add-self-3
overflow_add-self-3 c =
    let fits = joined_values c.self.inside.notes c.args.more c.as_slice-3.result.now c.as_slice-4.result.now c.self.inside.values c.drawn_values-values.result
    c.self.invariant.2 c.drawn_values-values.ensures c.as_slice-3.ensures (c.as_slice-4.ensures ∙ c.in_ok-append.ensures.ok)
    c.length_in_memory-length.ensures.few in omega arith
