use Rattle.std.proofs.Common.{◌∙◌, ap, sym, arith, count_by}
use Rattle.histories.specs.History.{notes_of}
use Rattle.signed_calls.specs.Remembering.{is_kept}
use Rattle.remembering_core.proofs.remembering.Remembering.marks.Goals as goal

pub count-requires : goal.count-requires
count-requires g c = c.requires.1.tells.none_over

pub returns : goal.returns
returns g c = λ h here.
    c.count.ensures ∙ here.tells.counts c.args.self.now.latest (omega arith) ∙ sym (ap (λ n. count_by (is_kept n) (notes_of h)) here.latest_is)
