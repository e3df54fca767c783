use Rattle.std.proofs.Common.{List, ◌∷◌, refl, subst, reverse}
use Rattle.std.specs.Prelude.{Contains}
use Rattle.histories.specs.History.{Follows, notes_of, now}
use Rattle.histories.specs.Histories.{legal-front}
use Rattle.gnap_laws.specs.Types.{Note}
use Rattle.gnap_model.specs.declared.notes.Note.TheVariants.{Pended}
use Rattle.gnap_model.specs.Answer.{action_of, supply_of}
use Rattle.gnap_model.specs.Legal.{grant_law}
use Rattle.gnap_laws.proofs.WithinLimits.{step_within}
use Rattle.gnap_laws.proofs.DrawnCodes.{drawn_free}
use Rattle.gnap_laws.proofs.laws.drawn_codes_are_free.Goals as goal

pub returns : goal.returns
returns c = λ rules before entry after round code legal contains e.
    let trail : List Note = reverse (notes_of before) in
    let supply = supply_of trail (now before entry.moment) entry.draw in
    let follows : Follows grant_law rules before entry = legal before entry after refl in
    drawn_free supply trail (action_of rules supply trail entry.call) round code refl
    (step_within rules before entry.moment (legal-front grant_law rules before (entry ∷ after) legal)).grants
    (subst (λ (ns : List Note). Contains ns (Pended round)) follows.notes contains) e
