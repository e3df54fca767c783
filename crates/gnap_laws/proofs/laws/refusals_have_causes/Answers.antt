use Rattle.std.proofs.Common.{◌∙◌, ◌∷◌, List, refl, sym, subst, reverse}
use Rattle.histories.specs.History.{Follows, notes_of, now}
use Rattle.histories.specs.Histories.{legal-front}
use Rattle.gnap_laws.specs.Types.{Note}
use Rattle.gnap_model.specs.Answer.{action_of, supply_of}
use Rattle.gnap_model.specs.Legal.{grant_law}
use Rattle.gnap_laws.proofs.NewestFirst.{legal_past, trail-back}
use Rattle.gnap_laws.proofs.Opened.{HaveOrigins, past_origins}
use Rattle.gnap_laws.proofs.Refusals.{KeepsLimits, explained, error_cause}
use Rattle.gnap_laws.proofs.WithinLimits.{step_within}
use Rattle.gnap_laws.proofs.WrongReferences.{history_few}
use Rattle.gnap_laws.proofs.laws.refusals_have_causes.Goals as goal

pub returns : goal.returns
returns c = λ rules before entry after code legal refused.
    let trail : List Note = reverse (notes_of before) in
    let supply = supply_of trail (now before entry.moment) entry.draw in
    let follows : Follows grant_law rules before entry = legal before entry after refl in
    let origins : HaveOrigins trail = subst HaveOrigins (trail-back before)
    (past_origins rules (reverse before) (legal_past rules before (legal-front grant_law rules before (entry ∷ after) legal))) in
    let legal_before = legal-front grant_law rules before (entry ∷ after) legal in
    let limits : KeepsLimits trail (now before entry.moment) = record {
      grants = (step_within rules before entry.moment legal_before).grants;
      wrongs = λ grant round pending. history_few rules before grant (now before entry.moment) round legal_before pending;
    } in
    error_cause rules trail (now before entry.moment) entry.call supply (action_of rules supply trail entry.call) code
    (explained rules supply trail entry.call origins limits) (sym follows.reply ∙ refused)
