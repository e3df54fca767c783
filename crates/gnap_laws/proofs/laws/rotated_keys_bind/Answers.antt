use Rattle.std.proofs.Common.{List, ◌≤◌, ◌^◌, ◌∷◌, length, reverse, refl, subst, arith}
use Rattle.std.proofs.lemmas.List.{length-reverse}
use Rattle.histories.specs.History.{Follows, notes_of, now}
use Rattle.histories.specs.Histories.{legal-front}
use Rattle.gnap_model.specs.Common.{AreDistinct}
use Rattle.gnap_laws.specs.Types.{Note}
use Rattle.gnap_model.specs.Notes.{trail_values}
use Rattle.gnap_model.specs.Answer.{supply_of}
use Rattle.gnap_model.specs.Legal.{grant_law}
use Rattle.gnap_laws.proofs.NewestFirst.{legal_past, trail-back}
use Rattle.gnap_laws.proofs.Opened.{HaveOrigins, past_origins}
use Rattle.gnap_laws.proofs.Once.{distinct}
use Rattle.gnap_laws.proofs.Bound.{is_short}
use Rattle.gnap_laws.proofs.BoundKeys.{bound_to, rotation_noted}
use Rattle.gnap_laws.proofs.laws.rotated_keys_bind.Goals as goal

pub returns : goal.returns
returns c = λ rules before entry after rotation token key legal few among rotates.
    let trail : List Note = reverse (notes_of before) in
    let front = legal-front grant_law rules before (entry ∷ after) legal in
    let past = legal_past rules before front in
    let bound : length (reverse before) ≤ 2 ^ 58 = (let k = length-reverse before in omega arith) in
    let follows : Follows grant_law rules before entry = legal before entry after refl in
    bound_to rules (supply_of trail (now before entry.moment) entry.draw) trail entry.call entry.reply token key
    (subst (λ (ns : List Note). AreDistinct (trail_values ns)) (trail-back before)
    (distinct rules (reverse before) past (is_short rules (reverse before) past bound)))
    (subst HaveOrigins (trail-back before) (past_origins rules (reverse before) past))
    (rotation_noted rules before rotation token key front among rotates) follows.reply
