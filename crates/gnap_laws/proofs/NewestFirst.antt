-- Legal histories, and the same looked at from their newest entry.
use Rattle.std.proofs.Common.{◌≡◌, ◌∙◌, ℕ, max, List, [], ◌∷◌, ◌++◌, reverse, refl, ap, sym, subst, arith, append-nil}
use Rattle.std.proofs.lemmas.List.{reverse-append, reverse-reverse}
use Rattle.histories.specs.History.{Follows, Legal, notes_of, now}
use Rattle.histories.specs.Histories.{legal-nil, legal-append, legal-front, notes-append, now-append}
use Rattle.gnap_laws.specs.Types.{Setup}
use Rattle.gnap_model.specs.Notes.{Event, trail_of, now_at}
use Rattle.gnap_model.specs.Answer.{answer, answer_of}
use Rattle.gnap_model.specs.Actions.{Outcome}
use Rattle.gnap_model.specs.Legal.{grant_law, IsNext, IsLegalPast}

notes-back : (past : List Event) → notes_of (reverse past) ≡ reverse (trail_of past)
notes-back [] = refl
notes-back (e ∷ past) =
    let turned : reverse (e ∷ past) ≡ reverse past ++ e ∷ [] = reverse-append (e ∷ []) past in
    ap notes_of turned ∙ notes-append (reverse past) (e ∷ []) ∙ ap (λ x. notes_of (reverse past) ++ x) (append-nil e.notes)
    ∙ ap (λ x. x ++ e.notes) (notes-back past) ∙ ap (λ x. reverse (trail_of past) ++ x) (sym (reverse-reverse e.notes))
    ∙ sym (reverse-append (reverse e.notes) (trail_of past))

pub trail-back : (h : List Event) → trail_of (reverse h) ≡ reverse (notes_of h)
trail-back h = sym (reverse-reverse (trail_of (reverse h))) ∙ ap reverse (sym (notes-back (reverse h)) ∙ ap notes_of (reverse-reverse h))

now_at-max : (past : List Event) (a b : ℕ) → now_at past (max a b) ≡ max (now_at past a) b
now_at-max [] a b = refl
now_at-max (e ∷ past) a b = grind arith

pub now-back : (past : List Event) (m : ℕ) → now (reverse past) m ≡ now_at past m
now-back [] m = refl
now-back (e ∷ past) m =
    let turned : reverse (e ∷ past) ≡ reverse past ++ e ∷ [] = reverse-append (e ∷ []) past in
    ap (λ h. now h m) turned ∙ now-append (reverse past) e m ∙ now-back past (max e.moment m) ∙ now_at-max past e.moment m

-- both forms give one answer
same_answer : (rules : Setup) (past : List Event) (e : Event)
    → grant_law.answer rules (reverse past) e.moment e.draw e.call ≡ answer rules past e.moment e.draw e.call
same_answer rules past e =
    let trail : reverse (notes_of (reverse past)) ≡ trail_of past = ap reverse (notes-back past) ∙ reverse-reverse (trail_of past) in
    ap (λ t. answer_of rules t (now (reverse past) e.moment) e.draw e.call) trail
    ∙ ap (λ n. answer_of rules (trail_of past) n e.draw e.call) (now-back past e.moment)

pub is_next : (rules : Setup) (past : List Event) (e : Event) → Follows grant_law rules (reverse past) e → IsNext rules past e
is_next rules past e follows =
    let same = same_answer rules past e in
    record {
      fits = follows.fits;
      moment = follows.in_time;
      reply = follows.reply ∙ ap (λ (o : Outcome). o.reply) same;
      notes = follows.notes ∙ ap (λ (o : Outcome). o.notes) same;
    }

pub follows : (rules : Setup) (past : List Event) (e : Event) → IsNext rules past e → Follows grant_law rules (reverse past) e
follows rules past e next =
    let same = sym (same_answer rules past e) in
    record {
      fits = next.fits;
      in_time = next.moment;
      reply = next.reply ∙ ap (λ (o : Outcome). o.reply) same;
      notes = next.notes ∙ ap (λ (o : Outcome). o.notes) same;
    }

past_of : (rules : Setup) (past : List Event) → Legal grant_law rules (reverse past) → IsLegalPast rules past
past_of rules [] legal = tt
past_of rules (e ∷ past) legal =
    let L : List Event → Type 0 = λ h. Legal grant_law rules h in
    let turned : reverse (e ∷ past) ≡ reverse past ++ e ∷ [] = reverse-append (e ∷ []) past in
    let whole = subst L turned legal in
    (is_next rules past e (whole (reverse past) e [] refl), past_of rules past (legal-front grant_law rules (reverse past) (e ∷ []) whole))

-- A legal history is legal from its newest entry on.
pub legal_past : (rules : Setup) (h : List Event) → Legal grant_law rules h → IsLegalPast rules (reverse h)
legal_past rules h legal =
    let L : List Event → Type 0 = λ h. Legal grant_law rules h in
    past_of rules (reverse h) (subst L (sym (reverse-reverse h)) legal)

-- And the other way round.
pub past_legal : (rules : Setup) (past : List Event) → IsLegalPast rules past → Legal grant_law rules (reverse past)
past_legal rules [] legal = legal-nil grant_law rules
past_legal rules (e ∷ past) legal =
    let L : List Event → Type 0 = λ h. Legal grant_law rules h in
    let turned : reverse (e ∷ past) ≡ reverse past ++ e ∷ [] = reverse-append (e ∷ []) past in
    subst L (sym turned) (legal-append grant_law rules (reverse past) e (past_legal rules past legal.1) (follows rules past e legal.0))
