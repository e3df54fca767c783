-- A legal history of the machine with marks is, entry by entry, a legal history of the machine without.
use Rattle.std.proofs.Common.{◌≡◌, ◌∙◌, ◌≤◌, ℕ, suc, max, Bool, true, false, List, [], ◌∷◌, ◌++◌, length, map, reverse, refl, ap, sym, subst, append-nil, if◌then◌else◌}
use Rattle.std.proofs.lemmas.List.{reverse-append}
use Rattle.std.proofs.lemmas.List.Elements.{filter_map-append}
use Rattle.std.specs.Option.{option_to_list}
use Rattle.histories.specs.History.{Answer, Follows, Legal, notes_of, now, by_notes}
use Rattle.bytes_and_lists.specs.Moments.{last_moment}
use Rattle.histories.specs.Histories.{legal-nil, legal-append, legal-front, notes-append, now-append}
use Rattle.gnap_model.specs.declared.objects.Setup.{Setup}
use Rattle.gnap_model.specs.declared.calls.Call.{Call}
use Rattle.gnap_model.specs.declared.calls.Reply.{Reply}
use Rattle.gnap_model.specs.declared.calls.Call.TheVariants.{Lapse}
use Rattle.gnap_model.specs.declared.calls.Reply.TheVariants.{Error}
use Rattle.gnap_model.specs.declared.objects.ErrorCode.TheVariants.{InvalidClient}
use Rattle.gnap_model.specs.declared.notes.Note.{Note}
use Rattle.gnap_model.specs.Notes.{Event}
use Rattle.gnap_laws.specs.Refusals.{caller}
use Rattle.gnap_model.specs.Answer.{gnap_answer}
use Rattle.signed_calls.specs.Marks.{Mark, Signed, SignedNote, SignedEvent, is_remembered, mark_notes, nonce_note, plain_in, plain_notes, behind, refuses, signed_answer, unmarked_lapse}
use Rattle.signed_calls.specs.declared.signed.SignedNote.TheVariants.{Plain}
use Rattle.signed_calls.specs.PlainPast.{is_refused, plain_entry, plain_past, IsPlain}

-- what the answer is, by whether the mark is refused
abbrev pub answered : Bool → Setup → List SignedNote → ℕ → List ℕ → Signed → Answer Reply SignedNote
answered refused rules notes now draw signed =
    if refused then record { reply = Error InvalidClient; notes = [] }
    else behind (mark_notes signed) (gnap_answer rules (plain_notes notes) now draw signed.call)

pub plain-map : (notes : List Note) → plain_notes (map Plain notes) ≡ notes
plain-map [] = refl
plain-map (note ∷ notes) = ap (λ x. note ∷ x) (plain-map notes)

-- the notes of a mark are no plain ones
marks-none : (remembered : Bool) (key : List ℕ) (marks : List Mark)
    → plain_notes (if remembered then map (nonce_note key) marks else []) ≡ []
marks-none false key marks = refl
marks-none true key [] = refl
marks-none true key (mark ∷ marks) = marks-none true key marks

pub plain-behind : (signed : Signed) (answer : Answer Reply Note)
    → plain_notes (behind (mark_notes signed) answer).notes ≡ answer.notes
plain-behind signed answer = filter_map-append plain_in (mark_notes signed) (map Plain answer.notes)
    ∙ ap (λ x. x ++ plain_notes (map Plain answer.notes)) (marks-none (is_remembered signed.call) (caller signed.call) (option_to_list signed.mark))
    ∙ plain-map answer.notes

-- what the entry is, by whether its mark is refused
pub record IsAnswered (refused : Bool) (rules : Setup) (h : List SignedEvent) (e : SignedEvent) : Type 0 where
  pub is : refuses (notes_of h) (now h e.moment) (caller e.call.call) e.call.mark ≡ refused
  pub reply : e.reply ≡ (answered refused rules (notes_of h) (now h e.moment) e.draw e.call).reply
  pub notes : e.notes ≡ (answered refused rules (notes_of h) (now h e.moment) e.draw e.call).notes

pub is_answered : (signed_fits : Signed → Type 0) (rules : Setup) (h : List SignedEvent) (e : SignedEvent) (refused : Bool)
    → refuses (notes_of h) (now h e.moment) (caller e.call.call) e.call.mark ≡ refused
    → Follows (by_notes signed_answer signed_fits unmarked_lapse) rules h e → IsAnswered refused rules h e
is_answered signed_fits rules h e refused is follows =
    let same = ap (λ b. answered b rules (notes_of h) (now h e.moment) e.draw e.call) is in
    record {
      is = is;
      reply = follows.reply ∙ ap (λ (a : Answer Reply SignedNote). a.reply) same;
      notes = follows.notes ∙ ap (λ (a : Answer Reply SignedNote). a.notes) same;
    }

-- An entry that may stand after a history may stand, without its mark, after a history of the same notes and moments.
pub plain_follows : (fits : Call → Type 0) (rules : Setup) (p : List Event) (h : List SignedEvent) (e : SignedEvent) (refused : Bool)
    → IsAnswered refused rules h e → notes_of p ≡ plain_notes (notes_of h) → now p e.moment ≡ now h e.moment
    → fits Lapse → fits e.call.call → e.moment ≤ last_moment
    → Follows (by_notes gnap_answer fits Lapse) rules p (plain_entry refused e)
plain_follows fits rules p h e true answer notes at lapse fit time =
    record { fits = lapse; in_time = time; reply = refl; notes = ap plain_notes answer.notes }
plain_follows fits rules p h e false answer notes at lapse fit time =
    let same : gnap_answer rules (plain_notes (notes_of h)) (now h e.moment) e.draw e.call.call
    ≡ gnap_answer rules (notes_of p) (now p e.moment) e.draw e.call.call
    = ap (λ (ns : List Note). gnap_answer rules ns (now h e.moment) e.draw e.call.call) (sym notes)
    ∙ ap (λ n. gnap_answer rules (notes_of p) n e.draw e.call.call) (sym at) in
    record {
      fits = fit;
      in_time = time;
      reply = answer.reply ∙ ap (λ (a : Answer Reply Note). a.reply) same;
      notes = ap plain_notes answer.notes ∙ plain-behind e.call (gnap_answer rules (plain_notes (notes_of h)) (now h e.moment) e.draw e.call.call)
          ∙ ap (λ (a : Answer Reply Note). a.notes) same;
    }

pub turned : {X : Type 0} (x : X) (xs : List X) → reverse (x ∷ xs) ≡ reverse xs ++ x ∷ []
turned x xs = reverse-append (x ∷ []) xs

-- Notes, moments and number are the same without marks, whether the history is legal or not.
pub plain-notes : (past : List SignedEvent) → notes_of (reverse (plain_past past)) ≡ plain_notes (notes_of (reverse past))
plain-notes [] = refl
plain-notes (e ∷ past) =
    let pe : Event = plain_entry (is_refused past e) e in
    ap notes_of (turned pe (plain_past past)) ∙ notes-append (reverse (plain_past past)) (pe ∷ [])
    ∙ ap (λ x. notes_of (reverse (plain_past past)) ++ x) (append-nil (plain_notes e.notes))
    ∙ ap (λ x. x ++ plain_notes e.notes) (plain-notes past)
    ∙ sym (filter_map-append plain_in (notes_of (reverse past)) e.notes)
    ∙ ap (λ x. plain_notes (notes_of (reverse past) ++ x)) (sym (append-nil e.notes))
    ∙ ap plain_notes (sym (notes-append (reverse past) (e ∷ [])) ∙ ap notes_of (sym (turned e past)))

pub plain-now : (past : List SignedEvent) (moment : ℕ) → now (reverse (plain_past past)) moment ≡ now (reverse past) moment
plain-now [] moment = refl
plain-now (e ∷ past) moment =
    let pe : Event = plain_entry (is_refused past e) e in
    ap (λ (h : List Event). now h moment) (turned pe (plain_past past)) ∙ now-append (reverse (plain_past past)) pe moment
    ∙ plain-now past (max e.moment moment)
    ∙ sym (now-append (reverse past) e moment) ∙ ap (λ (h : List SignedEvent). now h moment) (sym (turned e past))

pub plain-count : (past : List SignedEvent) → length (plain_past past) ≡ length past
plain-count [] = refl
plain-count (e ∷ past) = ap suc (plain-count past)

plain-legal : (fits : Call → Type 0) (signed_fits : Signed → Type 0) (rules : Setup) (past : List SignedEvent)
    → ((signed : Signed) → signed_fits signed → fits signed.call) → fits Lapse
    → Legal (by_notes signed_answer signed_fits unmarked_lapse) rules (reverse past)
    → Legal (by_notes gnap_answer fits Lapse) rules (reverse (plain_past past))
plain-legal fits signed_fits rules [] call_fits lapse legal = legal-nil (by_notes gnap_answer fits Lapse) rules
plain-legal fits signed_fits rules (e ∷ past) call_fits lapse legal =
    let signed = by_notes signed_answer signed_fits unmarked_lapse in
    let plain = by_notes gnap_answer fits Lapse in
    let pe : Event = plain_entry (is_refused past e) e in
    let whole = subst (λ (h : List SignedEvent). Legal signed rules h) (turned e past) legal in
    let before = plain-legal fits signed_fits rules past call_fits lapse (legal-front signed rules (reverse past) (e ∷ []) whole) in
    let follows = whole (reverse past) e [] refl in
    subst (λ (h : List Event). Legal plain rules h) (sym (turned pe (plain_past past)))
    (legal-append plain rules (reverse (plain_past past)) pe before
    (plain_follows fits rules (reverse (plain_past past)) (reverse past) e (is_refused past e)
    (is_answered signed_fits rules (reverse past) e (is_refused past e) refl follows)
    (plain-notes past) (plain-now past e.moment) lapse (call_fits e.call follows.fits) follows.in_time))

-- For any calls that fit.
pub plain_is : (fits : Call → Type 0) (signed_fits : Signed → Type 0) (rules : Setup) (past : List SignedEvent)
    → ((signed : Signed) → signed_fits signed → fits signed.call) → fits Lapse
    → Legal (by_notes signed_answer signed_fits unmarked_lapse) rules (reverse past) → IsPlain fits rules past
plain_is fits signed_fits rules past call_fits lapse legal = record {
  legal = plain-legal fits signed_fits rules past call_fits lapse legal;
  notes = plain-notes past;
  now = plain-now past;
  count = plain-count past;
}
