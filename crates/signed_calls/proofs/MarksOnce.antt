-- At most one entry passes with a key and a mark: it leaves a note that the others meet.
use Rattle.std.proofs.Common.{◌≡◌, ◌==◌, ◌∙◌, ℕ, ◌+◌, ◌≤◌, inl, inr, Bool, true, false, not, ◌&&◌, ◌||◌, nat_lt, nat_le, List, [], ◌∷◌, ◌++◌, map, reverse, refl, ap, sym, subst, append-nil, if◌then◌else◌, arith, ltb-false}
use Rattle.std.proofs.lemmas.Bool.{and_parts, and_from, or_parts, cases_Bool, le-leb}
use Rattle.std.proofs.lemmas.Bool.Decides.{Decides-eqb}
use Rattle.std.proofs.lemmas.List.Folds.{list_any-append}
use Rattle.std.proofs.Math.Bool.{or-true}
use Rattle.std.proofs.lemmas.Slice.Eq.{bytes_eq-Decides}
use Rattle.std.specs.List.{list_any}
use Rattle.std.specs.Option.{option_to_list}
use Rattle.std.specs.declared.option.Option.{Option}
use Rattle.std.specs.declared.option.Option.TheVariants.{None, Some}
use Rattle.histories.specs.History.{Follows, Legal, notes_of, now}
use Rattle.histories.specs.Histories.{legal-front, notes-append}
use Rattle.gnap_model.specs.Common.{Text, same_text}
use Rattle.gnap_model.specs.declared.objects.Setup.{Setup}
use Rattle.gnap_laws.specs.Refusals.{caller}
use Rattle.gnap_model.specs.Answer.{gnap_answer}
use Rattle.signed_calls.specs.Marks.{Mark, SignedNote, SignedEvent, SignedFewAsks, signed_law, remembers, refuses, is_remembered, mark_notes, nonce_note, plain_notes, mark_time}
use Rattle.signed_calls.specs.declared.signed.SignedNote.TheVariants.{Plain}
use Rattle.signed_calls.specs.Laws.{is_mark, is_invalid_client, passes_with, IsMarkOnce}
use Rattle.signed_calls.proofs.PlainPasts.{IsAnswered, is_answered, turned}

-- What an entry that passes with the key and the mark shows: the mark wasn't too old, its nonce wasn't remembered, and now it is.
record Passed (key : Text) (mark : Mark) (h : List SignedEvent) (e : SignedEvent) : Type 0 where
  in_time : now h e.moment ≤ mark.created + mark_time
  fresh : list_any (remembers (now h e.moment) key mark.nonce) (notes_of h) ≡ false
  noted : (n : ℕ) → n ≤ mark.created + mark_time → list_any (remembers n key mark.nonce) e.notes ≡ true

-- the mark of the entry is this one
record HasMark (key : Text) (mark : Mark) (e : SignedEvent) : Type 0 where
  other : Mark
  is : e.call.mark ≡ Some other
  nonce : other.nonce ≡ mark.nonce
  created : other.created ≡ mark.created
  caller_is : caller e.call.call ≡ key
  remembered : is_remembered e.call.call ≡ true
  passes : not (is_invalid_client e.reply) ≡ true

mark_there : (mark : Mark) (given : Option Mark) → is_mark mark given ≡ true
    → (other : Mark) × (given ≡ Some other) × (other.nonce ≡ mark.nonce) × (other.created ≡ mark.created)
mark_there mark None is = absurd (cc)
mark_there mark (Some other) is =
    let parts = and_parts (same_text other.nonce mark.nonce) (other.created == mark.created) is in
    (other, refl, (bytes_eq-Decides other.nonce mark.nonce).0 parts.0, (Decides-eqb other.created mark.created).0 parts.1)

has_mark : (key : Text) (mark : Mark) (e : SignedEvent) → passes_with key mark e ≡ true → HasMark key mark e
has_mark key mark e is =
    let a = and_parts (is_remembered e.call.call && same_text (caller e.call.call) key && is_mark mark e.call.mark)
    (not (is_invalid_client e.reply)) is in
    let b = and_parts (is_remembered e.call.call && same_text (caller e.call.call) key) (is_mark mark e.call.mark) a.0 in
    let c = and_parts (is_remembered e.call.call) (same_text (caller e.call.call) key) b.0 in
    let m = mark_there mark e.call.mark b.1 in
    record {
      other = m.0;
      is = m.1;
      nonce = m.2;
      created = m.3;
      caller_is = (bytes_eq-Decides (caller e.call.call) key).0 c.1;
      remembered = c.0;
      passes = a.1;
    }

not_refused : (refused : Bool) (rules : Setup) (h : List SignedEvent) (e : SignedEvent) → IsAnswered refused rules h e
    → not (is_invalid_client e.reply) ≡ true → refused ≡ false
not_refused true rules h e answer passes = let other = ap (λ r. not (is_invalid_client r)) answer.reply in cc (other, passes)
not_refused false rules h e answer passes = refl

note_there : (now : ℕ) (key : Text) (mark other : Mark) → other.nonce ≡ mark.nonce → other.created ≡ mark.created → now ≤ mark.created + mark_time
    → remembers now key mark.nonce (nonce_note key other) ≡ true
note_there now key mark other nonce created in_time =
    and_from (same_text key key && same_text other.nonce mark.nonce) (nat_le now (other.created + mark_time))
    (and_from (same_text key key) (same_text other.nonce mark.nonce) ((bytes_eq-Decides key key).1 refl) ((bytes_eq-Decides other.nonce mark.nonce).1 nonce))
    (le-leb now (other.created + mark_time) (omega arith))

passed : (rules : Setup) (h : List SignedEvent) (e : SignedEvent) (key : Text) (mark : Mark)
    → Follows signed_law rules h e → passes_with key mark e ≡ true → Passed key mark h e
passed rules h e key mark follows is =
    let m = has_mark key mark e is in
    let at : ℕ = now h e.moment in
    let unrefused : refuses (notes_of h) at (caller e.call.call) e.call.mark ≡ false
    = not_refused (refuses (notes_of h) at (caller e.call.call) e.call.mark) rules h e
    (is_answered SignedFewAsks rules h e (refuses (notes_of h) at (caller e.call.call) e.call.mark) refl follows) m.passes in
    let answer = is_answered SignedFewAsks rules h e false unrefused follows in
    let same : refuses (notes_of h) at key (Some m.other) ≡ false
    = sym (ap (λ k. refuses (notes_of h) at k e.call.mark) m.caller_is ∙ ap (refuses (notes_of h) at key) m.is) ∙ unrefused in
    let parts = or_parts (nat_lt (m.other.created + mark_time) at) (list_any (remembers at key m.other.nonce) (notes_of h)) same in
    let marks : mark_notes e.call ≡ nonce_note key m.other ∷ []
    = ap (λ b. if b then map (nonce_note (caller e.call.call)) (option_to_list e.call.mark) else []) m.remembered
    ∙ ap (λ o. map (nonce_note (caller e.call.call)) (option_to_list o)) m.is ∙ ap (λ k. nonce_note k m.other ∷ []) m.caller_is in
    record {
      in_time = subst (λ n. at ≤ n + mark_time) m.created (ltb-false (m.other.created + mark_time) at parts.0);
      fresh = ap (λ n. list_any (remembers at key n) (notes_of h)) (sym m.nonce) ∙ parts.1;
      noted = λ n le. ap (list_any (remembers n key mark.nonce)) answer.notes
          ∙ ap (λ (ns : List SignedNote). list_any (remembers n key mark.nonce)
          (ns ++ map Plain (gnap_answer rules (plain_notes (notes_of h)) at e.draw e.call.call).notes)) marks
          ∙ ap (λ b. b || list_any (remembers n key mark.nonce) (map Plain (gnap_answer rules (plain_notes (notes_of h)) at e.draw e.call.call).notes))
          (note_there n key mark m.other m.nonce m.created le);
    }

-- the notes of a history are those of the entries before the last, and those of the last
notes_last : (e : SignedEvent) (past : List SignedEvent) → notes_of (reverse (e ∷ past)) ≡ notes_of (reverse past) ++ e.notes
notes_last e past = ap notes_of (turned e past) ∙ notes-append (reverse past) (e ∷ []) ∙ ap (λ x. notes_of (reverse past) ++ x) (append-nil e.notes)

legal_whole : (rules : Setup) (e : SignedEvent) (past : List SignedEvent) → Legal signed_law rules (reverse (e ∷ past))
    → Legal signed_law rules (reverse past ++ e ∷ [])
legal_whole rules e past legal = subst (λ (h : List SignedEvent). Legal signed_law rules h) (turned e past) legal

-- Where an entry passed, its nonce is remembered up to the end of its time.
kept : (rules : Setup) (past : List SignedEvent) (key : Text) (mark : Mark) (n : ℕ)
    → Legal signed_law rules (reverse past) → n ≤ mark.created + mark_time → list_any (passes_with key mark) past ≡ true
    → list_any (remembers n key mark.nonce) (notes_of (reverse past)) ≡ true
kept rules [] key mark n legal le is = cc is
kept rules (e ∷ past) key mark n legal le is =
    let whole = legal_whole rules e past legal in
    let test = remembers n key mark.nonce in
    let split : list_any test (notes_of (reverse (e ∷ past))) ≡ (list_any test (notes_of (reverse past)) || list_any test e.notes)
    = ap (list_any test) (notes_last e past) ∙ list_any-append test (notes_of (reverse past)) e.notes in
    elim (cases_Bool (passes_with key mark e)) [
      | inl this ↦ split ∙ ap (λ b. list_any test (notes_of (reverse past)) || b)
          ((passed rules (reverse past) e key mark (whole (reverse past) e [] refl) this).noted n le)
          ∙ or-true (list_any test (notes_of (reverse past)))
      | inr other ↦ split ∙ ap (λ b. b || list_any test e.notes)
          (kept rules past key mark n (legal-front signed_law rules (reverse past) (e ∷ []) whole) le
          (sym (ap (λ b. b || list_any (passes_with key mark) past) other) ∙ is))
    ]

pub mark_once : (rules : Setup) (past : List SignedEvent) (key : Text) (mark : Mark)
    → Legal signed_law rules (reverse past) → IsMarkOnce key mark past
mark_once rules [] key mark legal = tt
mark_once rules (e ∷ past) key mark legal =
    let whole = legal_whole rules e past legal in
    let before = legal-front signed_law rules (reverse past) (e ∷ []) whole in (
      λ this earlier.
          let p = passed rules (reverse past) e key mark (whole (reverse past) e [] refl) this in
          let there = kept rules past key mark (now (reverse past) e.moment) before p.in_time earlier in
          let none = p.fresh in
          cc (there, none),
      mark_once rules past key mark before,
    )
