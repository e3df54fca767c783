-- What the laws of the machine without marks say of a legal history with marks.
use Rattle.std.proofs.Common.{◌≡◌, ◌∙◌, ◌≤◌, ◌^◌, ℕ, ◌⊎◌, inl, inr, Bool, true, false, List, [], ◌∷◌, ◌++◌, length, reverse, refl, ap, sym, subst, arith, length-append, if◌then◌else◌}
use Rattle.std.proofs.lemmas.Bool.{cases_Bool}
use Rattle.std.specs.Prelude.{Contains}
use Rattle.std.proofs.lemmas.List.{reverse-reverse, length-reverse}
use Rattle.std.proofs.lemmas.List.Elements.{Contains-append_left, Contains-append_right, Contains-push}
use Rattle.histories.specs.History.{Follows, Legal, notes_of, now}
use Rattle.histories.specs.Histories.{legal-append, legal-front}
use Rattle.gnap_model.specs.declared.objects.Setup.{Setup}
use Rattle.gnap_model.specs.declared.objects.ErrorCode.{ErrorCode}
use Rattle.gnap_model.specs.declared.objects.ErrorCode.TheVariants.{InvalidClient, InvalidContinuation}
use Rattle.gnap_model.specs.declared.notes.Note.{Note}
use Rattle.gnap_model.specs.declared.calls.Call.{Call}
use Rattle.gnap_model.specs.declared.calls.Call.TheVariants.{Lapse}
use Rattle.gnap_model.specs.declared.calls.Reply.{Reply}
use Rattle.gnap_model.specs.declared.calls.TokenOut.{TokenOut}
use Rattle.gnap_model.specs.declared.calls.Reply.TheVariants.{Error, Lapsed}
use Rattle.gnap_model.specs.Common.{Text}
use Rattle.gnap_model.specs.Notes.{Event}
use Rattle.gnap_model.specs.Answer.{gnap_answer}
use Rattle.gnap_model.specs.Legal.{HasFewAsks, grant_law}
use Rattle.gnap_laws.specs.Laws.{SaysActive, RefusalsHaveCauses, RotatedKeysBind}
use Rattle.gnap_laws.specs.Refusals.{HasCause}
use Rattle.gnap_laws.specs.Provenance.{is_active, presented_door, ends_token, IsRefusedAfter}
use Rattle.gnap_laws.specs.BoundKeys.{RotatesTo, TellsKey, IsBoundTo}
use Rattle.gnap_laws.proofs.Members.{contains_none, contains_cases}
use Rattle.signed_calls.specs.Marks.{SignedEvent, SignedFewAsks, plain_notes, signed_law}
use Rattle.signed_calls.specs.PlainPast.{is_refused_after, is_refused, plain_entry, plain_past, plain_history, bare_entry, bare_past}
use Rattle.signed_calls.specs.Laws.{SaysActiveAt, HasSignedCause, IsRefusedSince}
use Rattle.signed_calls.proofs.PlainPasts.{IsAnswered, is_answered, plain_follows, plain_is, plain-notes, plain-now, plain-count, turned}
use Rattle.signed_calls.proofs.Alike.{IsRefusal, AreAlike, lapse_at, uses_up-alike}

-- ---- an entry, with its mark and without

noteless : (b : Event) (ns : List Note) → ns ≡ [] → record (lapse_at b) { notes = ns } ≡ lapse_at b
noteless b ns none = ap (λ (ns : List Note). let e : Event = record (lapse_at b) { notes = ns } in e) none

entry_alike : (refused : Bool) (rules : Setup) (h : List SignedEvent) (e : SignedEvent) → IsAnswered refused rules h e
    → (plain_entry refused e ≡ bare_entry e) ⊎ IsRefusal (plain_entry refused e) (bare_entry e)
entry_alike true rules h e answer = inr (record {
  lapse = noteless (bare_entry e) (plain_notes e.notes) (ap plain_notes answer.notes);
  reply = answer.reply;
  notes = ap plain_notes answer.notes;
})
entry_alike false rules h e answer = inl refl

legal_last : (rules : Setup) (e : SignedEvent) (past : List SignedEvent) → Legal signed_law rules (reverse (e ∷ past))
    → Follows signed_law rules (reverse past) e × Legal signed_law rules (reverse past)
legal_last rules e past legal =
    let whole = subst (λ (h : List SignedEvent). Legal signed_law rules h) (turned e past) legal in
    (whole (reverse past) e [] refl, legal-front signed_law rules (reverse past) (e ∷ []) whole)

pub past_alike : (rules : Setup) (past : List SignedEvent) → Legal signed_law rules (reverse past) → AreAlike (plain_past past) (bare_past past)
past_alike rules [] legal = tt
past_alike rules (e ∷ past) legal =
    let last = legal_last rules e past legal in (
      entry_alike (is_refused past e) rules (reverse past) e (is_answered SignedFewAsks rules (reverse past) e (is_refused past e) refl last.0),
      past_alike rules past last.1,
    )

-- ---- a history, with marks and without

pub reversed_legal : (rules : Setup) (h : List SignedEvent) → Legal signed_law rules h → Legal signed_law rules (reverse (reverse h))
reversed_legal rules h legal = subst (λ (x : List SignedEvent). Legal signed_law rules x) (sym (reverse-reverse h)) legal

pub history_legal : (rules : Setup) (h : List SignedEvent) → Legal signed_law rules h → Legal grant_law rules (plain_history h)
history_legal rules h legal =
    (plain_is HasFewAsks SignedFewAsks rules (reverse h) (λ signed fit. fit) tt (reversed_legal rules h legal)).legal

pub history_notes : (h : List SignedEvent) → notes_of (plain_history h) ≡ plain_notes (notes_of h)
history_notes h = plain-notes (reverse h) ∙ ap (λ (x : List SignedEvent). plain_notes (notes_of x)) (reverse-reverse h)

pub history_now : (h : List SignedEvent) (moment : ℕ) → now (plain_history h) moment ≡ now h moment
history_now h moment = plain-now (reverse h) moment ∙ ap (λ (x : List SignedEvent). now x moment) (reverse-reverse h)

pub history_few : (h : List SignedEvent) → length h ≤ 2 ^ 58 → length (plain_history h) ≤ 2 ^ 58
history_few h few =
    let a = length-reverse (plain_past (reverse h)) in
    let b = plain-count (reverse h) in
    let c = length-reverse h in
    omega arith

-- the history without marks, and its next entry
pub history_next : (rules : Setup) (before : List SignedEvent) (e : SignedEvent) (after : List SignedEvent) (refused : Bool)
    → is_refused_after before e ≡ refused → Legal signed_law rules (before ++ e ∷ after)
    → Legal grant_law rules (plain_history before ++ plain_entry refused e ∷ [])
history_next rules before e after refused is legal =
    let follows : Follows signed_law rules before e = legal before e after refl in
    legal-append grant_law rules (plain_history before) (plain_entry refused e)
    (history_legal rules before (legal-front signed_law rules before (e ∷ after) legal))
    (plain_follows HasFewAsks rules (plain_history before) before e refused (is_answered SignedFewAsks rules before e refused is follows)
    (history_notes before) (history_now before e.moment) tt follows.fits follows.in_time)

-- ---- the laws

pub signed_cause : (rules : Setup) (before : List SignedEvent) (e : SignedEvent) (after : List SignedEvent) (code : ErrorCode) → RefusalsHaveCauses
    → Legal signed_law rules (before ++ e ∷ after) → e.reply ≡ Error code → HasSignedCause rules before e code
signed_cause rules before e after code law legal error =
    let follows : Follows signed_law rules before e = legal before e after refl in
    elim (cases_Bool (is_refused_after before e)) [
      | inl is ↦ let answer = is_answered SignedFewAsks rules before e true is follows in
          let told : e.reply ≡ Error InvalidClient = answer.reply in inl (is, cc (told, error))
      | inr is ↦ inr (
        is,
        subst (λ n. HasCause rules (reverse (plain_notes (notes_of before))) n e.call.call code) (history_now before e.moment)
            (subst (λ (ns : List Note). HasCause rules (reverse ns) (now (plain_history before) e.moment) e.call.call code) (history_notes before)
            (law rules (plain_history before) (plain_entry false e) [] code (history_next rules before e after false is legal) error)),
      )
    ]

pub signed_says : (rules : Setup) (before : List SignedEvent) (e : SignedEvent) → SaysActive → Follows signed_law rules before e → SaysActiveAt rules before e
signed_says rules before e law follows = λ server value binding wanted is call.
    let answer = is_answered SignedFewAsks rules before e false is follows in
    ap is_active (answer.reply
    ∙ ap (λ (x : Call). (gnap_answer rules (plain_notes (notes_of before)) (now before e.moment) e.draw x).reply) call)
    ∙ law rules (plain_notes (notes_of before)) (now before e.moment) e.draw server value binding wanted

pub refused_since : (rules : Setup) (past : List SignedEvent) (value : Text) → Legal signed_law rules (reverse past)
    → IsRefusedAfter value (plain_past past) → IsRefusedSince value past
refused_since rules [] value legal refused = tt
refused_since rules (e ∷ past) value legal refused =
    let last = legal_last rules e past legal in (
      λ used presented. elim (cases_Bool (is_refused past e)) [
        | inl is ↦ (is_answered SignedFewAsks rules (reverse past) e true is last.0).reply
            ∙ sym (ap (λ b. Error (if b then InvalidClient else InvalidContinuation)) is)
        | inr is ↦ sym (ap (λ b. if b then Lapsed else e.reply) is)
            ∙ refused.0 (uses_up-alike value (plain_past past) (bare_past past) (past_alike rules past last.1) ∙ used)
            (ap (λ b. presented_door (if b then Lapse else e.call.call)) is ∙ presented)
            ∙ sym (ap (λ b. Error (if b then InvalidClient else InvalidContinuation)) is)
      ],
      refused_since rules past value last.1 refused.1,
    )

-- ---- a rotation that named a key

contains_turned : {A : Type 0} (y : A) (xs : List A) → Contains xs y → Contains (reverse xs) y
contains_turned y [] h = h
contains_turned {A} y (x ∷ xs) h = subst (λ (l : List A). Contains l y) (sym (turned x xs)) (elim (contains_cases x y xs h) [
  | inl same ↦ subst (λ z. Contains (reverse xs ++ x ∷ []) z) same (Contains-push (reverse xs) x)
  | inr there ↦ Contains-append_left (reverse xs) (x ∷ []) y (contains_turned y xs there)
])

-- an entry whose mark isn't refused is among the plain ones, with its call and its reply
accepted_among : (rules : Setup) (past : List SignedEvent) (e : SignedEvent) → Legal signed_law rules (reverse past) → (e.reply ≡ Error InvalidClient → ⊥)
    → Contains past e → Contains (plain_past past) (plain_entry false e)
accepted_among rules [] e legal accepted h = contains_none e h
accepted_among rules (x ∷ past) e legal accepted h =
    let last = legal_last rules x past legal in
    elim (contains_cases x e past h) [
      | inl same ↦ elim (cases_Bool (is_refused past x)) [
        | inl is ↦ absurd (accepted (ap (λ (y : SignedEvent). y.reply) (sym same) ∙ (is_answered SignedFewAsks rules (reverse past) x true is last.0).reply))
        | inr is ↦ subst (λ (y : Event). Contains (y ∷ plain_past past) (plain_entry false e))
            (ap (plain_entry false) (sym same) ∙ ap (λ b. plain_entry b x) (sym is))
            (Contains-append_left (plain_entry false e ∷ []) (plain_past past) (plain_entry false e) (Contains-push [] (plain_entry false e)))
      ]
      | inr there ↦ Contains-append_right (plain_entry (is_refused past x) x ∷ []) (plain_past past) (plain_entry false e)
          (accepted_among rules past e last.1 accepted there)
    ]

pub few_before : (before : List SignedEvent) (e : SignedEvent) (after : List SignedEvent) → length (before ++ e ∷ after) ≤ 2 ^ 58 → length before ≤ 2 ^ 58
few_before before e after few = let k = length-append before (e ∷ after) in omega arith

refused_bound : (trail : List Note) (at : ℕ) (call : Call) (reply : Reply) (token : TokenOut) (key : Text) → reply ≡ Error InvalidClient
    → IsBoundTo trail at call reply token key
refused_bound trail at call reply token key is = record {
  told = λ server binding wanted asks. subst (λ (r : Reply). TellsKey r key) (sym is) tt;
  kept = λ presents other. ap ends_token is;
  refused = λ live found presents other. is;
}

pub signed_bound : (rules : Setup) (before : List SignedEvent) (e : SignedEvent) (after : List SignedEvent) (rotation : SignedEvent) (token : TokenOut)
    (key : Text) → RotatedKeysBind
    → Legal signed_law rules (before ++ e ∷ after) → length before ≤ 2 ^ 58 → Contains before rotation → RotatesTo rotation.call.call rotation.reply token key
    → IsBoundTo (reverse (plain_notes (notes_of before))) (now before e.moment) e.call.call e.reply token key
signed_bound rules before e after rotation token key law legal few among rotates =
    let follows : Follows signed_law rules before e = legal before e after refl in
    let front = legal-front signed_law rules before (e ∷ after) legal in
    let plain_among : Contains (plain_history before) (plain_entry false rotation) = contains_turned (plain_entry false rotation) (plain_past (reverse before))
    (accepted_among rules (reverse before) rotation (reversed_legal rules before front) (λ refused. let no = sym refused ∙ rotates.3 in cc no)
    (contains_turned rotation before among)) in
    elim (cases_Bool (is_refused_after before e)) [
      | inl is ↦ refused_bound (reverse (plain_notes (notes_of before))) (now before e.moment) e.call.call e.reply token key
          (is_answered SignedFewAsks rules before e true is follows).reply
      | inr is ↦ subst (λ n. IsBoundTo (reverse (plain_notes (notes_of before))) n e.call.call e.reply token key) (history_now before e.moment)
          (subst (λ (ns : List Note). IsBoundTo (reverse ns) (now (plain_history before) e.moment) e.call.call e.reply token key) (history_notes before)
          (law rules (plain_history before) (plain_entry false e) [] (plain_entry false rotation) token key (history_next rules before e after false is legal)
          (history_few before few) plain_among rotates))
    ]
