-- A token of a grant is told to be active before the end alone with which the grant was asked for.
use Rattle.std.proofs.Common.{◌≡◌, ◌∙◌, ◌⊎◌, inl, inr, ℕ, ◌<◌, ◌≤◌, ◌^◌, Bool, true, false, List, [], ◌∷◌, ◌++◌, length, reverse, refl, sym, ap, subst, arith, length-append, Option, Some, None}
use Rattle.std.specs.Prelude.{◌||◌, ◌&&◌, nat_le, Contains, if◌then◌else◌}
use Rattle.std.specs.List.{list_any}
use Rattle.std.proofs.lemmas.Bool.{and_parts, cases_Bool}
use Rattle.std.proofs.lemmas.Bool.Decides.{nat_tests}
use Rattle.std.proofs.lemmas.List.{length-reverse}
use Rattle.std.proofs.lemmas.List.Elements.{Contains-append_cases, Contains-push_cases, filter_map-append}
use Rattle.std.proofs.lemmas.Slice.Eq.{bytes_eq-Decides}
use Rattle.histories.specs.History.{Follows, Legal, notes_of, now}
use Rattle.histories.specs.Histories.{legal-front, notes-append}
use Rattle.gnap_model.specs.Common.{Text, same_text, first_of, AreDistinct}
use Rattle.gnap_laws.specs.Types.{Right, Binding, Setup, Call, Reply, OpeningNote, TokenNote, Note}
use Rattle.gnap_model.specs.Keys.{key_of, server_names}
use Rattle.gnap_model.specs.Judging.{token_suits, active, serves_all}
use Rattle.gnap_model.specs.Notes.{Event, trail_of, trail_values}
use Rattle.gnap_model.specs.declared.notes.Note.TheVariants.{Opened, Issued}
use Rattle.gnap_model.specs.Standing.{GrantState, opening_in, has_ended, is_approved, is_end_of, grant_state, state_after, state_change_in, is_live, live_token, token_in}
use Rattle.gnap_model.specs.Standing.GrantState.{IsFinalized}
use Rattle.gnap_model.specs.Begin.{begin}
use Rattle.gnap_model.specs.Answer.{gnap_answer, supply_of}
use Rattle.gnap_model.specs.Legal.{IsLegalPast}
use Rattle.gnap_model.specs.declared.objects.ErrorCode.TheVariants.{InvalidClient}
use Rattle.gnap_model.specs.declared.calls.Call.TheVariants.{Begin}
use Rattle.gnap_model.specs.declared.calls.Reply.TheVariants.{Active, Error}
use Rattle.gnap_model.proofs.TrailNotes.{HasNote, note-append_left, note-append_right, note-reverse, first_noted, token_found, opening_noted, opened_found}
use Rattle.gnap_laws.specs.Provenance.{is_active}
use Rattle.gnap_laws.proofs.Active.{says}
use Rattle.gnap_laws.proofs.Bound.{few_values}
use Rattle.gnap_laws.proofs.Doors.{note_one}
use Rattle.gnap_laws.proofs.LiveTokens.{live_parts}
use Rattle.gnap_laws.proofs.NewestFirst.{legal_past, trail-back}
use Rattle.gnap_laws.proofs.Serials.{past_serialled, serialled_distinct}
use Rattle.signed_calls.specs.Marks.{SignedFewAsks, plain_in, plain_notes, signed_law}
use Rattle.signed_calls.specs.PlainPast.{is_refused_after, plain_history}
use Rattle.signed_calls.proofs.PlainPasts.{is_answered, plain-behind}
use Rattle.signed_calls.proofs.SignedPasts.{history_legal, history_notes, history_few, signed_says}
use Rattle.grant_machine.specs.Gnap.{GnapEntry, gnap}
use Rattle.grant_machine.proofs.Weaker.{signed_legal}
use Rattle.derived_tokens.specs.Terms.{OpensUntil, TellsActive, EndsWithItsTerm}
use Rattle.derived_tokens.proofs.Openings.{AreOpenedOnce, opened_once, opened_by, begin_ends}

-- ---- one trail

contained_has : (ns : List Note) (n : Note) → Contains ns n → HasNote ns n
contained_has [] n h = absurd (let k = h.1 in omega (arith, k))
contained_has (m ∷ ns) n h = elim (Contains-append_cases (m ∷ []) ns n h) [
  | inl here ↦ inl (first (Contains-push_cases [] m n here))
  | inr later ↦ inr (contained_has ns n later)
]
  where
    first : Contains [] n ⊎ (m ≡ n) → n ≡ m
    first (inl none) = absurd (let k = none.1 in omega (arith, k))
    first (inr is) = sym is

-- what is told to be active is a live token
record IsLive (trail : List Note) (now : ℕ) (value : Text) : Type 0 where
  token : TokenNote
  issued : HasNote trail (Issued token)
  same : token.value ≡ value
  live : is_live trail now token ≡ true

suited : (names : List Text) (binding : Option Binding) (wanted : Option (List Right)) (found : Option TokenNote)
    → token_suits names binding wanted found ≡ true
    → (t : TokenNote) × (found ≡ Some t)
suited names binding wanted None is = absurd cc
suited names binding wanted (Some t) is = (t, refl)

live_noted : (trail : List Note) (now : ℕ) (value : Text) (t : TokenNote) → live_token trail now value ≡ Some t → IsLive trail now value
live_noted trail now value t found =
    let test : TokenNote → Bool = λ u. same_text u.value value && is_live trail now u in
    let at = first_noted (token_in test) trail t found in
    let is = token_found test t at.0 at.2 in
    let parts = and_parts (same_text t.value value) (is_live trail now t) is.1 in
    record { token = t; issued = subst (HasNote trail) is.0 at.1; same = (bytes_eq-Decides t.value value).0 parts.0; live = parts.1 }

active_live : (rules : Setup) (trail : List Note) (now : ℕ) (server value : Text) (binding : Option Binding) (wanted : Option (List Right))
    → active rules trail now server value binding wanted ≡ true → IsLive trail now value
active_live rules trail now server value binding wanted is =
    let found = suited (server_names (key_of rules server)) binding wanted (live_token trail now value) is in
    live_noted trail now value found.0 found.1

-- the end of an approved grant hasn't come
not_ended : (closed ended : Bool) (state : GrantState) → is_approved (if closed || ended then IsFinalized else state) ≡ true → ended ≡ false
not_ended true ended state is = absurd cc
not_ended false true state is = absurd cc
not_ended false false state is = refl

before_end : (now end : ℕ) → nat_le end now ≡ false → now < end
before_end now end is = grind (arith, nat_tests, is)

approved_before_end : (trail : List Note) (grant now : ℕ) (o : OpeningNote) → first_of (opening_in grant) trail ≡ Some o
    → is_approved (grant_state trail grant now) ≡ true → now < o.end
approved_before_end trail grant now o found approved =
    before_end now o.end (sym (ap (λ x. has_ended x now) found)
    ∙ not_ended (list_any (is_end_of grant) trail) (has_ended (first_of (opening_in grant) trail) now)
    (state_after (first_of (state_change_in grant) trail) now) approved)

-- a live token's grant hasn't come to the end of its opening
live_before_end : (trail : List Note) (now : ℕ) (token : TokenNote) (o : OpeningNote) → AreDistinct (trail_values trail) → AreOpenedOnce trail
    → HasNote trail (Issued token) → HasNote trail (Opened o) → o.grant ≡ token.grant → IsLive trail now token.value → now < o.end
live_before_end trail now token o distinct once issued opened same live =
    let one : Issued live.token ≡ Issued token = note_one trail (Issued live.token) (Issued token) token.value distinct live.issued issued
    (inr (inl (sym live.same))) (inr (inl refl)) in
    let token_is : live.token ≡ token = cc one in
    let found = opened_found trail o token.grant opened same in
    let at = opening_noted trail token.grant found.0 found.1 in
    let opening_is : found.0 ≡ o = once found.0 o at.0 opened (at.1 ∙ sym same) in
    approved_before_end trail token.grant now o (found.1 ∙ ap Some opening_is)
    (live_parts trail now token (subst (λ (t : TokenNote). is_live trail now t ≡ true) token_is live.live)).approved

-- ---- one history

-- the notes of a legal history without its marks' notes, the newest first
trail_is : (h : List GnapEntry) → trail_of (reverse (plain_history h)) ≡ reverse (plain_notes (notes_of h))
trail_is h = trail-back (plain_history h) ∙ ap reverse (history_notes h)

distinct_trail : (rules : Setup) (h : List GnapEntry) → Legal signed_law rules h → length h ≤ 2 ^ 58
    → AreDistinct (trail_values (reverse (plain_notes (notes_of h))))
distinct_trail rules h legal few =
    let past : List Event = reverse (plain_history h) in
    let is = legal_past rules (plain_history h) (history_legal rules h legal) in
    let short = history_few h few in
    let turned = length-reverse (plain_history h) in
    let values = few_values rules past is in
    subst (λ (ns : List Note). AreDistinct (trail_values ns)) (trail_is h)
    (serialled_distinct (trail_values (trail_of past)) (omega (arith, short, turned, values)) (past_serialled rules past is))

opened_once_in : (rules : Setup) (h : List GnapEntry) → Legal signed_law rules h → AreOpenedOnce (reverse (plain_notes (notes_of h)))
opened_once_in rules h legal =
    subst AreOpenedOnce (trail_is h) (opened_once rules (reverse (plain_history h)) (legal_past rules (plain_history h) (history_legal rules h legal)))

-- an entry's notes stand among those of a history that has it
among : (front middle : List GnapEntry) (e : GnapEntry) (n : Note) → HasNote (plain_notes e.notes) n
    → HasNote (reverse (plain_notes (notes_of (front ++ e ∷ middle)))) n
among front middle e n has =
    note-reverse (plain_notes (notes_of (front ++ e ∷ middle))) n
    (subst (λ (ns : List Note). HasNote ns n)
    (sym (ap plain_notes (notes-append front (e ∷ middle)) ∙ filter_map-append plain_in (notes_of front) (e.notes ++ notes_of middle)
    ∙ ap (λ (ns : List Note). plain_notes (notes_of front) ++ ns) (filter_map-append plain_in e.notes (notes_of middle))))
    (note-append_right (plain_notes (notes_of front)) (plain_notes e.notes ++ plain_notes (notes_of middle)) n
    (note-append_left (plain_notes e.notes) (plain_notes (notes_of middle)) n has)))

-- the end of a grant is the one with which it was asked for, or comes before it
ends_by : (rules : Setup) (front : List GnapEntry) (e : GnapEntry) (end grant : ℕ) (opens : OpensUntil end grant e) → Follows signed_law rules front e
    → opens.opening.end ≤ end
ends_by rules front e end grant opens follows = elim (cases_Bool (is_refused_after front e)) [
  | inl refused ↦ let answer = is_answered SignedFewAsks rules front e true refused follows in
      absurd (subst (λ (ns : List Note). HasNote ns (Opened opens.opening)) (ap plain_notes answer.notes)
      (contained_has (plain_notes e.notes) (Opened opens.opening) opens.opened))
  | inr passed ↦
      let trail : List Note = reverse (plain_notes (notes_of front)) in
      let moment = now front e.moment in
      let answer = is_answered SignedFewAsks rules front e false passed follows in
      let notes = ap plain_notes answer.notes ∙ plain-behind e.call (gnap_answer rules (plain_notes (notes_of front)) moment e.draw e.call.call)
      ∙ ap (λ (c : Call). (gnap_answer rules (plain_notes (notes_of front)) moment e.draw c).notes) opens.asked in
      begin_ends rules trail moment opens.key opens.request end opens.opening
      (opened_by (supply_of trail moment e.draw) (begin rules trail moment opens.key opens.request (Some end)) opens.opening
      (subst (λ (ns : List Note). HasNote ns (Opened opens.opening)) notes (contained_has (plain_notes e.notes) (Opened opens.opening) opens.opened)))
]

-- what an entry is told to be active is live after those before it
told_live : (rules : Setup) (before : List GnapEntry) (f : GnapEntry) (value : Text) → TellsActive value f → Follows signed_law rules before f
    → IsLive (reverse (plain_notes (notes_of before))) (now before f.moment) value
told_live rules before f value tells follows = elim (cases_Bool (is_refused_after before f)) [
  | inl refused ↦ let error = (is_answered SignedFewAsks rules before f true refused follows).reply in
      let told = tells.told in
      absurd (let no : Active tells.access tells.iat tells.exp tells.instance tells.bearer ≡ Error InvalidClient = sym told ∙ error in cc no)
  | inr passed ↦
      let says_so = signed_says rules before f says follows tells.server value tells.binding tells.wanted passed tells.asked in
      let both = sym says_so ∙ ap is_active tells.told in
      active_live rules (reverse (plain_notes (notes_of before))) (now before f.moment) tells.server value tells.binding tells.wanted
      (and_parts (serves_all (server_names (key_of rules tells.server)) tells.wanted)
      (active rules (reverse (plain_notes (notes_of before))) (now before f.moment) tells.server value tells.binding tells.wanted) both).1
]

pub ends_with_its_term : EndsWithItsTerm
ends_with_its_term rules h legal few front middle after e f end token is opens issued tells =
    let before : List GnapEntry = front ++ e ∷ middle in
    let trail : List Note = reverse (plain_notes (notes_of before)) in
    let signed = subst (λ (x : List GnapEntry). Legal signed_law rules x) is (signed_legal rules h legal) in
    let legal_before = legal-front signed_law rules before (f ∷ after) signed in
    let whole = ap length is in
    let parts = length-append before (f ∷ after) in
    let early = ends_by rules front e end token.grant opens (legal_before front e middle refl) in
    let opened = among front middle e (Opened opens.opening) (contained_has (plain_notes e.notes) (Opened opens.opening) opens.opened) in
    let known = note-reverse (plain_notes (notes_of before)) (Issued token) (contained_has (plain_notes (notes_of before)) (Issued token) issued) in
    let live = live_before_end trail (now before f.moment) token opens.opening (distinct_trail rules before legal_before (omega (arith, few, whole, parts)))
    (opened_once_in rules before legal_before) known opened opens.numbered (told_live rules before f token.value tells (signed before f after refl)) in
    omega (arith, live, early)
