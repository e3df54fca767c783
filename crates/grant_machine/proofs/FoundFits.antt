-- What is found in notes that fit, fits.
use Rattle.std.proofs.Common.{◌≡◌, ℕ, Bool, true, false, List, [], ◌∷◌, ◌++◌, reverse, sym, subst, refl, Option, Some, None}
use Rattle.std.specs.List.{AllByRecursion, filter, filter_map, cons_option}
use Rattle.std.specs.Option.{IfSome, option_or, unwrap_or}
use Rattle.std.specs.Prelude.{if◌then◌else◌}
use Rattle.std.proofs.lemmas.List.{reverse-append}
use Rattle.access_rights.specs.Fits.{Fits, IsUtf8Or}
use Rattle.gnap_model.specs.Common.{Text, first_of, some_if, same_text, is_text}
use Rattle.gnap_model.specs.Rights.{covers}
use Rattle.gnap_model.specs.Asked.{asked_rights}
use Rattle.gnap_model.specs.Standing.{StateChange, GrantState, opening_in, terms_in, consent_in, decision_in, token_in, state_change_in, named_in, interaction_in, live_round, state_after, grant_state, is_round_of, round_trail, decision_of, consent_of, live_rounds, round_by_handle, round_by_code}
use Rattle.gnap_model.specs.Standing.StateChange.{ToPending, ToApproved}
use Rattle.gnap_model.specs.Standing.GrantState.{IsPending, IsApproved, IsFinalized}
use Rattle.gnap_model.specs.Continue.{decided_part, decided_ask}
use Rattle.gnap_model.specs.declared.notes.Note.{Note}
use Rattle.gnap_model.specs.declared.notes.Note.TheVariants.{Opened, Terms, Approved, Issued, Door, Pended, DecidedAs, Finalized, Wrong, Retired}
use Rattle.gnap_model.specs.declared.notes.OpeningNote.{OpeningNote}
use Rattle.gnap_model.specs.declared.notes.TermsNote.{TermsNote}
use Rattle.gnap_model.specs.declared.notes.RoundNote.{RoundNote}
use Rattle.gnap_model.specs.declared.notes.DecisionNote.{DecisionNote}
use Rattle.gnap_model.specs.declared.notes.TokenNote.{TokenNote}
use Rattle.gnap_model.specs.declared.notes.Why.{Why}
use Rattle.gnap_model.specs.declared.objects.Ask.{Ask}
use Rattle.gnap_model.specs.declared.rights.Right.{Right}
use Rattle.gnap_objects.specs.Fits.{AskFits}
use Rattle.gnap_objects.specs.CallsFit.{RightsFit, NoteFits, NotesFit}

-- ---- lists

pub all-append : {X : Type 0} (P : X → Type 0) (xs ys : List X) → AllByRecursion P xs → AllByRecursion P ys → AllByRecursion P (xs ++ ys)
all-append P [] ys hx hy = hy
all-append P (x ∷ xs) ys hx hy = (hx.0, all-append P xs ys hx.1 hy)

pub all-reverse : {X : Type 0} (P : X → Type 0) (xs : List X) → AllByRecursion P xs → AllByRecursion P (reverse xs)
all-reverse P [] h = tt
all-reverse {X} P (x ∷ xs) h =
    subst (λ (ys : List X). AllByRecursion P ys) (sym (reverse-append (x ∷ []) xs)) (all-append P (reverse xs) (x ∷ []) (all-reverse P xs h.1) (h.0, tt))

pub all-filter : {X : Type 0} (P : X → Type 0) (test : X → Bool) (xs : List X) → AllByRecursion P xs → AllByRecursion P (filter test xs)
all-filter P test [] h = tt
all-filter {X} P test (x ∷ xs) h = kept (test x) (all-filter P test xs h.1)
  where
    kept : (b : Bool) → AllByRecursion P (filter test xs) → AllByRecursion P (if b then x ∷ filter test xs else filter test xs)
    kept true rest = (h.0, rest)
    kept false rest = rest

all-cons_option : {X : Type 0} (P : X → Type 0) (x : Option X) (xs : List X) → IfSome x P → AllByRecursion P xs → AllByRecursion P (cons_option x xs)
all-cons_option P None xs hx h = h
all-cons_option P (Some x) xs hx h = (hx, h)

pub if_both : {A : Type 0} (P : A → Type 0) (b : Bool) (x y : A) → P x → P y → P (if b then x else y)
if_both P true x y hx hy = hx
if_both P false x y hx hy = hy

-- ---- what is found

some_if_fits : {X : Type 0} (P : X → Type 0) (b : Bool) (x : X) → P x → IfSome (some_if b x) P
some_if_fits P true x h = h
some_if_fits P false x h = tt

or_fits : {X : Type 0} (P : X → Type 0) (x y : Option X) → IfSome x P → IfSome y P → IfSome (option_or x y) P
or_fits P None y hx hy = hy
or_fits P (Some x) y hx hy = hx

pub first_fits : {X Y : Type 0} (Q : X → Type 0) (P : Y → Type 0) (look : X → Option Y) → ((x : X) → Q x → IfSome (look x) P)
    → (xs : List X) → AllByRecursion Q xs → IfSome (first_of look xs) P
first_fits Q P look each [] h = tt
first_fits Q P look each (x ∷ xs) h = or_fits P (look x) (first_of look xs) (each x h.0) (first_fits Q P look each xs h.1)

-- a fact on notes, by what they note
by_note : (Q : Note → Type 0) → ((o : OpeningNote) → Q (Opened o)) → ((t : TermsNote) → Q (Terms t))
    → ((grant : ℕ) (consent : List Right) → Q (Approved grant consent))
    → ((t : TokenNote) → Q (Issued t)) → ((grant : ℕ) (value : Text) (earliest : ℕ) → Q (Door grant value earliest)) → ((r : RoundNote) → Q (Pended r))
    → ((d : DecisionNote) → Q (DecidedAs d)) → ((grant : ℕ) → Q (Finalized grant)) → ((grant : ℕ) → Q (Wrong grant))
    → ((serial : ℕ) (why : Why) → Q (Retired serial why))
    → (note : Note) → Q note
by_note Q opened terms approved issued door pended decided finalized wrong retired (Opened o) = opened o
by_note Q opened terms approved issued door pended decided finalized wrong retired (Terms t) = terms t
by_note Q opened terms approved issued door pended decided finalized wrong retired (Approved grant consent) = approved grant consent
by_note Q opened terms approved issued door pended decided finalized wrong retired (Issued t) = issued t
by_note Q opened terms approved issued door pended decided finalized wrong retired (Door grant value earliest) = door grant value earliest
by_note Q opened terms approved issued door pended decided finalized wrong retired (Pended r) = pended r
by_note Q opened terms approved issued door pended decided finalized wrong retired (DecidedAs d) = decided d
by_note Q opened terms approved issued door pended decided finalized wrong retired (Finalized grant) = finalized grant
by_note Q opened terms approved issued door pended decided finalized wrong retired (Wrong grant) = wrong grant
by_note Q opened terms approved issued door pended decided finalized wrong retired (Retired serial why) = retired serial why

-- what the look-up gives of a note that fits, fits
abbrev Gives : {X : Type 0} → (X → Type 0) → (Note → Option X) → Note → Type 0
Gives P look note = NoteFits note → IfSome (look note) P

abbrev pub OpeningFits : OpeningNote → Type 0
OpeningFits o = NoteFits (Opened o)

abbrev pub TermsFit : TermsNote → Type 0
TermsFit t = NoteFits (Terms t)

abbrev pub TokenNoteFits : TokenNote → Type 0
TokenNoteFits t = NoteFits (Issued t)

abbrev pub RoundFits : RoundNote → Type 0
RoundFits r = NoteFits (Pended r)

abbrev pub DecidedFits : DecisionNote → Type 0
DecidedFits d = NoteFits (DecidedAs d)

pub opening_fits : (grant : ℕ) (trail : List Note) → NotesFit trail → IfSome (first_of (opening_in grant) trail) OpeningFits
opening_fits grant = first_fits NoteFits OpeningFits (opening_in grant) (by_note (Gives OpeningFits (opening_in grant))
    (λ o fit. some_if_fits OpeningFits _ o fit) (λ _ _. tt) (λ _ _ _. tt) (λ _ _. tt) (λ _ _ _ _. tt) (λ _ _. tt) (λ _ _. tt) (λ _ _. tt) (λ _ _. tt)
    (λ _ _ _. tt))

pub terms_fit : (grant : ℕ) (trail : List Note) → NotesFit trail → IfSome (first_of (terms_in grant) trail) TermsFit
terms_fit grant = first_fits NoteFits TermsFit (terms_in grant) (by_note (Gives TermsFit (terms_in grant))
    (λ _ _. tt) (λ t fit. some_if_fits TermsFit _ t fit) (λ _ _ _. tt) (λ _ _. tt) (λ _ _ _ _. tt) (λ _ _. tt) (λ _ _. tt) (λ _ _. tt) (λ _ _. tt)
    (λ _ _ _. tt))

decision_fits : (grant : ℕ) (trail : List Note) → NotesFit trail → IfSome (first_of (decision_in grant) trail) DecidedFits
decision_fits grant = first_fits NoteFits DecidedFits (decision_in grant) (by_note (Gives DecidedFits (decision_in grant))
    (λ _ _. tt) (λ _ _. tt) (λ _ _ _. tt) (λ _ _. tt) (λ _ _ _ _. tt) (λ _ _. tt) (λ d fit. some_if_fits DecidedFits _ d fit) (λ _ _. tt) (λ _ _. tt)
    (λ _ _ _. tt))

pub token_fits : (test : TokenNote → Bool) (trail : List Note) → NotesFit trail → IfSome (first_of (token_in test) trail) TokenNoteFits
token_fits test = first_fits NoteFits TokenNoteFits (token_in test) (by_note (Gives TokenNoteFits (token_in test))
    (λ _ _. tt) (λ _ _. tt) (λ _ _ _. tt) (λ t fit. some_if_fits TokenNoteFits _ t fit) (λ _ _ _ _. tt) (λ _ _. tt) (λ _ _. tt) (λ _ _. tt) (λ _ _. tt)
    (λ _ _ _. tt))

pub named_fits : (whole : List Note) (now : ℕ) (value : Text) (trail : List Note) → NotesFit trail
    → IfSome (first_of (named_in whole now value) trail) OpeningFits
named_fits whole now value = first_fits NoteFits OpeningFits (named_in whole now value) (by_note (Gives OpeningFits (named_in whole now value))
    (λ o fit. some_if_fits OpeningFits _ o fit) (λ _ _. tt) (λ _ _ _. tt) (λ _ _. tt) (λ _ _ _ _. tt) (λ _ _. tt) (λ _ _. tt) (λ _ _. tt) (λ _ _. tt)
    (λ _ _ _. tt))

pub consent_fits : (grant : ℕ) (trail : List Note) → NotesFit trail → RightsFit (consent_of trail grant)
consent_fits grant trail fit = or_none (first_of (consent_in grant) trail)
    (first_fits NoteFits RightsFit (consent_in grant) (by_note (Gives RightsFit (consent_in grant))
    (λ _ _. tt) (λ _ _. tt) (λ _ consent fit. some_if_fits RightsFit _ consent fit) (λ _ _. tt) (λ _ _ _ _. tt) (λ _ _. tt) (λ _ _. tt) (λ _ _. tt) (λ _ _. tt)
    (λ _ _ _. tt)) trail fit)
  where
    or_none : (consent : Option (List Right)) → IfSome consent RightsFit → RightsFit (unwrap_or consent [])
    or_none None fit = tt
    or_none (Some consent) fit = fit

-- ---- rounds

abbrev ChangeFits : StateChange → Type 0
ChangeFits (ToPending r) = RoundFits r
ChangeFits ToApproved = Unit {0}

abbrev pub StateFits : GrantState → Type 0
StateFits (IsPending r) = RoundFits r
StateFits IsApproved = Unit {0}
StateFits IsFinalized = Unit {0}

pub state_fits : (trail : List Note) (grant now : ℕ) → NotesFit trail → StateFits (grant_state trail grant now)
state_fits trail grant now fit = if_both StateFits _ IsFinalized (state_after (first_of (state_change_in grant) trail) now) tt
    (after (first_of (state_change_in grant) trail) (first_fits NoteFits ChangeFits (state_change_in grant) (by_note (Gives ChangeFits (state_change_in grant))
    (λ _ _. tt) (λ _ _. tt) (λ _ _ _. some_if_fits ChangeFits _ ToApproved tt) (λ _ _. tt) (λ _ _ _ _. tt)
    (λ r fit. some_if_fits ChangeFits _ (ToPending r) fit) (λ _ _. tt) (λ _ _. tt) (λ _ _. tt) (λ _ _ _. tt))
    trail fit))
  where
    after : (change : Option StateChange) → IfSome change ChangeFits → StateFits (state_after change now)
    after None h = tt
    after (Some ToApproved) h = tt
    after (Some (ToPending r)) h = if_both StateFits _ IsFinalized (IsPending r) tt h

round_trail_fits : (trail : List Note) (grant : ℕ) → NotesFit trail → NotesFit (round_trail trail grant)
round_trail_fits [] grant fit = tt
round_trail_fits (note ∷ trail) grant fit = if_both NotesFit (is_round_of grant note) [] (note ∷ round_trail trail grant) tt
    (fit.0, round_trail_fits trail grant fit.1)

pub decision_of_fits : (trail : List Note) (grant : ℕ) → NotesFit trail → IfSome (decision_of trail grant) DecidedFits
decision_of_fits trail grant fit = decision_fits grant (round_trail trail grant) (round_trail_fits trail grant fit)

live_round_fits : (whole : List Note) (now : ℕ) (state : GrantState) → StateFits state → IfSome (live_round whole now state) RoundFits
live_round_fits whole now (IsPending r) fit = some_if_fits RoundFits _ r fit
live_round_fits whole now IsApproved fit = tt
live_round_fits whole now IsFinalized fit = tt

interaction_fits : (whole : List Note) (now : ℕ) → NotesFit whole → (note : Note) → IfSome (interaction_in whole now note) RoundFits
interaction_fits whole now fit = by_note (λ note. IfSome (interaction_in whole now note) RoundFits)
    (λ o. live_round_fits whole now (grant_state whole o.grant now) (state_fits whole o.grant now fit)) (λ _. tt) (λ _ _. tt) (λ _. tt) (λ _ _ _. tt) (λ _. tt)
    (λ _. tt) (λ _. tt) (λ _. tt) (λ _ _. tt)

rounds_fit : (whole : List Note) (now : ℕ) → NotesFit whole → (trail : List Note) → AllByRecursion RoundFits (filter_map (interaction_in whole now) trail)
rounds_fit whole now fit [] = tt
rounds_fit whole now fit (note ∷ trail) = all-cons_option RoundFits (interaction_in whole now note) (filter_map (interaction_in whole now) trail)
    (interaction_fits whole now fit note) (rounds_fit whole now fit trail)

pub by_handle_fits : (trail : List Note) (now : ℕ) (handle : Text) → NotesFit trail → IfSome (round_by_handle trail now handle) RoundFits
by_handle_fits trail now handle fit = first_fits RoundFits RoundFits (λ (r : RoundNote). some_if (same_text r.handle handle) r)
    (λ r h. some_if_fits RoundFits _ r h) (live_rounds trail now) (rounds_fit trail now fit trail)

pub by_code_fits : (trail : List Note) (now : ℕ) (code : Text) → NotesFit trail → IfSome (round_by_code trail now code) RoundFits
by_code_fits trail now code fit = first_fits RoundFits RoundFits (λ (r : RoundNote). some_if (is_text code r.code) r)
    (λ r h. some_if_fits RoundFits _ r h) (live_rounds trail now) (rounds_fit trail now fit trail)

-- ---- asks

pub asked_fit : (asks : List Ask) → AllByRecursion AskFits asks → RightsFit (asked_rights asks)
asked_fit [] h = tt
asked_fit (ask ∷ asks) h = all-append Fits ask.rights (asked_rights asks) h.0.1 (asked_fit asks h.1)

decided_ask_fits : (decided : List Right) (ask : Ask) (part : List Right) → decided_part decided ask.rights ≡ part → IsUtf8Or ask.label → RightsFit part
    → IfSome (decided_ask decided ask) AskFits
decided_ask_fits decided ask [] is label fit = rw is tt
decided_ask_fits decided ask (right ∷ rights) is label fit = rw is (label, fit)

-- The asks with those of their rights that a decision covers fit.
pub decided_fit : (decided : List Right) (asks : List Ask) → AllByRecursion AskFits asks → AllByRecursion AskFits (filter_map (decided_ask decided) asks)
decided_fit decided [] h = tt
decided_fit decided (ask ∷ asks) h = all-cons_option AskFits (decided_ask decided ask) (filter_map (decided_ask decided) asks)
    (decided_ask_fits decided ask (decided_part decided ask.rights) refl h.0.0 (all-filter Fits (λ right. covers decided (right ∷ [])) ask.rights h.0.1))
    (decided_fit decided asks h.1)
