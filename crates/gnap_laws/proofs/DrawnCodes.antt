-- The user code that an entry draws is that of no live interaction.
use Rattle.std.proofs.Common.{ℕ, ◌≡◌, ◌≤◌, ◌<◌, inl, inr, Bool, true, false, List, [], ◌∷◌, ◌++◌, length, map, refl, sym, ◌∙◌, ap, subst, arith, Option, Some, None}
use Rattle.std.specs.Option.{option_or}
use Rattle.std.specs.Prelude.{◌*◌, not, is_some, slice_index, if◌then◌else◌, Contains}
use Rattle.std.specs.List.{list_any, filter_map, cons_option}
use Rattle.std.proofs.lemmas.Bool.{or_parts}
use Rattle.std.proofs.lemmas.Cmp.{nat_list_eq_equiv}
use Rattle.std.proofs.lemmas.List.Sums.{count_by-le-length}
use Rattle.gnap_model.specs.Common.{Text, same_text, first_of, some_if, is_text}
use Rattle.gnap_model.specs.Limits.{live_limit}
use Rattle.gnap_model.specs.Values.{code_count, free_code}
use Rattle.gnap_laws.specs.Types.{Ask, Modes, OpeningNote, RoundNote, TokenNote, Note}
use Rattle.gnap_model.specs.Asked.{wants_code}
use Rattle.gnap_model.specs.declared.notes.Note.TheVariants.{Opened, Terms, Approved, Issued, Pended}
use Rattle.gnap_model.specs.Standing.{GrantState, grant_state, is_finalized, is_live_opening, live_grants, live_round, interaction_in, live_rounds, live_codes, code_in, round_by_code}
use Rattle.gnap_model.specs.Standing.GrantState.{IsPending, IsApproved, IsFinalized}
use Rattle.gnap_model.specs.Actions.{Action, Supply, outcome_of, grant_outcome, pending_outcome, tokens_for, door_note, terms_for, instance_of, retire, round_for}
use Rattle.gnap_model.specs.Actions.Action.{OpenAtOnce, OpenAsking, TakeDecision, RenewDoor, CollectDecision, WrongReference, LastWrongReference, RefuseAndFinalize, ModifyAtOnce, ModifyAsking, CancelGrant, RotateToken, RevokeToken}
use Rattle.gnap_model.proofs.TrailNotes.{HasNote, EachNote, each-append, each_of}
use Rattle.gnap_model.proofs.LookUps.{some_if_some}
use Rattle.gnap_laws.proofs.NoteCounts.{count_weaker, length-filter_map}
use Rattle.gnap_laws.proofs.Members.{contains_none, contains_cases}
use Rattle.gnap_laws.proofs.FreeCodes.{free_code_free}

-- ---- few codes are taken

round_goes_on : (trail : List Note) (now : ℕ) (s : GrantState) → is_some (live_round trail now s) ≡ true → not (is_finalized s) ≡ true
round_goes_on trail now (IsPending r) e = refl
round_goes_on trail now IsApproved e = refl
round_goes_on trail now IsFinalized e = cc e

interaction_live : (trail : List Note) (now : ℕ) (n : Note) → is_some (interaction_in trail now n) ≡ true → is_live_opening trail now n ≡ true
interaction_live trail now (Opened o) e = round_goes_on trail now (grant_state trail o.grant now) e
interaction_live trail now _ e = cc e

-- no more than grants are live
pub codes_few : (trail : List Note) (now : ℕ) → length (live_codes trail now) ≤ live_grants trail now
codes_few trail now =
    let codes = length-filter_map code_in (live_rounds trail now) in
    let fewer = count_by-le-length (λ (r : RoundNote). is_some (code_in r)) (live_rounds trail now) in
    let rounds = length-filter_map (interaction_in trail now) trail in
    let live = count_weaker (λ n. is_some (interaction_in trail now n)) (is_live_opening trail now) trail (λ n h e. interaction_live trail now n e) in omega
    arith

-- ---- a code that is none of the taken ones is that of no live interaction

abbrev with_code : Text → List RoundNote → Option RoundNote
with_code code rounds = first_of (λ (round : RoundNote). some_if (is_text code round.code) round) rounds

untaken : (code : Text) (rounds : List RoundNote) → list_any (same_text code) (filter_map code_in rounds) ≡ false → with_code code rounds ≡ None
untaken code [] e = refl
untaken code (r ∷ rs) e = at r.code (untaken code rs) e
  where
    at : (c : Option Text) → (list_any (same_text code) (filter_map code_in rs) ≡ false → with_code code rs ≡ None)
        → list_any (same_text code) (cons_option c (filter_map code_in rs)) ≡ false → option_or (some_if (is_text code c) r) (with_code code rs) ≡ None
    at None rest h = rest h
    at (Some v) rest h =
        let parts = or_parts (same_text code v) (list_any (same_text code) (filter_map code_in rs)) h in
        let other : same_text v code ≡ false = nat_list_eq_equiv.symm v code ∙ parts.0 in
        ap (λ b. option_or (some_if b r) (with_code code rs)) other ∙ rest parts.1

-- ---- what an action draws

abbrev HasFreeCode : List Text → Note → Type 0
HasFreeCode taken (Pended r) = (code : Text) → r.code ≡ Some code → list_any (same_text code) taken ≡ false
HasFreeCode taken _ = Unit {0}

issued_free : (taken : List Text) (ts : List TokenNote) → EachNote (HasFreeCode taken) (map Issued ts)
issued_free taken [] = tt
issued_free taken (t ∷ ts) = (tt, issued_free taken ts)

retire_free : (taken : List Text) (ts : List TokenNote) (rest : List Note) → EachNote (HasFreeCode taken) rest
    → EachNote (HasFreeCode taken) (retire ts ++ rest)
retire_free taken [] rest h = h
retire_free taken (t ∷ ts) rest h = (tt, retire_free taken ts rest h)

grant_free : (taken : List Text) (supply : Supply) (o : OpeningNote) (before : List Note) (asks : List Ask) (single : Bool) (subject instance : Option Text)
    → EachNote (HasFreeCode taken) before
    → EachNote (HasFreeCode taken) (grant_outcome supply o before asks single subject instance).notes
grant_free taken supply o before asks single subject instance h =
    each-append (HasFreeCode taken) (before ++ map Issued (tokens_for supply o asks 0)) (door_note supply o (2 * length asks) ∷ [])
    (each-append (HasFreeCode taken) before (map Issued (tokens_for supply o asks 0)) h (issued_free taken (tokens_for supply o asks 0))) (tt, tt)

round_free : (supply : Supply) (o : OpeningNote) (modes : Modes) → length supply.taken < code_count
    → HasFreeCode supply.taken (Pended (round_for supply o modes))
round_free supply o modes few code e =
    let is = some_if_some (wants_code modes) (free_code (length supply.taken) (slice_index supply.words 47) supply.taken) code e in
    subst (λ (c : Text). list_any (same_text c) supply.taken ≡ false) is.1 (free_code_free (slice_index supply.words 47) supply.taken few)

pend_free : (supply : Supply) (o : OpeningNote) (before : List Note) (modes : Modes) (instance : Option Text) → length supply.taken < code_count
    → EachNote (HasFreeCode supply.taken) before
    → EachNote (HasFreeCode supply.taken) (pending_outcome supply o before modes instance).notes
pend_free supply o before modes instance few h =
    each-append (HasFreeCode supply.taken) before (door_note supply o 0 ∷ Pended (round_for supply o modes) ∷ []) h (tt, (round_free supply o modes few, tt))

action_free : (supply : Supply) (action : Action) → length supply.taken < code_count → EachNote (HasFreeCode supply.taken) (outcome_of supply action).notes
action_free supply (TakeDecision r rights request) few = (tt, tt)
action_free supply (RenewDoor o) few = (tt, tt)
action_free supply (WrongReference o) few = (tt, tt)
action_free supply (LastWrongReference o) few = (tt, (tt, tt))
action_free supply (RefuseAndFinalize o code) few = (tt, tt)
action_free supply (CancelGrant o) few = (tt, tt)
action_free supply (RotateToken o t key) few = (tt, (tt, tt))
action_free supply (RevokeToken t false) few = (tt, tt)
action_free supply (OpenAtOnce o request) few =
    grant_free supply.taken supply o (Opened o ∷ Terms (terms_for o request) ∷ Approved o.grant [] ∷ []) request.asks request.single None (instance_of o)
    (tt, (tt, (tt, tt)))
action_free supply (OpenAsking o request modes) few = pend_free supply o (Opened o ∷ Terms (terms_for o request) ∷ []) modes (instance_of o) few (tt, (tt, tt))
action_free supply (CollectDecision o w d asks) few =
    grant_free supply.taken supply o (Approved o.grant d.rights ∷ []) asks w.single (if w.subject then d.subject else None) None (tt, tt)
action_free supply (ModifyAtOnce o consent retired request) few =
    grant_free supply.taken supply o (retire retired ++ Terms (terms_for o request) ∷ Approved o.grant consent ∷ []) request.asks request.single None None
    (retire_free supply.taken retired (Terms (terms_for o request) ∷ Approved o.grant consent ∷ []) (tt, (tt, tt)))
action_free supply (ModifyAsking o retired request modes) few =
    pend_free supply o (retire retired ++ Terms (terms_for o request) ∷ []) modes None few
    (retire_free supply.taken retired (Terms (terms_for o request) ∷ []) (tt, tt))
action_free supply _ few = tt

-- ---- an entry

contained_has : (ns : List Note) (n : Note) → Contains ns n → HasNote ns n
contained_has [] n h = contains_none n h
contained_has (m ∷ ns) n h = elim (contains_cases m n ns h) [
  | inl here ↦ inl (sym here)
  | inr rest ↦ inr (contained_has ns n rest)
]

-- The code of a round that an action begins is that of no live interaction, where no more grants are live than may be.
pub drawn_free : (supply : Supply) (trail : List Note) (action : Action) (round : RoundNote) (code : Text) → supply.taken ≡ live_codes trail supply.now
    → live_grants trail supply.now ≤ live_limit
    → Contains (outcome_of supply action).notes (Pended round) → round.code ≡ Some code → round_by_code trail supply.now code ≡ None
drawn_free supply trail action round code taken limit contains e =
    let same = ap (length {A = Text}) taken in
    let fewer = codes_few trail supply.now in
    let free : list_any (same_text code) supply.taken ≡ false =
    each_of (HasFreeCode supply.taken) (outcome_of supply action).notes (Pended round) (action_free supply action (omega arith))
    (contained_has (outcome_of supply action).notes (Pended round) contains) code e in
    untaken code (live_rounds trail supply.now) (ap (list_any (same_text code)) (sym taken) ∙ free)
