-- A token that was rotated to a key is that key's.
use Rattle.std.proofs.Common.{ℕ, ◌≡◌, ◌≢◌, ◌∙◌, inl, inr, Bool, true, false, List, [], ◌∷◌, ◌++◌, reverse, refl, sym, ap, subst, Option, Some, None}
use Rattle.std.specs.Prelude.{◌&&◌, not, Contains, if◌then◌else◌}
use Rattle.std.specs.List.{list_any}
use Rattle.std.proofs.lemmas.Bool.{and_from, and_parts}
use Rattle.std.proofs.lemmas.Option.{same_Some}
use Rattle.std.proofs.lemmas.Slice.Eq.{bytes_eq-Decides}
use Rattle.histories.specs.History.{Follows, Legal, notes_of, now}
use Rattle.histories.specs.Histories.{notes-append}
use Rattle.gnap_model.specs.Common.{Text, same_text, AreDistinct, first_of, some_if}
use Rattle.gnap_model.specs.Keys.{key_of, server_names}
use Rattle.gnap_laws.specs.Types.{Right, Binding, Setup, Call, Reply, ErrorCode, TokenOut, OpeningNote, TokenNote, Note}
use Rattle.gnap_model.specs.declared.objects.ErrorCode.TheVariants.{InvalidAccess, InvalidClient, InvalidRequest, InvalidRotation}
use Rattle.gnap_model.specs.declared.calls.Call.TheVariants.{Introspect, Rotate, Revoke}
use Rattle.gnap_model.specs.declared.calls.Reply.TheVariants.{Rotated}
use Rattle.gnap_model.specs.declared.notes.Note.TheVariants.{Issued}
use Rattle.gnap_model.specs.Notes.{Event, trail_values}
use Rattle.gnap_model.specs.Standing.{grant_state, GrantState, is_approved, is_finalized, is_live, is_managed, is_replacement, live_token, managed_token, opening_in, token_in}
use Rattle.gnap_model.specs.Standing.GrantState.{IsPending, IsApproved, IsFinalized}
use Rattle.gnap_model.specs.Judging.{serves_all, suits}
use Rattle.gnap_model.specs.Actions.{Action, Supply, outcome_of, on_found, with_owner, successor, token_out}
use Rattle.gnap_model.specs.Actions.Action.{Refuse, ShowToken, ShowInactive, RotateToken}
use Rattle.gnap_model.specs.Begin.{show_token}
use Rattle.gnap_model.specs.Manage.{can_bind, rotate_key, on_grant}
use Rattle.gnap_model.specs.Answer.{action_of, supply_of}
use Rattle.gnap_model.specs.Legal.{grant_law}
use Rattle.gnap_laws.specs.Refusals.{caller}
use Rattle.gnap_laws.specs.Provenance.{presented_manage, ends_token}
use Rattle.gnap_laws.specs.BoundKeys.{RotatesTo, TellsKey, IsBoundTo}
use Rattle.gnap_model.proofs.TrailNotes.{HasNote, note-append_left, note-append_right, note-reverse, first_noted, found_in, token_found, managed_issued}
use Rattle.gnap_laws.proofs.Causes.{if_both, if_known}
use Rattle.gnap_laws.proofs.Doors.{note_one}
use Rattle.gnap_laws.proofs.Members.{contains_none, contains_cases}
use Rattle.gnap_laws.proofs.AliveTokens.{not_replaced}
use Rattle.gnap_laws.proofs.LiveTokens.{live_parts}
use Rattle.gnap_laws.proofs.Opened.{HaveOrigins, issued_opened}

-- ---- what the rotation noted

-- a token of the key is noted, with these values
abbrev pub IsNotedWith : List Note → TokenOut → Text → Type 0
IsNotedWith notes token key = (t : TokenNote) × HasNote notes (Issued t) × (t.value ≡ token.value) × (t.manage ≡ token.manage) × (t.key ≡ key)

-- where an action hands out a rotated token, it notes it as the key's
abbrev Binds : Supply → TokenOut → Text → Action → Type 0
Binds supply token key action = (outcome_of supply action).reply ≡ Rotated token → IsNotedWith (outcome_of supply action).notes token key

found_binds : {A : Type 0} (supply : Supply) (token : TokenOut) (key : Text) (code : ErrorCode) (act : A → Action) (found : Option A)
    → ((x : A) → Binds supply token key (act x)) → Binds supply token key (on_found code act found)
found_binds supply token key code act None h e = cc e
found_binds supply token key code act (Some x) h e = h x e

rotated_binds : (supply : Supply) (token : TokenOut) (key : Text) (o : OpeningNote) (t : TokenNote) → Binds supply token key (RotateToken o t key)
rotated_binds supply token key o t e =
    let same : token_out supply.now (successor supply o t key) ≡ token = cc e in
    (successor supply o t key, inr (inl refl), ap (λ (x : TokenOut). x.value) same, ap (λ (x : TokenOut). x.manage) same, refl)

rotate_binds : (rules : Setup) (supply : Supply) (trail : List Note) (owner value key : Text) (token : TokenOut)
    → Binds supply token key (action_of rules supply trail (Rotate owner value (Some key)))
rotate_binds rules supply trail owner value key token =
    found_binds supply token key InvalidRotation _ (managed_token trail supply.now value)
    (λ t. if_both (Binds supply token key) (is_live trail supply.now t) _ (Refuse InvalidRotation)
    (found_binds supply token key InvalidRotation _ (first_of (opening_in t.grant) trail)
    (λ o. if_both (Binds supply token key) (same_text t.key owner) (rotate_key rules (Some key) t o) (Refuse InvalidClient)
    (if_both (Binds supply token key) (can_bind rules t.bearer key) (RotateToken o t key) (Refuse InvalidRotation) (rotated_binds supply token key o t)
    (λ e. cc e))
    (λ e. cc e)))
    (λ e. cc e))

-- an entry of the history, with those before it and after it
entry_split : (h : List Event) (e : Event) → Contains h e → (before : List Event) × (after : List Event) × (h ≡ before ++ e ∷ after)
entry_split [] e h = contains_none e h
entry_split (x ∷ xs) e h = elim (contains_cases x e xs h) [
  | inl here ↦ ([], xs, ap (λ (y : Event). y ∷ xs) here)
  | inr there ↦ let rest = entry_split xs e there in (x ∷ rest.0, rest.1, ap (λ (l : List Event). x ∷ l) rest.2)
]

-- After the rotation the token is noted as the key's.
pub rotation_noted : (rules : Setup) (h : List Event) (rotation : Event) (token : TokenOut) (key : Text) → Legal grant_law rules h
    → Contains h rotation → RotatesTo rotation.call rotation.reply token key → IsNotedWith (reverse (notes_of h)) token key
rotation_noted rules h rotation token key legal among rotates =
    let split = entry_split h rotation among in
    let before = split.0 in
    let follows : Follows grant_law rules before rotation = legal before rotation split.1 split.2 in
    let trail : List Note = reverse (notes_of before) in
    let supply = supply_of trail (now before rotation.moment) rotation.draw in
    let call = rotates.2 in
    let answered : (outcome_of supply (action_of rules supply trail (Rotate rotates.0 rotates.1 (Some key)))).reply ≡ Rotated token =
    ap (λ (c : Call). (outcome_of supply (action_of rules supply trail c)).reply) (sym call) ∙ sym follows.reply ∙ rotates.3 in
    let noted = rotate_binds rules supply trail rotates.0 rotates.1 key token answered in
    let here : HasNote rotation.notes (Issued noted.0) = subst (λ (ns : List Note). HasNote ns (Issued noted.0))
    (ap (λ (c : Call). (outcome_of supply (action_of rules supply trail c)).notes) (sym call) ∙ sym follows.notes) noted.1 in
    let whole : notes_of h ≡ notes_of before ++ (rotation.notes ++ notes_of split.1) = ap notes_of split.2 ∙ notes-append before (rotation ∷ split.1) in
    let among_all : HasNote (notes_of h) (Issued noted.0) = subst (λ (ns : List Note). HasNote ns (Issued noted.0)) (sym whole)
    (note-append_right (notes_of before) (rotation.notes ++ notes_of split.1) (Issued noted.0)
    (note-append_left rotation.notes (notes_of split.1) (Issued noted.0) here)) in
    (noted.0, note-reverse (notes_of h) (Issued noted.0) among_all, noted.2, noted.3, noted.4)

-- ---- so a token that has one of the values is the key's

by_value : (trail : List Note) (token : TokenOut) (key : Text) (t : TokenNote) → AreDistinct (trail_values trail) → IsNotedWith trail token key
    → HasNote trail (Issued t) → t.value ≡ token.value → (t.manage ≡ token.manage) × (t.key ≡ key)
by_value trail token key t distinct noted issued e =
    let one : Issued t ≡ Issued noted.0 = note_one trail (Issued t) (Issued noted.0) t.value distinct issued noted.1 (inr (inl refl))
    (inr (inl (e ∙ sym noted.2))) in
    let same : t ≡ noted.0 = cc one in
    (ap (λ (u : TokenNote). u.manage) same ∙ noted.3, ap (λ (u : TokenNote). u.key) same ∙ noted.4)

by_manage : (trail : List Note) (t u : TokenNote) → AreDistinct (trail_values trail)
    → HasNote trail (Issued t) → HasNote trail (Issued u) → t.manage ≡ u.manage → t ≡ u
by_manage trail t u distinct is_t is_u e =
    let one : Issued t ≡ Issued u = note_one trail (Issued t) (Issued u) t.manage distinct is_t is_u (inl refl) (inl e) in cc one

managed_key : (trail : List Note) (now : ℕ) (token : TokenOut) (key : Text) (t : TokenNote) → AreDistinct (trail_values trail) → IsNotedWith trail token key
    → managed_token trail now token.manage ≡ Some t → t.key ≡ key
managed_key trail now token key t distinct noted found =
    let issued = managed_issued trail now token.manage t found in
    ap (λ (u : TokenNote). u.key) (by_manage trail t noted.0 distinct issued.0 noted.1 (issued.1 ∙ sym noted.3)) ∙ noted.4

-- ---- an introspection

shown_key : (supply : Supply) (key : Text) (names : List Text) (binding : Option Binding) (wanted : Option (List Right)) (t : Option TokenNote)
    → ((u : TokenNote) → t ≡ Some u → u.key ≡ key) → TellsKey (outcome_of supply (show_token names binding wanted t)).reply key
shown_key supply key names binding wanted None h = tt
shown_key supply key names binding wanted (Some u) h =
    if_both (λ (a : Action). TellsKey (outcome_of supply a).reply key) (suits names binding wanted u.rights u.bearer) (ShowToken _ u) ShowInactive (h u refl) tt

live_noted : (trail : List Note) (now : ℕ) (value : Text) (t : TokenNote) → live_token trail now value ≡ Some t
    → HasNote trail (Issued t) × (t.value ≡ value) × (is_live trail now t ≡ true)
live_noted trail now value t e =
    let r = first_noted (token_in (λ u. same_text u.value value && is_live trail now u)) trail t e in
    let f = token_found (λ u. same_text u.value value && is_live trail now u) t r.0 r.2 in
    let both = and_parts (same_text t.value value) (is_live trail now t) f.1 in
    (subst (HasNote trail) f.0 r.1, (bytes_eq-Decides t.value value).0 both.0, both.1)

tells_key : (rules : Setup) (supply : Supply) (trail : List Note) (server : Text) (binding : Option Binding) (wanted : Option (List Right)) (token : TokenOut)
    (key : Text)
    → AreDistinct (trail_values trail) → IsNotedWith trail token key
    → TellsKey (outcome_of supply (action_of rules supply trail (Introspect server token.value binding wanted))).reply key
tells_key rules supply trail server binding wanted token key distinct noted =
    if_both (λ (a : Action). TellsKey (outcome_of supply a).reply key) (serves_all (server_names (key_of rules server)) wanted) _ (Refuse InvalidAccess)
    (shown_key supply key (server_names (key_of rules server)) binding wanted (live_token trail supply.now token.value)
    (λ u found. let live = live_noted trail supply.now token.value u found in (by_value trail token key u distinct noted live.0 live.1).1))
    tt

-- ---- a rotation or a revocation by another key

-- what isn't the owner's is refused
not_owners : (act : OpeningNote → Action) (owner key : Text) (o : OpeningNote) → key ≢ owner → with_owner act owner key o ≡ Refuse InvalidClient
not_owners act owner key o other = if_known (λ (a : Action). a ≡ Refuse InvalidClient) (same_text owner key) (act o) (Refuse InvalidClient)
    (λ same. absurd (other (sym ((bytes_eq-Decides owner key).0 same)))) (λ different. refl)

abbrev Keeps : Supply → Action → Type 0
Keeps supply action = ends_token (outcome_of supply action).reply ≡ false

found_keeps : {A : Type 0} (supply : Supply) (code : ErrorCode) (act : A → Action) (found : Option A) → ((x : A) → found ≡ Some x → Keeps supply (act x))
    → Keeps supply (on_found code act found)
found_keeps supply code act None h = refl
found_keeps supply code act (Some x) h = h x refl

grant_keeps : (supply : Supply) (code : ErrorCode) (trail : List Note) (key : Text) (t : TokenNote) (act : OpeningNote → Action) → key ≢ t.key
    → Keeps supply (on_grant code trail key t act)
grant_keeps supply code trail key t act other = found_keeps supply code (with_owner act t.key key) (first_of (opening_in t.grant) trail)
    (λ o found. ap (λ (a : Action). ends_token (outcome_of supply a).reply) (not_owners act t.key key o other))

other_keeps : (rules : Setup) (supply : Supply) (trail : List Note) (call : Call) (token : TokenOut) (key : Text) → AreDistinct (trail_values trail)
    → IsNotedWith trail token key → presented_manage call ≡ Some token.manage → caller call ≢ key → Keeps supply (action_of rules supply trail call)
other_keeps rules supply trail (Rotate owner value new_key) token key distinct noted presents other =
    found_keeps supply InvalidRotation _ (managed_token trail supply.now value)
    (λ t found. let is = managed_key trail supply.now token key t distinct noted
    (ap (managed_token trail supply.now) (sym (same_Some value token.manage presents)) ∙ found) in
    if_both (Keeps supply) (is_live trail supply.now t) _ (Refuse InvalidRotation)
    (grant_keeps supply InvalidRotation trail owner t (rotate_key rules new_key t) (λ same. other (same ∙ is))) refl)
other_keeps rules supply trail (Revoke owner value) token key distinct noted presents other =
    found_keeps supply InvalidRequest _ (managed_token trail supply.now value)
    (λ t found. let is = managed_key trail supply.now token key t distinct noted
    (ap (managed_token trail supply.now) (sym (same_Some value token.manage presents)) ∙ found) in
    grant_keeps supply InvalidRequest trail owner t _ (λ same. other (same ∙ is)))
other_keeps rules supply trail _ token key distinct noted presents other = cc presents

-- ---- and while the token is live

approved_goes_on : (s : GrantState) → is_approved s ≡ true → not (is_finalized s) ≡ true
approved_goes_on IsApproved e = refl
approved_goes_on (IsPending round) e = refl
approved_goes_on IsFinalized e = cc e

-- the management value of a live token names it
live_managed : (trail : List Note) (now : ℕ) (t : TokenNote) → AreDistinct (trail_values trail) → HasNote trail (Issued t) → is_live trail now t ≡ true
    → managed_token trail now t.manage ≡ Some t
live_managed trail now t distinct issued live =
    let parts = live_parts trail now t live in
    let managed : is_managed trail now t ≡ true = and_from (not (list_any (is_replacement t.serial) trail)) (not (is_finalized (grant_state trail t.grant now)))
    (ap not (not_replaced t.serial trail parts.kept)) (approved_goes_on (grant_state trail t.grant now) parts.approved) in
    let test : TokenNote → Bool = λ u. same_text u.manage t.manage && is_managed trail now u in
    let passes : test t ≡ true = and_from (same_text t.manage t.manage) (is_managed trail now t) ((bytes_eq-Decides t.manage t.manage).1 refl) managed in
    let found = found_in (token_in test) trail (Issued t) t issued (ap (λ b. some_if b t) passes) in
    let named = managed_issued trail now t.manage found.0 found.1 in
    found.1 ∙ ap Some (by_manage trail found.0 t distinct named.0 issued named.1)

found_is : {A : Type 0} (code : ErrorCode) (act : A → Action) (found : Option A) (x : A) (action : Action) → found ≡ Some x → act x ≡ action
    → on_found code act found ≡ action
found_is code act found x action is acts = ap (on_found code act) is ∙ acts

grant_refuses : (code : ErrorCode) (trail : List Note) (key : Text) (t : TokenNote) (act : OpeningNote → Action) → HaveOrigins trail → HasNote trail (Issued t)
    → key ≢ t.key
    → on_grant code trail key t act ≡ Refuse InvalidClient
grant_refuses code trail key t act origins issued other =
    let opens = issued_opened trail t origins issued in
    found_is code (with_owner act t.key key) (first_of (opening_in t.grant) trail) opens.0 (Refuse InvalidClient) opens.1
    (not_owners act t.key key opens.0 other)

other_refused : (rules : Setup) (supply : Supply) (trail : List Note) (call : Call) (t : TokenNote) → AreDistinct (trail_values trail) → HaveOrigins trail
    → HasNote trail (Issued t) → is_live trail supply.now t ≡ true → presented_manage call ≡ Some t.manage → caller call ≢ t.key
    → action_of rules supply trail call ≡ Refuse InvalidClient
other_refused rules supply trail (Rotate owner value new_key) t distinct origins issued live presents other =
    found_is InvalidRotation _ (managed_token trail supply.now value) t (Refuse InvalidClient)
    (ap (managed_token trail supply.now) (same_Some value t.manage presents) ∙ live_managed trail supply.now t distinct issued live)
    (ap (λ b. if b then on_grant InvalidRotation trail owner t (rotate_key rules new_key t) else Refuse InvalidRotation) live
    ∙ grant_refuses InvalidRotation trail owner t (rotate_key rules new_key t) origins issued other)
other_refused rules supply trail (Revoke owner value) t distinct origins issued live presents other =
    found_is InvalidRequest _ (managed_token trail supply.now value) t (Refuse InvalidClient)
    (ap (managed_token trail supply.now) (same_Some value t.manage presents) ∙ live_managed trail supply.now t distinct issued live)
    (grant_refuses InvalidRequest trail owner t _ origins issued other)
other_refused rules supply trail _ t distinct origins issued live presents other = cc presents

-- What a call is answered after such a rotation.
pub bound_to : (rules : Setup) (supply : Supply) (trail : List Note) (call : Call) (reply : Reply) (token : TokenOut) (key : Text)
    → AreDistinct (trail_values trail)
    → HaveOrigins trail → IsNotedWith trail token key → reply ≡ (outcome_of supply (action_of rules supply trail call)).reply
    → IsBoundTo trail supply.now call reply token key
bound_to rules supply trail call reply token key distinct origins noted answered = record {
  told = λ server binding wanted asks. subst (λ (r : Reply). TellsKey r key)
      (sym (answered ∙ ap (λ (c : Call). (outcome_of supply (action_of rules supply trail c)).reply) asks))
      (tells_key rules supply trail server binding wanted token key distinct noted);
  kept = λ presents other. ap ends_token answered ∙ other_keeps rules supply trail call token key distinct noted presents other;
  refused = λ live found presents other.
      let is = live_noted trail supply.now token.value live found in
      let same = by_value trail token key live distinct noted is.0 is.1 in
      answered ∙ ap (λ (a : Action). (outcome_of supply a).reply)
      (other_refused rules supply trail call live distinct origins is.0 is.2 (presents ∙ ap Some (sym same.0)) (λ e. other (e ∙ same.1)));
}
