-- The notes of each answer may be added: they change the tables as `after_notes` says.
use Rattle.std.proofs.Common.{ℕ, ◌≡◌, ◌<◌, ◌≤◌, ◌+◌, ◌*◌, Bool, true, false, List, [], ◌∷◌, ◌++◌, length, map, refl, sym, ◌∙◌, subst, arith}
use Rattle.std.specs.Prelude.{◌==◌, ◌&&◌, not, nat_le, nat_lt}
use Rattle.std.specs.List.{list_any}
use Rattle.std.proofs.lemmas.Bool.Decides.{nat_tests}
use Rattle.gnap_model.specs.Common.{Text}
use Rattle.gnap_model.specs.declared.rights.Right.{Right}
use Rattle.gnap_model.specs.declared.objects.Ask.{Ask}
use Rattle.gnap_model.specs.declared.objects.Modes.{Modes}
use Rattle.gnap_model.specs.declared.calls.Call.{Call}
use Rattle.gnap_model.specs.declared.notes.OpeningNote.{OpeningNote}
use Rattle.gnap_model.specs.declared.notes.TokenNote.{TokenNote}
use Rattle.gnap_model.specs.declared.notes.Why.TheVariants.{ByModification}
use Rattle.gnap_model.specs.declared.notes.Note.{Note}
use Rattle.gnap_model.specs.declared.notes.Note.TheVariants.{Opened, Terms, Approved, Issued, Door, Pended, Retired}
use Rattle.gnap_model.specs.Notes.{first_serial}
use Rattle.gnap_model.specs.Standing.{GrantState, grant_state, is_finalized, is_approved, is_retirement, next_grant}
use Rattle.gnap_model.specs.Standing.GrantState.{IsPending, IsApproved, IsFinalized}
use Rattle.gnap_model.specs.Actions.{Action, Supply, outcome_of, tokens_for, token_for, door_note, terms_for, retire, round_for}
use Rattle.gnap_model.specs.Actions.Action.{OpenAtOnce, OpenAsking, TakeDecision, RenewDoor, CollectDecision, WrongReference, LastWrongReference, RefuseAndFinalize, ModifyAtOnce, ModifyAsking, CancelGrant, RotateToken, RevokeToken}
use Rattle.gnap_laws.proofs.Causes.{Cause}
use Rattle.gnap_model.proofs.TrailNotes.{opening_noted, managed_issued}
use Rattle.gnap_laws.proofs.Sound.{IsSound, AreSound, SoundAt, SerialsBelow, sound_note, modified_below}
use Rattle.table_laws.specs.AddableNotes.{IsNew, GoesOn, CanAllFollow}
use Rattle.table_laws.proofs.TokensAfter.{finalized_same}
use Rattle.table_laws.proofs.ActionsAgree.{named_goes}
use Rattle.table_laws.proofs.Known.{AreKnown, below_not, is_new}
use Rattle.table_laws.proofs.MoreCauses.{MoreCause}

-- no serial from the first one on was retired
abbrev pub AreFresh : ℕ → List Note → Type 0
AreFresh first trail = (k : ℕ) → first ≤ k → list_any (is_retirement k) trail ≡ false

pub sound_fresh : (g s : ℕ) (ns : List Note) → AreSound g s ns → AreFresh s ns
sound_fresh g s [] h k le = refl
sound_fresh g s (n ∷ ns) h k le = at n h.0 (sound_fresh g s ns h.1 k le)
  where
    at : (m : Note) → SoundAt g s m → list_any (is_retirement k) ns ≡ false → list_any (is_retirement k) (m ∷ ns) ≡ false
    at (Retired r w) low e = let b : (r == k) ≡ false = below_not r k (omega arith) in rw b e
    at _ low e = e

-- the tokens for some asks, and what comes after
issue_follow : (supply : Supply) (o : OpeningNote) (asks : List Ask) (i : ℕ) (trail : List Note) (v : Text) (x : ℕ) → GoesOn trail supply.now o.grant
    → AreFresh supply.first trail
    → CanAllFollow supply.now trail (map Issued (tokens_for supply o asks i) ++ Door o.grant v x ∷ [])
issue_follow supply o [] i trail v x going fresh = (tt, tt)
issue_follow supply o (ask ∷ asks) i trail v x going fresh =
    ((going, fresh (supply.first + i) (omega arith)), issue_follow supply o asks (i + 2) (Issued (token_for supply o ask i) ∷ trail) v x going fresh)

-- an approval, and the tokens
approve_follow : (supply : Supply) (o : OpeningNote) (consent : List Right) (asks : List Ask) (trail : List Note) (v : Text) (x : ℕ)
    → GoesOn trail supply.now o.grant → AreFresh supply.first trail
    → CanAllFollow supply.now trail (Approved o.grant consent ∷ (map Issued (tokens_for supply o asks 0) ++ Door o.grant v x ∷ []))
approve_follow supply o consent asks trail v x going fresh = (
  going,
  issue_follow supply o asks 0 (Approved o.grant consent ∷ trail) v x
      (finalized_same (Approved o.grant consent) trail supply.now o.grant going tt ∙ going) fresh,
)

round_later : (supply : Supply) (o : OpeningNote) (modes : Modes) → nat_le (round_for supply o modes).over supply.now ≡ false
round_later supply o modes = grind (arith, nat_tests)

-- the tokens of a modification, and what comes after
retire_follow : (supply : Supply) (g : ℕ) (ts : List TokenNote) (trail rest xs ys : List Note) → SerialsBelow supply.first ts → GoesOn trail supply.now g
    → AreFresh supply.first trail
    → ((after : List Note) → GoesOn after supply.now g → AreFresh supply.first after → CanAllFollow supply.now after ((rest ++ xs) ++ ys))
    → CanAllFollow supply.now trail (((retire ts ++ rest) ++ xs) ++ ys)
retire_follow supply g [] trail rest xs ys low going fresh h = h trail going fresh
retire_follow supply g (t ∷ ts) trail rest xs ys low going fresh h = (
  tt,
  retire_follow supply g ts (Retired t.serial ByModification ∷ trail) rest xs ys low.1 going
      (λ k le. let b : (t.serial == k) ≡ false = below_not t.serial k (let l = low.0 in omega arith) in rw b (fresh k le)) h,
)

retire_pend : (supply : Supply) (g : ℕ) (ts : List TokenNote) (trail rest ys : List Note) → SerialsBelow supply.first ts → GoesOn trail supply.now g
    → ((after : List Note) → GoesOn after supply.now g → CanAllFollow supply.now after (rest ++ ys))
    → CanAllFollow supply.now trail ((retire ts ++ rest) ++ ys)
retire_pend supply g [] trail rest ys low going h = h trail going
retire_pend supply g (t ∷ ts) trail rest ys low going h = (tt, retire_pend supply g ts (Retired t.serial ByModification ∷ trail) rest ys low.1 going h)

-- a grant that was just opened goes on
opened_goes : (trail : List Note) (now : ℕ) (o : OpeningNote) → IsNew trail o.grant → nat_le o.end now ≡ false → GoesOn (Opened o ∷ trail) now o.grant
opened_goes trail now o new later = finalized_same (Opened o) trail now o.grant (new, later) tt ∙ rw (new.unended, new.opening, new.change) refl

live_goes : (s : GrantState) (a b : Bool) → (a && b && is_approved s) ≡ true → is_finalized s ≡ false
live_goes IsApproved a b h = refl
live_goes (IsPending r) a b h = refl
live_goes IsFinalized true true h = cc h
live_goes IsFinalized true false h = cc h
live_goes IsFinalized false b h = cc h

pub action_follows : (supply : Supply) (trail : List Note) (call : Call) (action : Action) → IsSound trail → AreKnown (next_grant trail) trail
    → supply.first ≡ first_serial trail
    → Cause trail supply.now call action → MoreCause trail supply.now action → CanAllFollow supply.now trail (outcome_of supply action).notes
action_follows supply trail call (TakeDecision r rights request) sound known first a m = (tt, tt)
action_follows supply trail call (OpenAtOnce o request) sound known first a m =
    let new : IsNew trail o.grant = subst (IsNew trail) (sym a.2) (is_new (next_grant trail) trail known) in
    let fresh : AreFresh supply.first trail = λ k le. sound_fresh (next_grant trail) (first_serial trail) trail sound k (omega arith) in
    ((new, m), (tt, approve_follow supply o [] request.asks (Terms (terms_for o request) ∷ Opened o ∷ trail) _ _ (opened_goes trail supply.now o new m) fresh))
action_follows supply trail call (OpenAsking o request modes) sound known first a m =
    let new : IsNew trail o.grant = subst (IsNew trail) (sym a.2) (is_new (next_grant trail) trail known) in
    ((new, m), (tt, (tt, ((opened_goes trail supply.now o new m, round_later supply o modes), tt))))
action_follows supply trail call (RenewDoor o) sound known first a m = (tt, tt)
action_follows supply trail call (CollectDecision o w d asks) sound known first a m =
    approve_follow supply o d.rights asks trail _ _ (named_goes trail supply.now a.0.0 o a.0.2)
    (λ k le. sound_fresh (next_grant trail) (first_serial trail) trail sound k (omega arith))
action_follows supply trail call (WrongReference o) sound known first a m = (tt, tt)
action_follows supply trail call (LastWrongReference o) sound known first a m = (tt, (tt, tt))
action_follows supply trail call (RefuseAndFinalize o code) sound known first a m = (tt, tt)
action_follows supply trail call (ModifyAtOnce o consent retired request) sound known first a m =
    retire_follow supply o.grant retired trail (Terms (terms_for o request) ∷ Approved o.grant consent ∷ []) (map Issued (tokens_for supply o request.asks 0))
    (door_note supply o (2 * length request.asks) ∷ [])
    (modified_below trail supply.now o retired supply.first sound a.2 (omega arith)) (named_goes trail supply.now a.0.0 o a.0.2)
    (λ k le. sound_fresh (next_grant trail) (first_serial trail) trail sound k (omega arith))
    (λ after going fresh. (tt, approve_follow supply o consent request.asks (Terms (terms_for o request) ∷ after) _ _ going fresh))
action_follows supply trail call (ModifyAsking o retired request modes) sound known first a m =
    retire_pend supply o.grant retired trail (Terms (terms_for o request) ∷ []) (door_note supply o 0 ∷ Pended (round_for supply o modes) ∷ [])
    (modified_below trail supply.now o retired supply.first sound a.2 (omega arith)) (named_goes trail supply.now a.0.0 o a.0.2)
    (λ after going. (tt, (tt, ((going, round_later supply o modes), tt))))
action_follows supply trail call (CancelGrant o) sound known first a m = (tt, tt)
action_follows supply trail call (RotateToken o u key) sound known first a m =
    let u_sound = sound_note (next_grant trail) (first_serial trail) trail (Issued u) sound (managed_issued trail supply.now a.1.0 u a.1.2).0 in
    let low : u.serial < first_serial trail = u_sound.0 in
    let going : is_finalized (grant_state trail u.grant supply.now)
    ≡ false = live_goes (grant_state trail u.grant supply.now) (not (list_any (is_retirement u.serial) trail)) (nat_lt supply.now u.until) a.2 in
    let same : o.grant ≡ u.grant = (opening_noted trail u.grant o a.3).1 in
    let b : (u.serial == supply.first + 0) ≡ false = below_not u.serial (supply.first + 0) (omega arith) in (
      tt,
      (
        (
          subst (λ n. is_finalized (grant_state trail n supply.now) ≡ false) (sym same) going,
          rw b
              (sound_fresh (next_grant trail) (first_serial trail) trail sound (supply.first + 0) (omega arith)),
        ),
        tt,
      ),
    )
action_follows supply trail call (RevokeToken u false) sound known first a m = (tt, tt)
action_follows supply trail call _ sound known first a m = tt
