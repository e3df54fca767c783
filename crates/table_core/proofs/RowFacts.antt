-- What the rows of a legal history have: numbers and serials that fit the code and are below the next ones, few asks, few wrong references, approved grants.
use Rattle.std.proofs.Common.{ℕ, ◌≡◌, ◌<◌, ◌≤◌, ◌^◌, Bool, true, false, List, [], ◌∷◌, ◌++◌, length, get_or, reverse, ◌==◌, refl, sym, ap, subst, inl, inr, arith}
use Rattle.std.specs.Prelude.{not, if◌then◌else◌}
use Rattle.std.specs.Option.{option_or}
use Rattle.std.specs.List.{All, count_by, filter_map, cons_option}
use Rattle.std.proofs.lemmas.List.{length-reverse}
use Rattle.std.specs.declared.option.Option.TheVariants.{None}
use Rattle.histories.specs.History.{Legal, notes_of, now as latest_of}
use Rattle.gnap_model.specs.Common.{first_of, some_if}
use Rattle.gnap_model.specs.Limits.{ask_limit}
use Rattle.gnap_model.specs.Notes.{Event, trail_of}
use Rattle.gnap_model.specs.Standing.{next_grant, is_opening, grant_state, is_finalized, terms_in}
use Rattle.gnap_model.specs.Actions.{Action, Supply, outcome_of, terms_for, instance_of, retire}
use Rattle.gnap_model.specs.Actions.Action.{Refuse, ShowToken, ShowInactive, LapseAction, OpenAtOnce, OpenAsking, ShowRound, ShowHandle, TakeDecision, RenewDoor, CollectDecision, WrongReference, LastWrongReference, RefuseAndFinalize, ModifyAtOnce, ModifyAsking, CancelGrant, RotateToken, RevokeToken}
use Rattle.gnap_model.specs.Answer.{supply_at}
use Rattle.gnap_model.specs.Legal.{grant_law, HasFewAsks, IsLegalPast}
use Rattle.gnap_model.specs.declared.objects.Setup.{Setup}
use Rattle.gnap_model.specs.declared.calls.Call.{Call}
use Rattle.gnap_model.specs.declared.notes.OpeningNote.{OpeningNote}
use Rattle.gnap_model.specs.declared.notes.Note.{Note}
use Rattle.gnap_model.specs.declared.notes.Note.TheVariants.{Opened, Terms, Approved, Issued, Door, Pended, DecidedAs, Finalized, Wrong, Retired}
use Rattle.gnap_model.proofs.TrailNotes.{HasNote, each_of}
use Rattle.gnap_laws.proofs.Bound.{AllTermsFit, past_fits}
use Rattle.gnap_laws.proofs.Causes.{chosen}
use Rattle.gnap_laws.proofs.NewestFirst.{legal_past, trail-back}
use Rattle.gnap_laws.proofs.NoteCounts.{SkipsCommon, count-append, count-reverse, grant_skipped, pend_skipped, retire_skipped}
use Rattle.gnap_tables.specs.declared.rows.GrantRow.{GrantRow}
use Rattle.gnap_tables.specs.declared.rows.TokenRow.{TokenRow}
use Rattle.gnap_tables.specs.Rows.{asks_of, grant_row, grant_row_in, grant_rows}
use Rattle.gnap_tables.specs.StandsFor.{Kept, kept_of}
use Rattle.table_laws.specs.Laws.{HasFewWrongs}
use Rattle.table_laws.proofs.Known.{KnownAt, AreKnown}
use Rattle.gnap_tables.proofs.Lists.{HasItem}
use Rattle.table_laws.proofs.RowLimits.{rows_within}
use Rattle.table_laws.proofs.SerialsBelowNext.{item-reverse, item_in, rows_below, few_serials}
use Rattle.table_laws.proofs.TablesThroughCalls.{legal_notes}
use Rattle.gnap_laws.proofs.LiveTokens.{PendingRetires}
use Rattle.token_manager.specs.Tokens.{AreOfApproved}
use Rattle.table_core.specs.CallEffects.{HasFewAsked}
use Rattle.table_core.proofs.ApprovedTokens.{past_pending, of_approved}

-- ---- each row is that of a grant that was opened

row_noted : (trail : List Note) (now : ℕ) (ns : List Note) (row : GrantRow) → HasItem (filter_map (grant_row_in trail now) ns) row
    → (o : OpeningNote) × HasNote ns (Opened o) × (row ≡ grant_row trail now o)
row_noted trail now [] row h = absurd h
row_noted trail now (Opened o ∷ ns) row h = at (not (is_finalized (grant_state trail o.grant now))) h (row_noted trail now ns row)
  where
    at : (b : Bool) → HasItem (cons_option (some_if b (grant_row trail now o)) (filter_map (grant_row_in trail now) ns)) row
        → (HasItem (filter_map (grant_row_in trail now) ns) row → (p : OpeningNote) × HasNote ns (Opened p) × (row ≡ grant_row trail now p))
        → (p : OpeningNote) × HasNote (Opened o ∷ ns) (Opened p) × (row ≡ grant_row trail now p)
    at true (inl e) rest = (o, inl refl, e)
    at true (inr k) rest = let r = rest k in (r.0, inr r.1, r.2)
    at false k rest = let r = rest k in (r.0, inr r.1, r.2)
row_noted trail now (Terms w ∷ ns) row h = let r = row_noted trail now ns row h in (r.0, inr r.1, r.2)
row_noted trail now (Approved g c ∷ ns) row h = let r = row_noted trail now ns row h in (r.0, inr r.1, r.2)
row_noted trail now (Issued t ∷ ns) row h = let r = row_noted trail now ns row h in (r.0, inr r.1, r.2)
row_noted trail now (Door g v x ∷ ns) row h = let r = row_noted trail now ns row h in (r.0, inr r.1, r.2)
row_noted trail now (Pended x ∷ ns) row h = let r = row_noted trail now ns row h in (r.0, inr r.1, r.2)
row_noted trail now (DecidedAs d ∷ ns) row h = let r = row_noted trail now ns row h in (r.0, inr r.1, r.2)
row_noted trail now (Finalized g ∷ ns) row h = let r = row_noted trail now ns row h in (r.0, inr r.1, r.2)
row_noted trail now (Wrong g ∷ ns) row h = let r = row_noted trail now ns row h in (r.0, inr r.1, r.2)
row_noted trail now (Retired s w ∷ ns) row h = let r = row_noted trail now ns row h in (r.0, inr r.1, r.2)

noted_at : (trail : List Note) (now k : ℕ) (d : GrantRow) → k < length (grant_rows trail now)
    → (o : OpeningNote) × HasNote trail (Opened o) × (get_or (grant_rows trail now) k d ≡ grant_row trail now o)
noted_at trail now k d inside =
    let row = get_or (grant_rows trail now) k d in
    row_noted trail now trail row (item-reverse (filter_map (grant_row_in trail now) trail) row (item_in (grant_rows trail now) k d inside))

numbers_below : (trail : List Note) (now : ℕ) → AreKnown (next_grant trail) trail
    → All (λ (row : GrantRow). row.number < next_grant trail) (grant_rows trail now)
numbers_below trail now known k d inside =
    let f = noted_at trail now k d inside in
    let low : f.0.grant < next_grant trail = each_of (KnownAt (next_grant trail)) trail (Opened f.0) known f.1 in
    let same : (get_or (grant_rows trail now) k d).number ≡ f.0.grant = ap (λ (row : GrantRow). row.number) f.2 in omega (arith, low, same)

-- ---- few asks

terms_few : (g : ℕ) (ns : List Note) → AllTermsFit ns → length (asks_of (first_of (terms_in g) ns)) ≤ ask_limit
terms_few g [] fit = omega arith
terms_few g (Terms w ∷ ns) fit = at (w.grant == g) (terms_few g ns fit.1)
  where
    at : (b : Bool) → length (asks_of (first_of (terms_in g) ns)) ≤ ask_limit
        → length (asks_of (option_or (some_if b w) (first_of (terms_in g) ns))) ≤ ask_limit
    at true rest = fit.0
    at false rest = rest
terms_few g (Opened o ∷ ns) fit = terms_few g ns fit.1
terms_few g (Approved i c ∷ ns) fit = terms_few g ns fit.1
terms_few g (Issued t ∷ ns) fit = terms_few g ns fit.1
terms_few g (Door i v x ∷ ns) fit = terms_few g ns fit.1
terms_few g (Pended r ∷ ns) fit = terms_few g ns fit.1
terms_few g (DecidedAs d ∷ ns) fit = terms_few g ns fit.1
terms_few g (Finalized i ∷ ns) fit = terms_few g ns fit.1
terms_few g (Wrong i ∷ ns) fit = terms_few g ns fit.1
terms_few g (Retired s y ∷ ns) fit = terms_few g ns fit.1

asks_few : (trail : List Note) (now : ℕ) → AllTermsFit trail → All (λ (row : GrantRow). HasFewAsked row) (grant_rows trail now)
asks_few trail now fit k d inside =
    let f = noted_at trail now k d inside in
    subst (λ (row : GrantRow). HasFewAsked row) (sym f.2) (terms_few f.0.grant trail fit)

-- ---- an entry opens one grant at most

skips : SkipsCommon is_opening
skips = record {
  issued = λ token. refl;
  retired = λ serial. refl;
  door = λ grant value earliest. refl;
  pended = λ round. refl;
}

opened_few : (supply : Supply) (action : Action) → count_by is_opening (outcome_of supply action).notes ≤ 1
opened_few supply (Refuse code) = omega arith
opened_few supply (ShowToken access token) = omega arith
opened_few supply ShowInactive = omega arith
opened_few supply LapseAction = omega arith
opened_few supply (OpenAtOnce o request) =
    let same = grant_skipped is_opening supply o (Opened o ∷ Terms (terms_for o request) ∷ Approved o.grant [] ∷ []) request.asks request.single None
    (instance_of o) skips in
    let one : count_by is_opening (Opened o ∷ Terms (terms_for o request) ∷ Approved o.grant [] ∷ []) ≡ 1 = refl in omega (arith, same, one)
opened_few supply (OpenAsking o request modes) =
    let same = pend_skipped is_opening supply o (Opened o ∷ Terms (terms_for o request) ∷ []) modes (instance_of o) skips in
    let one : count_by is_opening (Opened o ∷ Terms (terms_for o request) ∷ []) ≡ 1 = refl in omega (arith, same, one)
opened_few supply (ShowRound round terms o) = omega arith
opened_few supply (ShowHandle round) = omega arith
opened_few supply (TakeDecision round rights request) = omega arith
opened_few supply (RenewDoor o) = omega arith
opened_few supply (CollectDecision o terms decision asks) =
    let same = grant_skipped is_opening supply o (Approved o.grant decision.rights ∷ []) asks terms.single (if terms.subject then decision.subject else None)
    None skips in
    let none : count_by is_opening (Approved o.grant decision.rights ∷ []) ≡ 0 = refl in omega (arith, same, none)
opened_few supply (WrongReference o) = omega arith
opened_few supply (LastWrongReference o) = omega arith
opened_few supply (RefuseAndFinalize o code) = omega arith
opened_few supply (ModifyAtOnce o consent retired request) =
    let after = Terms (terms_for o request) ∷ Approved o.grant consent ∷ [] in
    let same = grant_skipped is_opening supply o (retire retired ++ after) request.asks request.single None None skips in
    let past = retire_skipped is_opening retired after skips in
    let none : count_by is_opening (Terms (terms_for o request) ∷ Approved o.grant consent ∷ []) ≡ 0 = refl in omega (arith, same, past, none)
opened_few supply (ModifyAsking o retired request modes) =
    let after = Terms (terms_for o request) ∷ [] in
    let same = pend_skipped is_opening supply o (retire retired ++ after) modes None skips in
    let past = retire_skipped is_opening retired after skips in
    let none : count_by is_opening (Terms (terms_for o request) ∷ []) ≡ 0 = refl in omega (arith, same, past, none)
opened_few supply (CancelGrant o) = omega arith
opened_few supply (RotateToken o token key) = omega arith
opened_few supply (RevokeToken token true) = omega arith
opened_few supply (RevokeToken token false) = omega arith

past_openings : (rules : Setup) (past : List Event) → IsLegalPast rules past → count_by is_opening (trail_of past) ≤ length past
past_openings rules [] legal = omega arith
past_openings rules (e ∷ past) legal =
    let why = chosen rules past e legal.0 in
    let few : count_by is_opening e.notes
    ≤ 1 = subst (λ (ns : List Note). count_by is_opening ns ≤ 1) (sym why.notes) (opened_few (supply_at past e.moment e.draw) why.action) in
    let parts = count-append is_opening (reverse e.notes) (trail_of past) in
    let turned = count-reverse is_opening e.notes in
    let rest = past_openings rules past legal.1 in omega (arith, few, parts, turned, rest)

-- ---- all of it

-- what is kept leaves room for a call
pub record KeepsRoom (kept : Kept) : Type 0 where
  pub next_small : kept.next < 2 ^ 63
  pub first_small : kept.first < 2 ^ 63
  pub numbers : All (λ (row : GrantRow). row.number < kept.next) kept.tables.grants
  pub serials : All (λ (row : TokenRow). row.serial < kept.first) kept.tables.tokens
  pub wrongs : All (λ (row : GrantRow). HasFewWrongs row) kept.tables.grants
  pub asks : All (λ (row : GrantRow). HasFewAsked row) kept.tables.grants
  pub approved : AreOfApproved kept.tables.grants kept.tables.tokens

pub room_of : (rules : Setup) (h : List Event) (now : ℕ) → Legal grant_law rules h → length h < 2 ^ 58 → latest_of h 0 ≤ now
    → KeepsRoom (kept_of (notes_of h) now)
room_of rules h now legal short later =
    let trail : List Note = reverse (notes_of h) in
    let past = legal_past rules h legal in
    let are = legal_notes HasFewAsks rules h (λ (call : Call) fits. fits) legal in
    let few = past_openings rules (reverse h) past in
    let back = ap (λ (t : List Note). count_by is_opening t) (trail-back h) in
    let turned = length-reverse h in
    record {
      next_small = omega (arith, few, back, turned, short);
      first_small = few_serials HasFewAsks rules h (λ (call : Call) fits. fits) legal short;
      numbers = numbers_below trail now are.known;
      serials = rows_below trail now are.sound;
      wrongs = (rows_within rules h now legal later).wrongs;
      asks = asks_few trail now (subst AllTermsFit (trail-back h) (past_fits rules (reverse h) past));
      approved = of_approved trail now (subst PendingRetires (trail-back h) (past_pending rules (reverse h) past)) are.whole.grants;
    }
