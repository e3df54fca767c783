-- What each note does to the rows of grants.
use Rattle.std.proofs.Common.{ℕ, ◌≡◌, ◌+◌, Bool, true, false, cond, List, [], ◌∷◌, ◌++◌, reverse, refl, sym, ◌∙◌, ap, subst, arith, Option, Some, None}
use Rattle.std.specs.Prelude.{◌||◌, not, ◌==◌, if◌then◌else◌, nat_le}
use Rattle.std.specs.Option.{option_or, option_and_then, unwrap_or}
use Rattle.std.specs.List.{list_any, filter_map, cons_option, count_by}
use Rattle.std.proofs.lemmas.Bool.{eqb-true}
use Rattle.std.proofs.lemmas.Bool.Decides.{Decides-eqb}
use Rattle.std.proofs.lemmas.List.Sums.{sum_by-cons}
use Rattle.gnap_model.specs.Common.{Text, first_of, some_if}
use Rattle.gnap_model.specs.declared.rights.Right.{Right}
use Rattle.gnap_model.specs.declared.notes.OpeningNote.{OpeningNote}
use Rattle.gnap_model.specs.declared.notes.TermsNote.{TermsNote}
use Rattle.gnap_model.specs.declared.notes.RoundNote.{RoundNote}
use Rattle.gnap_model.specs.declared.notes.DecisionNote.{DecisionNote}
use Rattle.gnap_model.specs.declared.notes.Note.{Note}
use Rattle.gnap_model.specs.declared.notes.Note.TheVariants.{Opened, Terms, Approved, Issued, Door, Pended, DecidedAs, Finalized, Wrong, Retired}
use Rattle.gnap_model.specs.Standing.{GrantState, StateChange, grant_state, state_after, has_ended, is_finalized, is_approved, terms_of, consent_of, door, earliest_in, decision_of, decision_in, wrongs_of, is_wrong_of, is_round_of, is_end_of, opening_in, round_trail, consent_in, state_change_in}
use Rattle.gnap_model.specs.Standing.GrantState.{IsPending, IsApproved, IsFinalized}
use Rattle.gnap_model.specs.Standing.StateChange.{ToPending, ToApproved}
use Rattle.gnap_model.specs.Actions.{or_zeros}
use Rattle.gnap_model.proofs.TrailNotes.{opened_found, HasNote}
use Rattle.gnap_tables.specs.declared.rows.Round.{Round}
use Rattle.gnap_tables.specs.declared.rows.GrantRow.{GrantRow}
use Rattle.gnap_tables.specs.Rows.{asks_of, single_of, subject_of, round_row, round_in, grant_row_in, grant_rows}
use Rattle.gnap_tables.specs.Tables.{new_grant, with_terms, with_approval, with_round, with_decision, with_wrong, with_door, grants_after}
use Rattle.table_laws.specs.AddableNotes.{IsNew, GoesOn, CanFollow}
use Rattle.gnap_tables.proofs.Lists.{filter_map-reverse, map_is, filter_is, reverse-cons, HasItem, all_kept, item_noted, parts_changed}

-- ---- what a note does to one row

abbrev pub changed : ℕ → (GrantRow → GrantRow) → GrantRow → Option GrantRow
changed number change row = Some (if number == row.number then change row else row)

abbrev pub note_change : Note → GrantRow → Option GrantRow
note_change (Terms terms) row = changed terms.grant (with_terms terms) row
note_change (Approved number consent) row = changed number (with_approval consent) row
note_change (Door number value earliest) row = changed number (with_door value earliest) row
note_change (Pended round) row = changed round.grant (with_round round) row
note_change (DecidedAs decision) row = changed decision.grant (with_decision decision) row
note_change (Finalized number) row = some_if (not (number == row.number)) row
note_change (Wrong number) row = changed number with_wrong row
note_change _ row = Some row

-- ---- the parts of a row

abbrev made : OpeningNote → Option TermsNote → List Right → GrantState → Option Round → Option Text → Option ℕ → Option GrantRow
made o t c s r d e = some_if (not (is_finalized s)) (record {
  number = o.grant;
  key = o.key;
  by_object = o.by_object;
  user = o.user;
  asks = asks_of t;
  single = single_of t;
  subject = subject_of t;
  end = o.end;
  consent = c;
  approved = is_approved s;
  round = r;
  door = or_zeros 32 d;
  earliest = unwrap_or e 0;
})

none_more : (b : Bool) (n : ℕ) → b ≡ false → cond b 1 0 + n ≡ n
none_more true n h = cc h
none_more false n h = omega arith

-- a note that is no round, no decision and no wrong reference of the grant leaves its round
round_kept : (n : Note) (trail : List Note) (g : ℕ) (s : GrantState) → is_round_of g n ≡ false → decision_in g n ≡ None → is_wrong_of g n ≡ false
    → round_in (n ∷ trail) g s ≡ round_in trail g s
round_kept n trail g IsApproved a b c = refl
round_kept n trail g IsFinalized a b c = refl
round_kept n trail g (IsPending r) a b c =
    let rounds : round_trail (n ∷ trail) g ≡ n ∷ round_trail trail g = rw a refl in
    let wrongs : wrongs_of (n ∷ trail) g ≡ wrongs_of trail g =
    ap (count_by (is_wrong_of g)) rounds ∙ sum_by-cons (λ (m : Note). cond (is_wrong_of g m) 1 0) n (round_trail trail g)
    ∙ none_more (is_wrong_of g n) (wrongs_of trail g) c in
    let decision : decision_of (n ∷ trail) g ≡ decision_of trail g =
    ap (first_of (decision_in g)) rounds ∙ rw b refl in
    ap (λ k. Some (round_row k (decision_of (n ∷ trail) g) r)) wrongs ∙ ap (λ (d : Option DecisionNote). Some (round_row (wrongs_of trail g) d r)) decision

made_round : (o : OpeningNote) (t : Option TermsNote) (c : List Right) (s : GrantState) (r r' : Option Round) (d : Option Text) (e : Option ℕ) → r ≡ r'
    → made o t c s r d e ≡ made o t c s r' d e
made_round o t c s r r' d e h = ap (λ (x : Option Round). made o t c s x d e) h

row_terms : (o : OpeningNote) (t : Option TermsNote) (c : List Right) (s : GrantState) (r : Option Round) (d : Option Text) (e : Option ℕ) (w : TermsNote)
    → made o (option_or (some_if (w.grant == o.grant) w) t) c s r d e ≡ option_and_then (changed w.grant (with_terms w)) (made o t c s r d e)
row_terms o t c IsFinalized r d e w = refl
row_terms o t c IsApproved r d e w = by (w.grant == o.grant)
  where
    by : (b : Bool) → made o (option_or (some_if b w) t) c IsApproved r d e
        ≡ option_and_then (λ row. Some (if b then with_terms w row else row)) (made o t c IsApproved r d e)
    by true = refl
    by false = refl
row_terms o t c (IsPending x) r d e w = by (w.grant == o.grant)
  where
    by : (b : Bool) → made o (option_or (some_if b w) t) c (IsPending x) r d e
        ≡ option_and_then (λ row. Some (if b then with_terms w row else row)) (made o t c (IsPending x) r d e)
    by true = refl
    by false = refl

row_door : (o : OpeningNote) (t : Option TermsNote) (c : List Right) (s : GrantState) (r : Option Round) (d : Option Text) (e : Option ℕ) (k : ℕ) (v : Text)
    (x : ℕ)
    → made o t c s r (option_or (some_if (k == o.grant) v) d) (option_or (some_if (k == o.grant) x) e)
    ≡ option_and_then (changed k (with_door v x)) (made o t c s r d e)
row_door o t c IsFinalized r d e k v x = refl
row_door o t c IsApproved r d e k v x = by (k == o.grant)
  where
    by : (b : Bool) → made o t c IsApproved r (option_or (some_if b v) d) (option_or (some_if b x) e)
        ≡ option_and_then (λ row. Some (if b then with_door v x row else row)) (made o t c IsApproved r d e)
    by true = refl
    by false = refl
row_door o t c (IsPending y) r d e k v x = by (k == o.grant)
  where
    by : (b : Bool) → made o t c (IsPending y) r (option_or (some_if b v) d) (option_or (some_if b x) e)
        ≡ option_and_then (λ row. Some (if b then with_door v x row else row)) (made o t c (IsPending y) r d e)
    by true = refl
    by false = refl

-- the number of a row is that of its opening
at_number : (o : OpeningNote) (t : Option TermsNote) (c : List Right) (s : GrantState) (r : Option Round) (d : Option Text) (e : Option ℕ) (k : ℕ)
    (f : GrantRow → GrantRow)
    → option_and_then (λ (row : GrantRow). Some (if k == o.grant then f row else row)) (made o t c s r d e) ≡ option_and_then (changed k f) (made o t c s r d e)
at_number o t c IsFinalized r d e k f = refl
at_number o t c IsApproved r d e k f = refl
at_number o t c (IsPending x) r d e k f = refl

-- ---- changes of state

-- the state of a grant, by whether it was ended and by its last change
abbrev state_by : ℕ → Bool → Option StateChange → GrantState
state_by now ended change = if ended then IsFinalized else state_after change now

row_approval : (o : OpeningNote) (t : Option TermsNote) (cs : Option (List Right)) (now : ℕ) (ended : Bool) (change : Option StateChange) (trail : List Note)
    (d : Option Text) (e : Option ℕ) (k : ℕ) (c : List Right)
    → ((k == o.grant) ≡ true → is_finalized (state_by now ended change) ≡ false)
    → made o t (unwrap_or (option_or (some_if (k == o.grant) c) cs) []) (state_by now ended (option_or (some_if (k == o.grant) ToApproved) change))
    (round_in (Approved k c ∷ trail) o.grant (state_by now ended (option_or (some_if (k == o.grant) ToApproved) change))) d e
    ≡ option_and_then (changed k (with_approval c))
    (made o t (unwrap_or cs []) (state_by now ended change) (round_in trail o.grant (state_by now ended change)) d e)
row_approval o t cs now ended change trail d e k c going =
    by (k == o.grant) going ∙ at_number o t (unwrap_or cs []) (state_by now ended change) (round_in trail o.grant (state_by now ended change)) d e k
    (with_approval c)
  where
    unchanged : (s : GrantState) → made o t (unwrap_or cs []) s (round_in (Approved k c ∷ trail) o.grant s) d e
        ≡ option_and_then (λ (row : GrantRow). Some row) (made o t (unwrap_or cs []) s (round_in trail o.grant s) d e)
    unchanged IsFinalized = refl
    unchanged IsApproved = refl
    unchanged (IsPending r) = made_round o t (unwrap_or cs []) (IsPending r) _ _ d e (round_kept (Approved k c) trail o.grant (IsPending r) refl refl refl)

    approved : (s : GrantState) → is_finalized s ≡ false
        → made o t c IsApproved None d e
        ≡ option_and_then (λ (row : GrantRow). Some (with_approval c row)) (made o t (unwrap_or cs []) s (round_in trail o.grant s) d e)
    approved IsFinalized h = cc h
    approved IsApproved h = refl
    approved (IsPending r) h = refl

    unended : (b : Bool) → is_finalized (state_by now b change) ≡ false
        → made o t c (state_by now b (Some ToApproved)) (round_in (Approved k c ∷ trail) o.grant (state_by now b (Some ToApproved))) d e
        ≡ option_and_then (λ (row : GrantRow). Some (with_approval c row))
        (made o t (unwrap_or cs []) (state_by now b change) (round_in trail o.grant (state_by now b change)) d e)
    unended true h = cc h
    unended false h = approved (state_after change now) h

    by : (b : Bool) → (b ≡ true → is_finalized (state_by now ended change) ≡ false)
        → made o t (unwrap_or (option_or (some_if b c) cs) []) (state_by now ended (option_or (some_if b ToApproved) change))
        (round_in (Approved k c ∷ trail) o.grant (state_by now ended (option_or (some_if b ToApproved) change))) d e
        ≡ option_and_then (λ row. Some (if b then with_approval c row else row))
        (made o t (unwrap_or cs []) (state_by now ended change) (round_in trail o.grant (state_by now ended change)) d e)
    by true h = unended ended (h refl)
    by false h = unchanged (state_by now ended change)

row_round : (o : OpeningNote) (t : Option TermsNote) (c : List Right) (now : ℕ) (ended : Bool) (change : Option StateChange) (trail : List Note)
    (d : Option Text) (e : Option ℕ) (x : RoundNote)
    → ((x.grant == o.grant) ≡ true → is_finalized (state_by now ended change) ≡ false) → nat_le x.over now ≡ false
    → made o t c (state_by now ended (option_or (some_if (x.grant == o.grant) (ToPending x)) change))
    (round_in (Pended x ∷ trail) o.grant (state_by now ended (option_or (some_if (x.grant == o.grant) (ToPending x)) change))) d e
    ≡ option_and_then (changed x.grant (with_round x)) (made o t c (state_by now ended change) (round_in trail o.grant (state_by now ended change)) d e)
row_round o t c now ended change trail d e x going later =
    at (x.grant == o.grant) going refl
    ∙ at_number o t c (state_by now ended change) (round_in trail o.grant (state_by now ended change)) d e x.grant (with_round x)
  where
    unchanged : (s : GrantState) → (x.grant == o.grant) ≡ false
        → made o t c s (round_in (Pended x ∷ trail) o.grant s) d e
        ≡ option_and_then (λ (row : GrantRow). Some row) (made o t c s (round_in trail o.grant s) d e)
    unchanged IsFinalized other = refl
    unchanged IsApproved other = refl
    unchanged (IsPending r) other = made_round o t c (IsPending r) _ _ d e (round_kept (Pended x) trail o.grant (IsPending r) other refl refl)

    begun : (s : GrantState) → is_finalized s ≡ false
        → made o t c (IsPending x) (Some (round_row 0 None x)) d e
        ≡ option_and_then (λ (row : GrantRow). Some (with_round x row)) (made o t c s (round_in trail o.grant s) d e)
    begun IsFinalized h = cc h
    begun IsApproved h = refl
    begun (IsPending r) h = refl

    emptied : (x.grant == o.grant) ≡ true → round_in (Pended x ∷ trail) o.grant (IsPending x) ≡ Some (round_row 0 None x)
    emptied same = let none : round_trail (Pended x ∷ trail) o.grant
        ≡ [] = rw same refl in ap (λ (ns : List Note). Some (round_row (count_by (is_wrong_of o.grant) ns) (first_of (decision_in o.grant) ns) x)) none

    over : state_after (Some (ToPending x)) now ≡ IsPending x
    over = rw later refl

    unended : (b : Bool) → (x.grant == o.grant) ≡ true → is_finalized (state_by now b change) ≡ false
        → made o t c (state_by now b (Some (ToPending x))) (round_in (Pended x ∷ trail) o.grant (state_by now b (Some (ToPending x)))) d e
        ≡ option_and_then (λ (row : GrantRow). Some (with_round x row))
        (made o t c (state_by now b change) (round_in trail o.grant (state_by now b change)) d e)
    unended true same h = cc h
    unended false same h =
        ap (λ (s : GrantState). made o t c s (round_in (Pended x ∷ trail) o.grant s) d e) over
        ∙ made_round o t c (IsPending x) _ _ d e (emptied same) ∙ begun (state_after change now) h

    at : (b : Bool) → (b ≡ true → is_finalized (state_by now ended change) ≡ false) → (x.grant == o.grant) ≡ b
        → made o t c (state_by now ended (option_or (some_if b (ToPending x)) change))
        (round_in (Pended x ∷ trail) o.grant (state_by now ended (option_or (some_if b (ToPending x)) change))) d e
        ≡ option_and_then (λ row. Some (if b then with_round x row else row))
        (made o t c (state_by now ended change) (round_in trail o.grant (state_by now ended change)) d e)
    at true h same = unended ended same (h refl)
    at false h same = unchanged (state_by now ended change) same

-- ---- changes of a round

row_decision : (o : OpeningNote) (t : Option TermsNote) (c : List Right) (s : GrantState) (trail : List Note) (d : Option Text) (e : Option ℕ)
    (x : DecisionNote)
    → made o t c s (round_in (DecidedAs x ∷ trail) o.grant s) d e
    ≡ option_and_then (changed x.grant (with_decision x)) (made o t c s (round_in trail o.grant s) d e)
row_decision o t c IsFinalized trail d e x = refl
row_decision o t c IsApproved trail d e x = by (x.grant == o.grant)
  where
    row : GrantRow
    row = record {
      number = o.grant;
      key = o.key;
      by_object = o.by_object;
      user = o.user;
      asks = asks_of t;
      single = single_of t;
      subject = subject_of t;
      end =
          o.end;
      consent = c;
      approved = true;
      round = None;
      door = or_zeros 32 d;
      earliest = unwrap_or e 0;
    }

    by : (b : Bool) → Some row ≡ Some (if b then with_decision x row else row)
    by true = refl
    by false = refl
row_decision o t c (IsPending r) trail d e x = made_round o t c (IsPending r) _ _ d e wrongs ∙ by (x.grant == o.grant) (decision_of trail o.grant)
  where
    wrongs : round_in (DecidedAs x ∷ trail) o.grant (IsPending r)
        ≡ Some (round_row (wrongs_of trail o.grant) (option_or (some_if (x.grant == o.grant) x) (decision_of trail o.grant)) r)
    wrongs = ap (λ k. Some (round_row k (option_or (some_if (x.grant == o.grant) x) (decision_of trail o.grant)) r))
        (sum_by-cons (λ (m : Note). cond (is_wrong_of o.grant m) 1 0) (DecidedAs x) (round_trail trail o.grant)
        ∙ none_more false (wrongs_of trail o.grant) refl)

    by : (b : Bool) (was : Option DecisionNote) → made o t c (IsPending r) (Some (round_row (wrongs_of trail o.grant) (option_or (some_if b x) was) r)) d e
        ≡ option_and_then (λ row. Some (if b then with_decision x row else row))
        (made o t c (IsPending r) (Some (round_row (wrongs_of trail o.grant) was r)) d e)
    by true was = refl
    by false was = refl

row_wrong : (o : OpeningNote) (t : Option TermsNote) (c : List Right) (s : GrantState) (trail : List Note) (d : Option Text) (e : Option ℕ) (k : ℕ)
    → made o t c s (round_in (Wrong k ∷ trail) o.grant s) d e ≡ option_and_then (changed k with_wrong) (made o t c s (round_in trail o.grant s) d e)
row_wrong o t c IsFinalized trail d e k = refl
row_wrong o t c IsApproved trail d e k = by (k == o.grant)
  where
    row : GrantRow
    row = record {
      number = o.grant;
      key = o.key;
      by_object = o.by_object;
      user = o.user;
      asks = asks_of t;
      single = single_of t;
      subject = subject_of t;
      end =
          o.end;
      consent = c;
      approved = true;
      round = None;
      door = or_zeros 32 d;
      earliest = unwrap_or e 0;
    }

    by : (b : Bool) → Some row ≡ Some (if b then with_wrong row else row)
    by true = refl
    by false = refl
row_wrong o t c (IsPending r) trail d e k = made_round o t c (IsPending r) _ _ d e wrongs ∙ by (k == o.grant) (wrongs_of trail o.grant)
  where
    wrongs : round_in (Wrong k ∷ trail) o.grant (IsPending r)
        ≡ Some (round_row (cond (k == o.grant) 1 0 + wrongs_of trail o.grant) (decision_of trail o.grant) r)
    wrongs = ap (λ n. Some (round_row n (decision_of trail o.grant) r))
        (sum_by-cons (λ (m : Note). cond (is_wrong_of o.grant m) 1 0) (Wrong k) (round_trail trail o.grant))

    by : (b : Bool) (n : ℕ) → made o t c (IsPending r) (Some (round_row (cond b 1 0 + n) (decision_of trail o.grant) r)) d e
        ≡ option_and_then (λ row. Some (if b then with_wrong row else row)) (made o t c (IsPending r) (Some (round_row n (decision_of trail o.grant) r)) d e)
    by true n = let e1 : 1 + n ≡ n + 1 = omega arith in ap (λ m. made o t c (IsPending r) (Some (round_row m (decision_of trail o.grant) r)) d e) e1
    by false n = let e0 : 0 + n ≡ n = omega arith in ap (λ m. made o t c (IsPending r) (Some (round_row m (decision_of trail o.grant) r)) d e) e0

abbrev no_row : Option GrantRow
no_row = None

row_end : (o : OpeningNote) (t : Option TermsNote) (c : List Right) (now : ℕ) (ended past_end : Bool) (change : Option StateChange) (trail : List Note)
    (d : Option Text) (e : Option ℕ) (k : ℕ)
    → made o t c (state_by now (((k == o.grant) || ended) || past_end) change)
    (round_in (Finalized k ∷ trail) o.grant (state_by now (((k == o.grant) || ended) || past_end) change)) d e
    ≡ option_and_then (λ (row : GrantRow). some_if (not (k == row.number)) row)
    (made o t c (state_by now (ended || past_end) change) (round_in trail o.grant (state_by now (ended || past_end) change)) d e)
row_end o t c now ended past_end change trail d e k = by (k == o.grant) ∙ at (state_by now (ended || past_end) change)
  where
    unchanged : (s : GrantState) → made o t c s (round_in (Finalized k ∷ trail) o.grant s) d e
        ≡ option_and_then (λ (row : GrantRow). Some row) (made o t c s (round_in trail o.grant s) d e)
    unchanged IsFinalized = refl
    unchanged IsApproved = refl
    unchanged (IsPending r) = made_round o t c (IsPending r) _ _ d e (round_kept (Finalized k) trail o.grant (IsPending r) refl refl refl)

    gone : (row : Option GrantRow) → no_row ≡ option_and_then (λ (row : GrantRow). no_row) row
    gone None = refl
    gone (Some row) = refl

    by : (b : Bool) → made o t c (state_by now ((b || ended) || past_end) change)
        (round_in (Finalized k ∷ trail) o.grant (state_by now ((b || ended) || past_end) change)) d e
        ≡ option_and_then (λ (row : GrantRow). some_if (not b) row)
        (made o t c (state_by now (ended || past_end) change) (round_in trail o.grant (state_by now (ended || past_end) change)) d e)
    by true = gone _
    by false = unchanged (state_by now (ended || past_end) change)

    at : (s : GrantState) → option_and_then (λ (row : GrantRow). some_if (not (k == o.grant)) row) (made o t c s (round_in trail o.grant s) d e)
        ≡ option_and_then (λ (row : GrantRow). some_if (not (k == row.number)) row) (made o t c s (round_in trail o.grant s) d e)
    at IsFinalized = refl
    at IsApproved = refl
    at (IsPending r) = refl

-- ---- one note and one grant

same_going : (trail : List Note) (now k g : ℕ) → GoesOn trail now k → (k == g) ≡ true → is_finalized (grant_state trail g now) ≡ false
same_going trail now k g going same = subst (λ n. is_finalized (grant_state trail n now) ≡ false) (eqb-true k g same) going

left_row : (n : Note) (o : OpeningNote) (t : Option TermsNote) (c : List Right) (s : GrantState) (trail : List Note) (d : Option Text) (e : Option ℕ)
    → is_round_of o.grant n ≡ false → decision_in o.grant n ≡ None → is_wrong_of o.grant n ≡ false
    → made o t c s (round_in (n ∷ trail) o.grant s) d e ≡ option_and_then (λ (row : GrantRow). Some row) (made o t c s (round_in trail o.grant s) d e)
left_row n o t c s trail d e a b f = made_round o t c s _ _ d e (round_kept n trail o.grant s a b f) ∙ kept s
  where
    kept : (x : GrantState) → made o t c x (round_in trail o.grant s) d e
        ≡ option_and_then (λ (row : GrantRow). Some row) (made o t c x (round_in trail o.grant s) d e)
    kept IsFinalized = refl
    kept IsApproved = refl
    kept (IsPending r) = refl

-- the opening of another grant
abbrev IsOther : Note → OpeningNote → Type 0
IsOther (Opened p) o = (p.grant == o.grant) ≡ false
IsOther _ o = Unit {0}

pub next_row : (n : Note) (trail : List Note) (now : ℕ) (o : OpeningNote) → CanFollow now trail n → IsOther n o
    → grant_row_in (n ∷ trail) now (Opened o) ≡ option_and_then (note_change n) (grant_row_in trail now (Opened o))
next_row (Opened p) trail now o can other =
    let s = grant_state trail o.grant now in
    let same : grant_state (Opened p ∷ trail) o.grant now ≡ s = rw other refl in
    ap (λ (x : GrantState). made o (terms_of trail o.grant) (consent_of trail o.grant) x (round_in (Opened p ∷ trail) o.grant x) (door trail o.grant)
    (first_of (earliest_in o.grant) trail)) same
    ∙ left_row (Opened p) o (terms_of trail o.grant) (consent_of trail o.grant) s trail (door trail o.grant) (first_of (earliest_in o.grant) trail) refl refl
    refl
next_row (Terms w) trail now o can other =
    let s = grant_state trail o.grant now in
    made_round o (option_or (some_if (w.grant == o.grant) w) (terms_of trail o.grant)) (consent_of trail o.grant) s _ _ (door trail o.grant)
    (first_of (earliest_in o.grant) trail) (round_kept (Terms w) trail o.grant s refl refl refl)
    ∙ row_terms o (terms_of trail o.grant) (consent_of trail o.grant) s (round_in trail o.grant s) (door trail o.grant) (first_of (earliest_in o.grant) trail) w
next_row (Approved k c) trail now o can other =
    row_approval o (terms_of trail o.grant) (first_of (consent_in o.grant) trail) now
    (list_any (is_end_of o.grant) trail || has_ended (first_of (opening_in o.grant) trail) now)
    (first_of (state_change_in o.grant) trail) trail (door trail o.grant) (first_of (earliest_in o.grant) trail) k c (same_going trail now k o.grant can)
next_row (Issued t) trail now o can other =
    left_row (Issued t) o (terms_of trail o.grant) (consent_of trail o.grant) (grant_state trail o.grant now) trail (door trail o.grant)
    (first_of (earliest_in o.grant) trail) refl refl refl
next_row (Door k v x) trail now o can other =
    let s = grant_state trail o.grant now in
    made_round o (terms_of trail o.grant) (consent_of trail o.grant) s _ _ (option_or (some_if (k == o.grant) v) (door trail o.grant))
    (option_or (some_if (k == o.grant) x) (first_of (earliest_in o.grant) trail)) (round_kept (Door k v x) trail o.grant s refl refl refl)
    ∙ row_door o (terms_of trail o.grant) (consent_of trail o.grant) s (round_in trail o.grant s) (door trail o.grant) (first_of (earliest_in o.grant) trail) k
    v x
next_row (Pended r) trail now o can other =
    row_round o (terms_of trail o.grant) (consent_of trail o.grant) now
    (list_any (is_end_of o.grant) trail || has_ended (first_of (opening_in o.grant) trail) now)
    (first_of (state_change_in o.grant) trail) trail (door trail o.grant) (first_of (earliest_in o.grant) trail) r (same_going trail now r.grant o.grant can.0)
    can.1
next_row (DecidedAs d) trail now o can other =
    row_decision o (terms_of trail o.grant) (consent_of trail o.grant) (grant_state trail o.grant now) trail (door trail o.grant)
    (first_of (earliest_in o.grant) trail) d
next_row (Finalized k) trail now o can other =
    row_end o (terms_of trail o.grant) (consent_of trail o.grant) now (list_any (is_end_of o.grant) trail) (has_ended (first_of (opening_in o.grant) trail) now)
    (first_of (state_change_in o.grant) trail) trail (door trail o.grant) (first_of (earliest_in o.grant) trail) k
next_row (Wrong k) trail now o can other =
    row_wrong o (terms_of trail o.grant) (consent_of trail o.grant) (grant_state trail o.grant now) trail (door trail o.grant)
    (first_of (earliest_in o.grant) trail) k
next_row (Retired s w) trail now o can other =
    left_row (Retired s w) o (terms_of trail o.grant) (consent_of trail o.grant) (grant_state trail o.grant now) trail (door trail o.grant)
    (first_of (earliest_in o.grant) trail) refl refl refl

-- ---- all grants

abbrev pub IsNoOpening : Note → Type 0
IsNoOpening (Opened o) = ⊥
IsNoOpening _ = Unit {0}

-- the rows later, or after more notes, are those of now with each row changed or taken out
pub grants_changed : (f : GrantRow → Option GrantRow) (trail after : List Note) (now later : ℕ)
    → ((o : OpeningNote) → HasNote trail (Opened o) → grant_row_in after later (Opened o) ≡ option_and_then f (grant_row_in trail now (Opened o)))
    → reverse (filter_map (grant_row_in after later) trail) ≡ filter_map f (grant_rows trail now)
grants_changed f trail after now later h =
    ap reverse (parts_changed f (grant_row_in trail now) (grant_row_in after later) trail each)
    ∙ sym (filter_map-reverse f (filter_map (grant_row_in trail now) trail))
  where
    each : (n : Note) → HasItem trail n → grant_row_in after later n ≡ option_and_then f (grant_row_in trail now n)
    each (Opened o) i = h o (item_noted trail (Opened o) i)
    each _ i = refl

-- each change is one of the list
change_is : (n : Note) (rows : List GrantRow) → IsNoOpening n → filter_map (note_change n) rows ≡ grants_after n rows
change_is (Opened o) rows h = absurd h
change_is (Issued t) rows h = all_kept rows
change_is (Finalized k) rows h = sym (filter_is _ rows)
change_is (Retired s w) rows h = all_kept rows
change_is _ rows h = sym (map_is _ rows)

-- a grant that no note speaks of isn't opened in the notes
pub is_another : (trail : List Note) (g : ℕ) (o : OpeningNote) → first_of (opening_in g) trail ≡ None → HasNote trail (Opened o) → (g == o.grant) ≡ false
is_another trail g o none h = at (g == o.grant) refl
  where
    at : (b : Bool) → (g == o.grant) ≡ b → b ≡ false
    at false e = refl
    at true e = let found = opened_found trail o g h (sym (eqb-true g o.grant e)) in absurd (let k = sym none ∙ found.1 in cc k)

eqb-self : (n : ℕ) → (n == n) ≡ true
eqb-self n = (Decides-eqb n n).1 refl

-- the row of a grant that was just opened
opened_row : (trail : List Note) (now : ℕ) (p : OpeningNote) → IsNew trail p.grant → nat_le p.end now ≡ false
    → grant_row_in (Opened p ∷ trail) now (Opened p) ≡ Some (new_grant p)
opened_row trail now p new later =
    let g = p.grant in
    let self = eqb-self g in
    let ended : has_ended (first_of (opening_in g) (Opened p ∷ trail)) now ≡ false = rw self later in
    let state : grant_state (Opened p ∷ trail) g now ≡ IsApproved = rw (new.unended, ended, new.change) refl in
    ap (λ (s : GrantState). made p (terms_of trail g) (consent_of trail g) s (round_in (Opened p ∷ trail) g s) (door trail g) (first_of (earliest_in g) trail))
    state
    ∙ rw (new.terms, new.consent, new.door, new.earliest) refl

-- What a note does to the grants.
pub grants_next : (n : Note) (trail : List Note) (now : ℕ) → CanFollow now trail n → grant_rows (n ∷ trail) now ≡ grants_after n (grant_rows trail now)
grants_next (Opened p) trail now can =
    let old : reverse (filter_map (grant_row_in (Opened p ∷ trail) now) trail) ≡ grant_rows trail now =
    grants_changed (λ row. Some row) trail (Opened p ∷ trail) now now (λ o h. next_row (Opened p) trail now o can (is_another trail p.grant o can.0.opening h))
    ∙ all_kept (grant_rows trail now) in
    ap (λ (x : Option GrantRow). reverse (cons_option x (filter_map (grant_row_in (Opened p ∷ trail) now) trail))) (opened_row trail now p can.0 can.1)
    ∙ reverse-cons (new_grant p) (filter_map (grant_row_in (Opened p ∷ trail) now) trail)
    ∙ ap (λ (rows : List GrantRow). rows ++ new_grant p ∷ []) old
grants_next (Terms w) trail now can = grants_changed (note_change (Terms w)) trail (Terms w ∷ trail) now now (λ o h. next_row (Terms w) trail now o can tt)
    ∙ change_is (Terms w) (grant_rows trail now) tt
grants_next (Approved k c) trail now can = grants_changed (note_change (Approved k c)) trail (Approved k c ∷ trail) now now
    (λ o h. next_row (Approved k c) trail now o can tt) ∙ change_is (Approved k c) (grant_rows trail now) tt
grants_next (Issued t) trail now can = grants_changed (note_change (Issued t)) trail (Issued t ∷ trail) now now (λ o h. next_row (Issued t) trail now o can tt)
    ∙ change_is (Issued t) (grant_rows trail now) tt
grants_next (Door k v x) trail now can = grants_changed (note_change (Door k v x)) trail (Door k v x ∷ trail) now now
    (λ o h. next_row (Door k v x) trail now o can tt) ∙ change_is (Door k v x) (grant_rows trail now) tt
grants_next (Pended r) trail now can = grants_changed (note_change (Pended r)) trail (Pended r ∷ trail) now now (λ o h. next_row (Pended r) trail now o can tt)
    ∙ change_is (Pended r) (grant_rows trail now) tt
grants_next (DecidedAs d) trail now can = grants_changed (note_change (DecidedAs d)) trail (DecidedAs d ∷ trail) now now
    (λ o h. next_row (DecidedAs d) trail now o can tt) ∙ change_is (DecidedAs d) (grant_rows trail now) tt
grants_next (Finalized k) trail now can = grants_changed (note_change (Finalized k)) trail (Finalized k ∷ trail) now now
    (λ o h. next_row (Finalized k) trail now o can tt) ∙ change_is (Finalized k) (grant_rows trail now) tt
grants_next (Wrong k) trail now can = grants_changed (note_change (Wrong k)) trail (Wrong k ∷ trail) now now (λ o h. next_row (Wrong k) trail now o can tt)
    ∙ change_is (Wrong k) (grant_rows trail now) tt
grants_next (Retired s w) trail now can = grants_changed (note_change (Retired s w)) trail (Retired s w ∷ trail) now now
    (λ o h. next_row (Retired s w) trail now o can tt) ∙ change_is (Retired s w) (grant_rows trail now) tt
