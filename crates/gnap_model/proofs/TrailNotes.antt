-- The notes of a trail: facts of each of them, and what look-ups find among them.
use Rattle.std.proofs.Common.{ℕ, ◌≡◌, ◌⊎◌, Bool, true, false, List, [], ◌∷◌, ◌++◌, reverse, refl, sym, ap, subst, inl, inr, Option, Some, None}
use Rattle.std.specs.Option.{option_or}
use Rattle.std.specs.Prelude.{◌&&◌, ◌||◌, not, ◌==◌, nat_le, if◌then◌else◌}
use Rattle.std.specs.List.{list_any}
use Rattle.std.proofs.lemmas.Bool.{and_parts, or_cases}
use Rattle.std.proofs.lemmas.Bool.Decides.{Decides-eqb}
use Rattle.std.proofs.lemmas.List.{reverse-append}
use Rattle.std.proofs.lemmas.Slice.Eq.{bytes_eq-Decides}
use Rattle.gnap_model.specs.Common.{Text, same_text, first_of, some_if, is_text}
use Rattle.gnap_model.specs.Notes.{OpeningNote, TermsNote, TokenNote, RoundNote, Note}
use Rattle.gnap_model.specs.declared.notes.Note.TheVariants.{Opened, Terms, Approved, Issued, Door, Pended}
use Rattle.gnap_model.specs.Standing.{opening_in, terms_in, terms_of, door, door_in, state_change_in, named_in, named_grant, is_door_of, token_in, managed_token, is_managed, grant_state, is_finalized, is_end_of, has_ended, state_after, StateChange}
use Rattle.gnap_model.specs.Standing.GrantState.{IsPending, IsFinalized}
use Rattle.gnap_model.specs.Standing.StateChange.{ToPending, ToApproved}
use Rattle.gnap_model.proofs.LookUps.{some_if_some, option_or_cases}

abbrev pub HasNote : List Note → Note → Type 0
HasNote [] n = ⊥
HasNote (k ∷ ns) n = (n ≡ k) ⊎ HasNote ns n

pub note-append_right : (xs ys : List Note) (n : Note) → HasNote ys n → HasNote (xs ++ ys) n
note-append_right [] ys n h = h
note-append_right (x ∷ xs) ys n h = inr (note-append_right xs ys n h)

pub note-append_left : (xs ys : List Note) (n : Note) → HasNote xs n → HasNote (xs ++ ys) n
note-append_left [] ys n h = absurd h
note-append_left (x ∷ xs) ys n (inl e) = inl e
note-append_left (x ∷ xs) ys n (inr h) = inr (note-append_left xs ys n h)

pub note-reverse : (xs : List Note) (n : Note) → HasNote xs n → HasNote (reverse xs) n
note-reverse [] n h = absurd h
note-reverse (x ∷ xs) n (inl e) = subst (λ (ns : List Note). HasNote ns n) (sym (reverse-append (x ∷ []) xs))
    (note-append_right (reverse xs) (x ∷ []) n (inl e))
note-reverse (x ∷ xs) n (inr h) = subst (λ (ns : List Note). HasNote ns n) (sym (reverse-append (x ∷ []) xs))
    (note-append_left (reverse xs) (x ∷ []) n (note-reverse xs n h))

-- ---- a fact of each note

abbrev pub EachNote : (Note → Type 0) → List Note → Type 0
EachNote P [] = Unit {0}
EachNote P (note ∷ notes) = P note × EachNote P notes

pub each-append : (P : Note → Type 0) (xs ys : List Note) → EachNote P xs → EachNote P ys → EachNote P (xs ++ ys)
each-append P [] ys hx hy = hy
each-append P (x ∷ xs) ys hx hy = (hx.0, each-append P xs ys hx.1 hy)

pub each-reverse : (P : Note → Type 0) (xs : List Note) → EachNote P xs → EachNote P (reverse xs)
each-reverse P [] h = tt
each-reverse P (x ∷ xs) h = subst (EachNote P) (sym (reverse-append (x ∷ []) xs)) (each-append P (reverse xs) (x ∷ []) (each-reverse P xs h.1) (h.0, tt))

pub each_more : (P Q : Note → Type 0) (xs : List Note) → ((note : Note) → P note → Q note) → EachNote P xs → EachNote Q xs
each_more P Q [] more h = tt
each_more P Q (x ∷ xs) more h = (more x h.0, each_more P Q xs more h.1)

pub each_of : (P : Note → Type 0) (xs : List Note) (note : Note) → EachNote P xs → HasNote xs note → P note
each_of P [] note h k = absurd k
each_of P (x ∷ xs) note h (inl e) = subst P (sym e) h.0
each_of P (x ∷ xs) note h (inr k) = each_of P xs note h.1 k

-- ---- what a look-up finds stands in a note

pub first_noted : {B : Type 0} (look : Note → Option B) (ns : List Note) (y : B) → first_of look ns ≡ Some y → (n : Note) × HasNote ns n × (look n ≡ Some y)
first_noted look [] y e = cc e
first_noted look (n ∷ ns) y e = elim (option_or_cases (look n) (first_of look ns) y e) [
  | inl a ↦ (n, inl refl, a)
  | inr b ↦ let r = first_noted look ns y b.1 in (r.0, inr r.1, r.2)
]

pub any_noted : (test : Note → Bool) (ns : List Note) → list_any test ns ≡ true → (n : Note) × HasNote ns n × (test n ≡ true)
any_noted test [] e = cc e
any_noted test (n ∷ ns) e = elim (or_cases (test n) (list_any test ns) e) [
  | inl a ↦ (n, inl refl, a)
  | inr b ↦ let r = any_noted test ns b in (r.0, inr r.1, r.2)
]

pub opening_noted : (trail : List Note) (grant : ℕ) (o : OpeningNote) → first_of (opening_in grant) trail ≡ Some o
    → HasNote trail (Opened o) × (o.grant ≡ grant)
opening_noted trail grant o e = let r = first_noted (opening_in grant) trail o e in at r.0 r.1 r.2
  where
    at : (n : Note) → HasNote trail n → opening_in grant n ≡ Some o → HasNote trail (Opened o) × (o.grant ≡ grant)
    at (Opened p) k h =
        let both = some_if_some (p.grant == grant) p o h in
        subst (λ (q : OpeningNote). HasNote trail (Opened q) × (q.grant ≡ grant)) both.1 (k, (Decides-eqb p.grant grant).0 both.0)
    at _ k h = cc h

pub terms_noted : (trail : List Note) (grant : ℕ) (w : TermsNote) → terms_of trail grant ≡ Some w → HasNote trail (Terms w) × (w.grant ≡ grant)
terms_noted trail grant w e = let r = first_noted (terms_in grant) trail w e in at r.0 r.1 r.2
  where
    at : (n : Note) → HasNote trail n → terms_in grant n ≡ Some w → HasNote trail (Terms w) × (w.grant ≡ grant)
    at (Terms x) k h =
        let both = some_if_some (x.grant == grant) x w h in
        subst (λ (y : TermsNote). HasNote trail (Terms y) × (y.grant ≡ grant)) both.1 (k, (Decides-eqb x.grant grant).0 both.0)
    at _ k h = cc h

pub door_noted : (trail : List Note) (grant : ℕ) (v : Text) → door trail grant ≡ Some v → (x : ℕ) × HasNote trail (Door grant v x)
door_noted trail grant v e = let r = first_noted (door_in grant) trail v e in at r.0 r.1 r.2
  where
    at : (n : Note) → HasNote trail n → door_in grant n ≡ Some v → (x : ℕ) × HasNote trail (Door grant v x)
    at (Door g w x) k h =
        let both = some_if_some (g == grant) w v h in
        (x, subst (λ i. HasNote trail (Door i v x)) ((Decides-eqb g grant).0 both.0) (subst (λ (u : Text). HasNote trail (Door g u x)) both.1 k))
    at _ k h = cc h

-- the round that a grant is pending in
pub round_noted : (trail : List Note) (grant : ℕ) (r : RoundNote) → first_of (state_change_in grant) trail ≡ Some (ToPending r)
    → HasNote trail (Pended r) × (r.grant ≡ grant)
round_noted trail grant r e = let f = first_noted (state_change_in grant) trail (ToPending r) e in at f.0 f.1 f.2
  where
    at : (n : Note) → HasNote trail n → state_change_in grant n ≡ Some (ToPending r) → HasNote trail (Pended r) × (r.grant ≡ grant)
    at (Pended q) k h =
        let both = some_if_some (q.grant == grant) (ToPending q) (ToPending r) h in
        let same : q ≡ r = (let is = both.1 in cc is) in
        subst (λ (x : RoundNote). HasNote trail (Pended x) × (x.grant ≡ grant)) same (k, (Decides-eqb q.grant grant).0 both.0)
    at (Approved g c) k h = let no = (some_if_some (g == grant) ToApproved (ToPending r) h).1 in cc no
    at _ k h = cc h

-- what a grant that is pending became last
pending_change : (ended : Bool) (change : Option StateChange) (now : ℕ) (r : RoundNote) → (if ended then IsFinalized else state_after change now) ≡ IsPending r
    → change ≡ Some (ToPending r)
pending_change true change now r e = cc e
pending_change false None now r e = cc e
pending_change false (Some ToApproved) now r e = cc e
pending_change false (Some (ToPending q)) now r e = at (nat_le q.over now) e
  where
    at : (over : Bool) → (if over then IsFinalized else IsPending q) ≡ IsPending r → Some (ToPending q) ≡ Some (ToPending r)
    at true h = cc h
    at false h = let same : q ≡ r = cc h in ap (λ (x : RoundNote). Some (ToPending x)) same

pub round_change : (trail : List Note) (g now : ℕ) (r : RoundNote) → grant_state trail g now ≡ IsPending r
    → first_of (state_change_in g) trail ≡ Some (ToPending r)
round_change trail g now r e = pending_change (list_any (is_end_of g) trail || has_ended (first_of (opening_in g) trail) now)
    (first_of (state_change_in g) trail) now r e

pub pending_grant : (trail : List Note) (g now : ℕ) (r : RoundNote) → grant_state trail g now ≡ IsPending r → r.grant ≡ g
pending_grant trail g now r e = (round_noted trail g r (round_change trail g now r e)).1

pub is_text_is : (v : Text) (d : Option Text) → is_text v d ≡ true → d ≡ Some v
is_text_is v None e = cc e
is_text_is v (Some w) e = ap Some ((bytes_eq-Decides w v).0 e)

-- the grant that a continuation value names
pub record IsNamed (trail : List Note) (now : ℕ) (v : Text) (o : OpeningNote) : Type 0 where
  pub opened : HasNote trail (Opened o)
  pub named_by : door trail o.grant ≡ Some v
  pub goes_on : not (is_finalized (grant_state trail o.grant now)) ≡ true

pub grant_named : (trail : List Note) (now : ℕ) (v : Text) (o : OpeningNote) → named_grant trail now v ≡ Some o → IsNamed trail now v o
grant_named trail now v o e = let r = first_noted (named_in trail now v) trail o e in at r.0 r.1 r.2
  where
    at : (n : Note) → HasNote trail n → named_in trail now v n ≡ Some o → IsNamed trail now v o
    at (Opened p) k h =
        let both = some_if_some (is_door_of trail p.grant v && not (is_finalized (grant_state trail p.grant now))) p o h in
        let parts = and_parts (is_door_of trail p.grant v) (not (is_finalized (grant_state trail p.grant now))) both.0 in
        subst (IsNamed trail now v) both.1 (record { opened = k; named_by = is_text_is v (door trail p.grant) parts.0; goes_on = parts.1 })
    at _ k h = cc h

pub token_found : (test : TokenNote → Bool) (t : TokenNote) (n : Note) → token_in test n ≡ Some t → (n ≡ Issued t) × (test t ≡ true)
token_found test t (Issued u) e =
    let both = some_if_some (test u) u t e in (ap Issued both.1, subst (λ (x : TokenNote). test x ≡ true) both.1 both.0)
token_found test t _ e = cc e

pub managed_issued : (trail : List Note) (now : ℕ) (v : Text) (t : TokenNote) → managed_token trail now v ≡ Some t → HasNote trail (Issued t) × (t.manage ≡ v)
managed_issued trail now v t e =
    let test : TokenNote → Bool = λ u. same_text u.manage v && is_managed trail now u in
    let r = first_noted (token_in test) trail t e in
    let f = token_found test t r.0 r.2 in
    (subst (HasNote trail) f.0 r.1, (bytes_eq-Decides t.manage v).0 (and_parts (same_text t.manage v) (is_managed trail now t) f.1).0)

-- ---- a note that stands there is found

-- a look-up that finds something in a note of the list finds something
pub found_in : {B : Type 0} (look : Note → Option B) (ns : List Note) (n : Note) (y : B) → HasNote ns n → look n ≡ Some y
    → (z : B) × (first_of look ns ≡ Some z)
found_in look [] n y h e = absurd h
found_in {B} look (m ∷ ns) n y (inl same) e =
    let here : look m ≡ Some y = subst (λ k. look k ≡ Some y) same e in (y, rw here refl)
found_in {B} look (m ∷ ns) n y (inr h) e = at (look m) (found_in look ns n y h e)
  where
    at : (o : Option B) → (z : B) × (first_of look ns ≡ Some z) → (z : B) × (option_or o (first_of look ns) ≡ Some z)
    at (Some z) rest = (z, refl)
    at None rest = rest

pub some_if_same : {A : Type 0} (g h : ℕ) (x : A) → g ≡ h → some_if (g == h) x ≡ Some x
some_if_same g h x e = let same : (g == h) ≡ true = (Decides-eqb g h).1 e in rw same refl

pub opened_found : (trail : List Note) (o : OpeningNote) (g : ℕ) → HasNote trail (Opened o) → o.grant ≡ g
    → (p : OpeningNote) × (first_of (opening_in g) trail ≡ Some p)
opened_found trail o g h e = found_in (opening_in g) trail (Opened o) o h (some_if_same o.grant g o e)
