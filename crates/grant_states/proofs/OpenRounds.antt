-- The codes of rounds in which the user may still decide, as they stay listed.
use Rattle.std.proofs.Common.{ℕ, zero, suc, ◌≡◌, ◌⊎◌, ◌<◌, ◌≤◌, ◌/◌, ◌^◌, Bool, true, false, List, [], ◌∷◌, ◌++◌, length, get_or, map, set, refl, sym, ◌∙◌, ap, subst, inl, inr, arith, Option, Some, None}
use Rattle.std.specs.Prelude.{◌==◌, ◌&&◌, nat_lt, not, is_some, filter, if◌then◌else◌, option_map, IfSome}
use Rattle.std.specs.Option.{option_and_then}
use Rattle.std.specs.List.{All, AllPairs, remove}
use Rattle.std.proofs.lemmas.List.{get_or_default}
use Rattle.std.proofs.lemmas.Bool.{cases_eq, eqb-true}
use Rattle.std.proofs.lemmas.Bool.Decides.{nat_tests}
use Rattle.std.proofs.lemmas.Slice.Eq.{bytes_eq-Decides}
use Rattle.gnap_model.specs.Common.{Text, is_text, same_text, some_if}
use Rattle.gnap_model.specs.Values.{code_count, code_text}
use Rattle.gnap_model.proofs.LookUps.{some_if_some}
use Rattle.gnap_tables.specs.declared.rows.GrantRow.{GrantRow}
use Rattle.gnap_tables.specs.declared.rows.Round.{Round}
use Rattle.gnap_tables.specs.RowSearches.{Interaction, interaction_by_code, interaction_where, is_open_round, round_of}
use Rattle.gnap_model.specs.declared.notes.RoundNote.{RoundNote}
use Rattle.gnap_tables.proofs.Lists.{HasItem}
use Rattle.grant_states.specs.declared.grant_table.GrantPlace.{GrantPlace}
use Rattle.grant_states.specs.declared.numbers_by_key.Listed.{Listed}
use Rattle.grant_states.specs.declared.open_codes.OpenCodes.{OpenCodes}
use Rattle.grant_states.specs.CodeNumbers.{number_in, number_of}
use Rattle.grant_states.specs.Listed.{under, where_some}
use Rattle.grant_states.specs.OpenCodes.{HasCode, IsCodeIn, IsCodeListed, open_code}
use Rattle.grant_states.specs.declared.interactions.InteractionName.{InteractionName}
use Rattle.grant_states.specs.Interactions.{is_called, is_open_by}
use Rattle.grant_states.specs.Grants.{AreCodesListed, AreGrantPlaces, Changes, IsGrantPlace, grant_in, IsOpenUnder, code_at, is_round_open, place_numbered}
use Rattle.grant_states.proofs.Items.{found_in, item_all, item_append, item_filtered, item_in, item_left, item_mapped, item_of_filter, item_right, newest_some}
use Rattle.grant_states.proofs.Placed.{eqb-self, one_key}
use Rattle.grant_states.proofs.Changed.{removed_at}
use Rattle.grant_states.proofs.NamedRounds.{numbered_place}

abbrev pub NumbersAscend : List GrantPlace → Type 0
NumbersAscend places = AllPairs (λ (a b : GrantPlace). a.number < b.number) places

-- what is listed after the code of one grant changed, which is this one now
pub record AreMoved (codes more : OpenCodes) (number : ℕ) (after : Option Text) : Type 0 where
  pub kept : (n other : ℕ) → HasCode codes n other → (other ≡ number → ⊥) → HasCode more n other
  pub only : (n other : ℕ) → HasCode more n other → (other ≡ number → ⊥) → HasCode codes n other
  pub own : (n : ℕ) → HasCode more n number → IsCodeIn n after
  pub listed : more.complete ≡ true → (codes.complete ≡ true) × IfSome after (IsCodeListed more number)

if_more : {A : Type 0} (P Q : A → Type 0) (o : Option A) → ((x : A) → P x → Q x) → IfSome o P → IfSome o Q
if_more P Q None f i = tt
if_more P Q (Some x) f i = f x i

-- The places stay as they are but for one grant, whose open code is this one now.
pub moved : (moment : ℕ) (codes more : OpenCodes) (places after : List GrantPlace) (number : ℕ) (now_code : Option Text) → AreCodesListed moment codes places
    → AreMoved codes more number now_code
    → ((p : GrantPlace) → HasItem after p → (p.number ≡ number → ⊥) → HasItem places p)
    → ((p : GrantPlace) → HasItem places p → (p.number ≡ number → ⊥) → HasItem after p)
    → ((p : GrantPlace) → HasItem after p → p.number ≡ number → code_at moment p ≡ now_code)
    → ((code : ℕ) → IsCodeIn code now_code → (p : GrantPlace) × HasItem after p × (p.number ≡ number))
    → AreCodesListed moment more after
moved moment codes more places after number now_code are moves back forth one there = record {
  open_under = λ code other h. under_one code other h (cases_eq other number);
  listed = λ all p h. list_one (moves.listed all) p h (cases_eq p.number number);
}
  where
    under_one : (code other : ℕ) → HasCode more code other → (other ≡ number) ⊎ (other ≡ number → ⊥) → IsOpenUnder moment after code other
    under_one code other h (inl is) =
        let own : IsCodeIn code now_code = moves.own code (subst (λ n. HasCode more code n) is h) in
        let p = there code own in
        (p.0, p.1, p.2 ∙ sym is, subst (IsCodeIn code) (sym (one p.0 p.1 p.2)) own)
    under_one code other h (inr not_it) =
        let o = are.open_under code other (moves.only code other h not_it) in
        (o.0, forth o.0 o.1 (λ e. not_it (sym o.2 ∙ e)), o.2, o.3)

    list_one : (codes.complete ≡ true) × IfSome now_code (IsCodeListed more number) → (p : GrantPlace) → HasItem after p
        → (p.number ≡ number) ⊎ (p.number ≡ number → ⊥)
        → IfSome (code_at moment p) (IsCodeListed more p.number)
    list_one listed p h (inl is) =
        subst (λ n. IfSome (code_at moment p) (IsCodeListed more n)) (sym is)
        (subst (λ (o : Option Text). IfSome o (IsCodeListed more number)) (sym (one p h is)) listed.1)
    list_one listed p h (inr not_it) =
        if_more (IsCodeListed codes p.number) (IsCodeListed more p.number) (code_at moment p) (λ text l. (l.0, l.1, moves.kept l.0 p.number l.2 not_it))
        (are.listed listed.0 p (back p h not_it))

-- ---- one place is changed

item_of_set : {A : Type 0} (xs : List A) (i : ℕ) (y z : A) → HasItem (set xs i y) z → (z ≡ y) ⊎ HasItem xs z
item_of_set [] i y z h = absurd h
item_of_set (x ∷ xs) zero y z (inl e) = inl e
item_of_set (x ∷ xs) zero y z (inr h) = inr (inr h)
item_of_set (x ∷ xs) (suc i) y z (inl e) = inr (inl e)
item_of_set (x ∷ xs) (suc i) y z (inr h) = elim (item_of_set xs i y z h) [ inl e ↦ inl e | inr m ↦ inr (inr m) ]

item_set : {A : Type 0} (xs : List A) (i : ℕ) (y : A) → i < length xs → HasItem (set xs i y) y
item_set [] i y inside = absurd (omega arith)
item_set (x ∷ xs) zero y inside = inl refl
item_set (x ∷ xs) (suc i) y inside = inr (item_set xs i y (omega arith))

item_beside : {A : Type 0} (xs : List A) (i : ℕ) (y z : A) → HasItem xs z → (z ≡ get_or xs i z) ⊎ HasItem (set xs i y) z
item_beside [] i y z h = absurd h
item_beside (x ∷ xs) zero y z (inl e) = inl e
item_beside (x ∷ xs) zero y z (inr h) = inr (inr h)
item_beside (x ∷ xs) (suc i) y z (inl e) = inr (inl e)
item_beside (x ∷ xs) (suc i) y z (inr h) = elim (item_beside xs i y z h) [ inl e ↦ inl e | inr m ↦ inr (inr m) ]

same_number : (places : List GrantPlace) (at : ℕ) (old p : GrantPlace) → at < length places → old ≡ get_or places at old → p ≡ get_or places at p
    → p.number ≡ old.number
same_number places at old p inside is there = ap (λ (q : GrantPlace). q.number) (there ∙ get_or_default places at p old inside ∙ sym is)

pub moved_at : (moment : ℕ) (codes more : OpenCodes) (places : List GrantPlace) (at : ℕ) (old new : GrantPlace) → AreCodesListed moment codes places
    → at < length places → old ≡ get_or places at old
    → new.number ≡ old.number → NumbersAscend (set places at new) → AreMoved codes more new.number (code_at moment new)
    → AreCodesListed moment more (set places at new)
moved_at moment codes more places at old new are inside is keeps pairs moves = moved moment codes more places (set places at new) new.number
    (code_at moment new) are moves
    (λ p h other. elim (item_of_set places at new p h) [ inl e ↦ absurd (other (ap (λ (q : GrantPlace). q.number) e)) | inr m ↦ m ])
    (λ p h other. elim (item_beside places at new p h) [ inl e ↦ absurd (other (same_number places at old p inside is e ∙ sym keeps)) | inr m ↦ m ])
    (λ p h e. ap (code_at moment) (one_key (λ (q : GrantPlace). q.number) (set places at new) p new pairs h (item_set places at new inside) e))
    (λ code c. (new, item_set places at new inside, refl))

-- The code of the place that is changed is all that is listed of its grant.
pub own_code : (moment : ℕ) (codes : OpenCodes) (places : List GrantPlace) (at : ℕ) (old : GrantPlace) → AreCodesListed moment codes places
    → NumbersAscend places → at < length places → old ≡ get_or places at old
    → (code : ℕ) → HasCode codes code old.number → IsCodeIn code (code_at moment old)
own_code moment codes places at old are pairs inside is code h =
    let o = are.open_under code old.number h in
    let same : o.0 ≡ old = one_key (λ (q : GrantPlace). q.number) places o.0 old pairs o.1 (subst (HasItem places) (sym is) (item_in places at old inside))
    o.2 in
    subst (λ (q : GrantPlace). IsCodeIn code (code_at moment q)) same o.3

pub own_listed : (moment : ℕ) (codes : OpenCodes) (places : List GrantPlace) (at : ℕ) (old : GrantPlace) → AreCodesListed moment codes places
    → at < length places → old ≡ get_or places at old
    → codes.complete ≡ true → IfSome (code_at moment old) (IsCodeListed codes old.number)
own_listed moment codes places at old are inside is all = are.listed all old (subst (HasItem places) (sym is) (item_in places at old inside))

-- Where the code of the place that is changed stays, the index stays.
pub stays_at : (moment : ℕ) (codes : OpenCodes) (places : List GrantPlace) (at : ℕ) (old new : GrantPlace) → AreCodesListed moment codes places
    → NumbersAscend places → at < length places → old ≡ get_or places at old
    → new.number ≡ old.number → NumbersAscend (set places at new) → code_at moment new ≡ code_at moment old → AreCodesListed moment codes (set places at new)
stays_at moment codes places at old new are pairs inside is keeps after same = moved_at moment codes codes places at old new are inside is keeps after (record {
  kept = λ n other h never. h;
  only = λ n other h never. h;
  own = λ n h. subst (IsCodeIn n) (sym same) (own_code moment codes places at old are pairs inside is n (subst (λ k. HasCode codes n k) keeps h));
  listed = λ all. (
    all,
    subst (λ (o : Option Text). IfSome o (IsCodeListed codes new.number)) (sym same)
        (subst (λ k. IfSome (code_at moment old) (IsCodeListed codes k)) (sym keeps) (own_listed moment codes places at old are inside is all)),
  );
})

-- ---- a place is put in or taken out

pub moved_in : (moment : ℕ) (codes more : OpenCodes) (places : List GrantPlace) (new : GrantPlace) → AreCodesListed moment codes places
    → ((p : GrantPlace) → HasItem places p → p.number < new.number)
    → AreMoved codes more new.number (code_at moment new) → AreCodesListed moment more (places ++ new ∷ [])
moved_in moment codes more places new are low moves = moved moment codes more places (places ++ new ∷ []) new.number (code_at moment new) are moves
    (λ p h other. elim (item_append places (new ∷ []) p h)
    [ inl m ↦ m | inr b ↦ elim b [ inl e ↦ absurd (other (ap (λ (q : GrantPlace). q.number) e)) | inr n ↦ absurd n ] ])
    (λ p h other. item_left places (new ∷ []) p h)
    (λ p h e. elim (item_append places (new ∷ []) p h) [
      | inl m ↦ (let l = low p m in absurd (omega (arith, l, e)))
      | inr b ↦ elim b [ inl same ↦ ap (code_at moment) same | inr n ↦ absurd n ]
    ])
    (λ code c. (new, item_right places (new ∷ []) new (inl refl), refl))

pub none_yet : (moment : ℕ) (codes : OpenCodes) (places : List GrantPlace) (number : ℕ) → AreCodesListed moment codes places
    → ((p : GrantPlace) → HasItem places p → p.number < number)
    → (code : ℕ) → HasCode codes code number → ⊥
none_yet moment codes places number are low code h =
    let o = are.open_under code number h in
    let l = low o.0 o.1 in
    let e : o.0.number ≡ number = o.2 in absurd (omega (arith, l, e))

pub moved_out : (moment : ℕ) (codes more : OpenCodes) (places : List GrantPlace) (at number : ℕ) (old : GrantPlace) → AreCodesListed moment codes places
    → NumbersAscend places → at < length places
    → old ≡ get_or places at old → old.number ≡ number → AreMoved codes more number None → AreCodesListed moment more (remove places at)
moved_out moment codes more places at number old are pairs inside is mine moves =
    subst (AreCodesListed moment more)
    (sym (removed_at (λ (p : GrantPlace). p.number) places at number old pairs inside (ap (λ (p : GrantPlace). p.number) (sym is) ∙ mine)))
    (moved moment codes more places (filter stays places) number None are moves
    (λ p h other. (item_of_filter stays places p h).0)
    (λ p h other. item_filtered stays places p h (passes p other (number == p.number) refl))
    (λ p h e. gone p e (item_of_filter stays places p h).1)
    (λ code c. absurd c))
  where
    stays : GrantPlace → Bool
    stays p = not (number == p.number)

    passes : (p : GrantPlace) → (p.number ≡ number → ⊥) → (b : Bool) → (number == p.number) ≡ b → not (number == p.number) ≡ true
    passes p other true e = absurd (other (sym (eqb-true number p.number e)))
    passes p other false e = ap not e

    gone : (p : GrantPlace) → p.number ≡ number → not (number == p.number) ≡ true → code_at moment p ≡ None
    gone p e t = let k : false ≡ true = sym (ap not (ap (λ n. number == n) e ∙ eqb-self number)) ∙ t in cc k

-- ---- a sweep

pub code_in : (moment : ℕ) (o : Option GrantPlace)
    → where_some (λ (row : GrantRow). is_some (open_code moment row.round)) (option_map grant_in o)
    ≡ where_some (λ (place : GrantPlace). is_some (code_at moment place)) o
code_in moment None = refl
code_in moment (Some p) = refl

later_code : (early late : ℕ) (o : Option Round) (code : Text) → early ≤ late → open_code late o ≡ Some code → open_code early o ≡ Some code
later_code early late None code le e = cc e
later_code early late (Some round) code le e = by (not (is_some round.decision)) (nat_lt late round.until) refl (nat_lt early round.until) refl e
  where
    by : (a b : Bool) → nat_lt late round.until ≡ b → (c : Bool) → nat_lt early round.until ≡ c → (if a && b then round.code else None) ≡ Some code
        → (if a && c then round.code else None) ≡ Some code
    by true true t true u k = k
    by true true t false u k = absurd (grind (arith, nat_tests, t, u, le))
    by true false t c u k = cc k
    by false b t c u k = cc k

pub swept_codes : (early late : ℕ) (codes more : OpenCodes) (places slice : List GrantPlace) (test : GrantPlace → Bool) → AreCodesListed early codes places
    → NumbersAscend places → NumbersAscend (filter test places)
    → early ≤ late → slice ≡ filter test places → more.complete ≡ codes.complete
    → ((i : ℕ) → get_or more.lists.items i [] ≡ filter (λ (one : Listed). is_round_open late slice one.number) (get_or codes.lists.items i []))
    → AreCodesListed late more (filter test places)
swept_codes early late codes more places slice test are pairs left_pairs le same complete lists = record {
  open_under = λ code number h. still code number (here code number h);
  listed = λ all p h. list_one p h (are.listed (sym complete ∙ all) p (item_of_filter test places p h).0) (code_at late p) refl;
}
  where
    left : List GrantPlace
    left = filter test places

    here : (code number : ℕ) → HasCode more code number → HasCode codes code number × (is_round_open late left number ≡ true)
    here code number h =
        let r = item_of_filter (λ (one : Listed). is_round_open late slice one.number) (get_or codes.lists.items (code / 20 ^ 7) []) (under code number)
        (subst (λ (os : List Listed). HasItem os (under code number)) (lists (code / 20 ^ 7)) h) in
        (r.0, ap (λ (ps : List GrantPlace). is_round_open late ps number) (sym same) ∙ r.1)

    open_code_of : (p : GrantPlace) (code : ℕ) (o : Option Text) → code_at late p ≡ o → is_some o ≡ true → IsCodeIn code (code_at early p)
        → IsCodeIn code (code_at late p)
    open_code_of p code None e t c = cc t
    open_code_of p code (Some text) e t c =
        let k = later_code early late p.row.value.round text le e in
        subst (IsCodeIn code) (k ∙ sym e) c

    still : (code number : ℕ) → HasCode codes code number × (is_round_open late left number ≡ true) → IsOpenUnder late left code number
    still code number h = found (place_numbered number left) refl h.1
      where
        was : IsOpenUnder early places code number
        was = are.open_under code number h.0

        found : (o : Option GrantPlace) → place_numbered number left ≡ o → where_some (λ (place : GrantPlace). is_some (code_at late place)) o ≡ true
            → IsOpenUnder late left code number
        found None e t = cc t
        found (Some q) e t =
            let f = found_in (λ (place : GrantPlace). place.number == number) left q e in
            let mine : q.number ≡ number = eqb-true q.number number f.1 in
            let is : was.0 ≡ q = one_key (λ (place : GrantPlace). place.number) places was.0 q pairs was.1 (item_of_filter test places q f.0).0
            (was.2 ∙ sym mine) in
            (q, f.0, mine, open_code_of q code (code_at late q) refl t (subst (λ (place : GrantPlace). IsCodeIn code (code_at early place)) is was.3))

    list_one : (p : GrantPlace) → HasItem left p → IfSome (code_at early p) (IsCodeListed codes p.number) → (o : Option Text) → code_at late p ≡ o
        → IfSome o (IsCodeListed more p.number)
    list_one p h was None e = tt
    list_one p h was (Some text) e =
        let k = later_code early late p.row.value.round text le e in
        let l : IsCodeListed codes p.number text = subst (λ (o : Option Text). IfSome o (IsCodeListed codes p.number)) k was in (
          l.0,
          l.1,
          subst (λ (os : List Listed). HasItem os (under l.0 p.number)) (sym (lists (l.0 / 20 ^ 7)))
              (item_filtered (λ (one : Listed). is_round_open late slice one.number) (get_or codes.lists.items (l.0 / 20 ^ 7) []) (under l.0 p.number) l.2
              (ap (λ (ps : List GrantPlace). is_round_open late ps p.number) same
              ∙ ap (where_some (λ (place : GrantPlace). is_some (code_at late place))) (numbered_place left p left_pairs h) ∙ ap is_some e)),
        )

-- ---- what is listed is found

number_text : (text : Text) (code : ℕ) → number_of text ≡ Some code → text ≡ code_text code
number_text text code e =
    let k = some_if_some (nat_lt (number_in text) code_count && same_text (code_text (number_in text)) text) (number_in text) code e in
    sym ((bytes_eq-Decides (code_text (number_in text)) text).0 (second (nat_lt (number_in text) code_count) (same_text (code_text (number_in text)) text) k.0))
    ∙ ap code_text k.1
  where
    second : (a b : Bool) → (a && b) ≡ true → b ≡ true
    second true b e = e
    second false b e = cc e

-- An interaction of this code in which the user may still decide is that of the grant that is listed under the code.
pub code_found : (moment now : ℕ) (codes : OpenCodes) (places : List GrantPlace) (name : InteractionName) (text : Text) (found : Option ℕ)
    → AreCodesListed moment codes places → codes.complete ≡ true → moment ≤ now
    → ((round : Round) → is_called name round ≡ true → is_text text round.code ≡ true)
    → ((n number : ℕ) → number_of text ≡ Some n → HasCode codes n number → found ≡ Some number)
    → (p : GrantPlace) → HasItem places p → is_open_by name now p.row.value.round ≡ true → found ≡ Some p.number
code_found moment now codes places name text found are all le called finds p h e = by p.row.value.round (are.listed all p h) e
  where
    by : (o : Option Round) → IfSome (open_code moment o) (IsCodeListed codes p.number) → is_open_by name now o ≡ true → found ≡ Some p.number
    by None listed k = cc k
    by (Some round) listed k = goes_on (not (is_some round.decision)) (nat_lt now round.until) refl (is_called name round) refl (nat_lt moment round.until) refl
        listed k
      where
        coded : (o : Option Text) → is_text text o ≡ true → IfSome o (IsCodeListed codes p.number) → found ≡ Some p.number
        coded None t l = cc t
        coded (Some drawn) t l =
            let same : drawn ≡ text = (bytes_eq-Decides drawn text).0 t in
            finds l.0 p.number (ap number_of (sym same) ∙ l.1) l.2

        goes_on : (a b : Bool) → nat_lt now round.until ≡ b → (c : Bool) → is_called name round ≡ c → (d : Bool) → nat_lt moment round.until ≡ d
            → IfSome (if a && d then round.code else None) (IsCodeListed codes p.number) → (a && b && c) ≡ true
            → found ≡ Some p.number
        goes_on true true t true u true v l k = coded round.code (called round u) l
        goes_on true true t true u false v l k = absurd (grind (arith, nat_tests, t, v, le))
        goes_on true true t false u d v l k = cc k
        goes_on true false t c u d v l k = cc k
        goes_on false b t c u d v l k = cc k

-- ---- a code that is listed is taken

open_parts : (now : ℕ) (o : Option Round) (text : Text) → open_code now o ≡ Some text
    → (round : Round) × (o ≡ Some round) × ((not (is_some round.decision) && nat_lt now round.until) ≡ true) × (round.code ≡ Some text)
open_parts now None text e = cc e
open_parts now (Some round) text e = by (not (is_some round.decision) && nat_lt now round.until) refl e
  where
    by : (b : Bool) → (not (is_some round.decision) && nat_lt now round.until) ≡ b → (if b then round.code else None) ≡ Some text
        → (r : Round) × (Some round ≡ Some r) × ((not (is_some r.decision) && nat_lt now r.until) ≡ true) × (r.code ≡ Some text)
    by true t k = (round, refl, t, k)
    by false t k = cc k

code_open : (now : ℕ) (row : GrantRow) (round : Round) (text target : Text) → row.round ≡ Some round
    → (not (is_some round.decision) && nat_lt now round.until) ≡ true → round.code ≡ Some text → same_text text target ≡ true
    → interaction_where (λ (r : RoundNote). is_text target r.code) now row ≡ Some (record { row = row; round = round_of row.number round })
code_open now row round text target is lasts coded same =
    ap whole is ∙ ap (λ b. option_and_then named (some_if b (round_of row.number round))) lasts ∙ ap (λ c. some_if (is_text target c) found) coded
    ∙ ap (λ b. some_if b found) same
  where
    found : Interaction
    found = record { row = row; round = round_of row.number round }

    named : RoundNote → Option Interaction
    named r = some_if (is_text target r.code) (record { row = row; round = r })

    whole : Option Round → Option Interaction
    whole o = option_and_then named (option_and_then (λ (r : Round). some_if (is_open_round now r) (round_of row.number r)) o)

pub code_taken : (moment now : ℕ) (codes : OpenCodes) (places : List GrantPlace) (rows : List GrantRow) (code number : ℕ) → AreCodesListed moment codes places
    → now ≤ moment → map grant_in places ≡ rows → HasCode codes code number
    → is_some (interaction_by_code now (code_text code) rows) ≡ true
code_taken moment now codes places rows code number are le view h = by (code_at moment o.0) refl o.3
  where
    o : IsOpenUnder moment places code number
    o = are.open_under code number h

    has : HasItem rows o.0.row.value
    has = subst (λ (rs : List GrantRow). HasItem rs o.0.row.value) view (item_mapped grant_in places o.0 o.1)

    by : (c : Option Text) → code_at moment o.0 ≡ c → IsCodeIn code c → is_some (interaction_by_code now (code_text code) rows) ≡ true
    by None e i = absurd i
    by (Some text) e i =
        let r = open_parts now o.0.row.value.round text (later_code now moment o.0.row.value.round text le e) in
        let same : same_text text (code_text code) ≡ true = (bytes_eq-Decides text (code_text code)).1 (number_text text code i) in
        newest_some (interaction_where (λ (n : RoundNote). is_text (code_text code) n.code) now) rows o.0.row.value _ has
        (code_open now o.0.row.value r.0 text (code_text code) r.1 r.2 r.3 same)

-- ---- what a call reads at the place that it changes

pub read_own : (moment : ℕ) (codes : OpenCodes) (places : List GrantPlace) (at number : ℕ) (old : GrantPlace) (before : Option Text)
    → AreCodesListed moment codes places → NumbersAscend places → at < length places → old ≡ get_or places at old → number ≡ old.number
    → before ≡ code_at moment old
    → (code : ℕ) → HasCode codes code number → IsCodeIn code before
read_own moment codes places at number old before are pairs inside is keeps coded code h =
    subst (IsCodeIn code) (sym coded) (own_code moment codes places at old are pairs inside is code (subst (λ n. HasCode codes code n) keeps h))

pub read_listed : (moment : ℕ) (codes : OpenCodes) (places : List GrantPlace) (at number : ℕ) (old : GrantPlace) (before : Option Text)
    → AreCodesListed moment codes places → at < length places → old ≡ get_or places at old → number ≡ old.number
    → before ≡ code_at moment old
    → codes.complete ≡ true → IfSome before (IsCodeListed codes number)
read_listed moment codes places at number old before are inside is keeps coded all =
    subst (λ (o : Option Text). IfSome o (IsCodeListed codes number)) (sym coded)
    (subst (λ n. IfSome (code_at moment old) (IsCodeListed codes n)) (sym keeps) (own_listed moment codes places at old are inside is all))

pub read_moved : (moment : ℕ) (codes more : OpenCodes) (places : List GrantPlace) (at : ℕ) (old new : GrantPlace) (after : Option Text)
    → AreCodesListed moment codes places → at < length places
    → old ≡ get_or places at old → new.number ≡ old.number → NumbersAscend (set places at new)
    → after ≡ code_at moment new → AreMoved codes more new.number after → AreCodesListed moment more (set places at new)
read_moved moment codes more places at old new after are inside is keeps pairs coded moves =
    moved_at moment codes more places at old new are inside is keeps pairs (subst (AreMoved codes more new.number) coded moves)

pub numbers_low : (places : List GrantPlace) (doors : List Listed) (bound number : ℕ) (rows : List GrantRow) → map grant_in places ≡ rows
    → AreGrantPlaces places doors bound
    → All (λ (other : GrantRow). other.number < number) rows → (p : GrantPlace) → HasItem places p → p.number < number
numbers_low places doors bound number rows view are low p h =
    let has = subst (λ (rs : List GrantRow). HasItem rs p.row.value) view (item_mapped grant_in places p h) in
    let l = item_all (λ (other : GrantRow). other.number < number) rows p.row.value low has in
    let e = (item_all (IsGrantPlace doors) places p are.each h).number in omega (arith, l, e)

-- a change that leaves the round leaves its code
pub code_left : (moment number : ℕ) (f : GrantRow → GrantRow) (old new : GrantPlace) → Changes number f old new → ((row : GrantRow) → (f row).round ≡ row.round)
    → code_at moment new ≡ code_at moment old
code_left moment number f old new changes stays = ap (open_code moment) (ap (λ (r : GrantRow). r.round) changes.row ∙ by (number == old.number))
  where
    by : (b : Bool) → (if b then f old.row.value else old.row.value).round ≡ old.row.value.round
    by true = stays old.row.value
    by false = refl
