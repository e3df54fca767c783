-- The names of rounds, as they are listed, and the grant that is found by one.
use Rattle.std.proofs.Common.{ℕ, ◌≡◌, ◌⊎◌, ◌<◌, ◌≤◌, ◌+◌, suc, Bool, true, false, List, [], ◌∷◌, ◌++◌, length, get_or, take, map, reverse, refl, sym, ◌∙◌, ap, subst, inl, inr, arith, Option, Some, None}
use Rattle.std.specs.Prelude.{◌==◌, ◌&&◌, nat_lt, not, is_some, filter, if◌then◌else◌, option_map, slice_get, IfSome}
use Rattle.std.specs.Option.{option_and_then, option_or}
use Rattle.std.specs.List.{AllPairs, remove}
use Rattle.std.proofs.Math.ListN.{set}
use Rattle.std.proofs.lemmas.List.Elements.{All-push, All-set, All-filter}
use Rattle.std.proofs.lemmas.Bool.{eqb-true}
use Rattle.std.proofs.lemmas.List.{map-append, take_more, reverse-append}
use Rattle.std.proofs.lemmas.Bool.Decides.{nat_tests}
use Rattle.gnap_model.specs.Common.{Text, first_of, some_if}
use Rattle.gnap_model.proofs.LookUps.{some_if_some, first_of-append}
use Rattle.gnap_tables.specs.declared.rows.GrantRow.{GrantRow}
use Rattle.gnap_tables.specs.declared.rows.Round.{Round}
use Rattle.gnap_tables.specs.RowSearches.{Interaction, interaction_where, newest}
use Rattle.gnap_tables.proofs.Lists.{HasItem, reverse-cons}
use Rattle.grant_states.specs.declared.changes.Change.{Change}
use Rattle.grant_states.specs.declared.changes.Change.TheVariants.{Terms, Approve, Decide, Wrong}
use Rattle.grant_states.specs.declared.grant_table.GrantPlace.{GrantPlace}
use Rattle.grant_states.specs.declared.interactions.InteractionName.{InteractionName}
use Rattle.grant_states.specs.declared.numbers_by_key.Listed.{Listed}
use Rattle.grant_states.specs.Listed.{under, where_some}
use Rattle.grant_states.specs.Interactions.{goes_by, is_called, is_open_by}
use Rattle.grant_states.specs.Serials.{handle_key}
use Rattle.grant_states.specs.Grants.{grant_in, AreGrantPlaces, AreHandlesListed, IsHandleListed, Changes, changed_by, in_round, is_handle_listed, later_of, open_numbered, place_numbered, IsLatest}
use Rattle.grant_states.proofs.Items.{found_in, found_none, item_all, item_append, item_filtered, item_at, item_in, item_left, item_mapped, item_of_map, item_right, newest_none, newest_only}
use Rattle.ordered_search.specs.Order.{IsAscending, IsPlaceOf}
use Rattle.grant_states.proofs.Placed.{eqb-self, one_key, placed_key}
use Rattle.grant_states.proofs.Changed.{removed_at}
use Rattle.grant_states.proofs.GrantLemmas.{place_pairs, KeepsDoor, KeepsNumber}
use Rattle.grant_states.proofs.InteractionLemmas.{open_rows}

-- ---- handles stay listed

-- what is listed in the one is listed in the other
abbrev pub Extends : List Listed → List Listed → Type 0
Extends names more = (one : Listed) → HasItem names one → HasItem more one

more_listed : (names more : List Listed) (number : ℕ) (o : Option Round) → Extends names more → IfSome o (IsHandleListed names number)
    → IfSome o (IsHandleListed more number)
more_listed names more number None extends is = tt
more_listed names more number (Some round) extends is = extends (under (handle_key round.handle) number) is

pub still_listed : (names more : List Listed) (places : List GrantPlace) → Extends names more → AreHandlesListed names places → AreHandlesListed more places
still_listed names more places extends all = λ k d kn. more_listed names more (get_or places k d).number (get_or places k d).row.value.round extends
    (all k d kn)

abbrev pub IsNamed : List Listed → GrantPlace → Type 0
IsNamed names place = IfSome place.row.value.round (IsHandleListed names place.number)

pub named_pushed : (names : List Listed) (places : List GrantPlace) (new : GrantPlace) → AreHandlesListed names places → IsNamed names new
    → AreHandlesListed names (places ++ new ∷ [])
named_pushed names places new all one = All-push (IsNamed names) places new all one

pub named_kept : (names : List Listed) (test : GrantPlace → Bool) (places : List GrantPlace) → AreHandlesListed names places
    → AreHandlesListed names (filter test places)
named_kept names test places all = All-filter test (IsNamed names) places all

pub named_set : (names : List Listed) (places : List GrantPlace) (at : ℕ) (new : GrantPlace) → AreHandlesListed names places → IsNamed names new
    → AreHandlesListed names (set places at new)
named_set names places at new all one = All-set (IsNamed names) places at new one all

pub named_left : (names : List Listed) (places : List GrantPlace) (doors : List Listed) (bound at number : ℕ) (old : GrantPlace)
    → AreGrantPlaces places doors bound → at < length places → old ≡ get_or places at old → old.number ≡ number
    → AreHandlesListed names places → AreHandlesListed names (remove places at)
named_left names places doors bound at number old are inside is mine all =
    subst (AreHandlesListed names) (sym
    (removed_at (λ (p : GrantPlace). p.number) places at number old (place_pairs places doors bound are) inside
    (ap (λ (p : GrantPlace). p.number) (sym is) ∙ mine)))
    (named_kept names (λ (p : GrantPlace). not (number == p.number)) places all)

pub round_keeps_number : (round : Round) → KeepsNumber (in_round round)
round_keeps_number round row = refl

pub round_keeps_door : (round : Round) → KeepsDoor (in_round round)
round_keeps_door round row = refl

-- the names of a row that was changed are listed, where those that the change leaves are
pub named_after : (names : List Listed) (number : ℕ) (f : GrantRow → GrantRow) (old new : GrantPlace) → Changes number f old new → IsNamed names old
    → (number ≡ old.number → IfSome (f old.row.value).round (IsHandleListed names old.number)) → IsNamed names new
named_after names number f old new changes was after =
    subst (λ n. IfSome new.row.value.round (IsHandleListed names n)) (sym changes.number_kept)
    (subst (λ (row : GrantRow). IfSome row.round (IsHandleListed names old.number)) (sym changes.row) (by (number == old.number) refl))
  where
    by : (b : Bool) → (number == old.number) ≡ b → IfSome (if b then f old.row.value else old.row.value).round (IsHandleListed names old.number)
    by true e = after (eqb-true number old.number e)
    by false e = was

pub round_after : (names : List Listed) (number : ℕ) (change : Change) (row : GrantRow) → IfSome row.round (IsHandleListed names number)
    → IfSome (changed_by change row).round (IsHandleListed names number)
round_after names number (Terms asks single subject) row is = is
round_after names number (Approve consent) row is = tt
round_after names number (Decide decision) row is = by row.round is
  where
    by : (o : Option Round) → IfSome o (IsHandleListed names number)
        → IfSome (option_map (λ (round : Round). record round { decision = Some decision }) o) (IsHandleListed names number)
    by None i = tt
    by (Some round) i = i
round_after names number Wrong row is = by row.round is
  where
    by : (o : Option Round) → IfSome o (IsHandleListed names number)
        → IfSome (option_map (λ (round : Round). record round { wrongs = round.wrongs + 1 }) o) (IsHandleListed names number)
    by None i = tt
    by (Some round) i = i

-- ---- a place by its number

pub numbered_place : (places : List GrantPlace) (p : GrantPlace) → AllPairs (λ (a b : GrantPlace). a.number < b.number) places → HasItem places p
    → place_numbered p.number places ≡ Some p
numbered_place places p pairs h = newest_only (λ (q : GrantPlace). some_if (q.number == p.number) q) places p p h (rw (eqb-self p.number) refl)
    (λ z w k f. let both = some_if_some (z.number == p.number) z w f in sym both.1
    ∙ one_key (λ (q : GrantPlace). q.number) places z p pairs k h (eqb-true z.number p.number both.0))

-- what stands at the place of a number
pub numbered_at : (places : List GrantPlace) (at number : ℕ) → IsAscending (map (λ (place : GrantPlace). place.number) places)
    → IsPlaceOf number (map (λ (place : GrantPlace). place.number) places) at
    → option_map grant_in (option_and_then (λ (place : GrantPlace). some_if (place.number == number) place) (slice_get places at))
    ≡ option_map grant_in (place_numbered number places)
numbered_at places at number ascending place = ap (λ (o : Option GrantPlace). option_map grant_in o)
    (placed_key (λ (place : GrantPlace). place.number) places at number ascending place)

pub open_in : (name : InteractionName) (now : ℕ) (o : Option GrantPlace)
    → option_and_then (λ (row : GrantRow). some_if (is_open_by name now row.round) row) (option_map grant_in o)
    ≡ option_and_then (λ (place : GrantPlace). some_if (is_open_by name now place.row.value.round) place.row.value) o
open_in name now None = refl
open_in name now (Some p) = refl

pub round_in : (o : Option GrantPlace)
    → option_and_then (λ (row : GrantRow). row.round) (option_map grant_in o) ≡ option_and_then (λ (place : GrantPlace). place.row.value.round) o
round_in None = refl
round_in (Some p) = refl

-- ---- names that are left out

handle_current : (places : List GrantPlace) (p : GrantPlace) (round : Round) → AllPairs (λ (a b : GrantPlace). a.number < b.number) places → HasItem places p
    → p.row.value.round ≡ Some round
    → is_handle_listed places (under (handle_key round.handle) p.number) ≡ true
handle_current places p round pairs h e =
    ap (λ (o : Option GrantPlace). where_some (λ (r : Round). handle_key r.handle == handle_key round.handle)
    (option_and_then (λ (q : GrantPlace). q.row.value.round) o)) (numbered_place places p pairs h)
    ∙ ap (where_some (λ (r : Round). handle_key r.handle == handle_key round.handle)) e ∙ eqb-self (handle_key round.handle)

pub still_named : (slice places : List GrantPlace) (doors : List Listed) (bound : ℕ) (names left : List Listed) → slice ≡ places
    → AreGrantPlaces places doors bound → AreHandlesListed names places
    → left ≡ filter (is_handle_listed slice) names → AreHandlesListed left places
still_named slice places doors bound names left same are all handles = λ k d kn. one (get_or places k d) (item_in places k d kn)
    (get_or places k d).row.value.round refl (all k d kn)
  where
    pairs : AllPairs (λ (a b : GrantPlace). a.number < b.number) places
    pairs = place_pairs places doors bound are

    one : (p : GrantPlace) → HasItem places p → (o : Option Round) → p.row.value.round ≡ o → IfSome o (IsHandleListed names p.number)
        → IfSome o (IsHandleListed left p.number)
    one p h None e is = tt
    one p h (Some round) e is = subst (λ (ls : List Listed). HasItem ls (under (handle_key round.handle) p.number)) (sym handles)
        (item_filtered (is_handle_listed slice) names (under (handle_key round.handle) p.number) is
        (subst (λ (ps : List GrantPlace). is_handle_listed ps (under (handle_key round.handle) p.number) ≡ true) (sym same)
        (handle_current places p round pairs h e)))

-- ---- the latest of those that are listed

pub latest_none : (look : ℕ → Option GrantRow) → IsLatest look [] None
latest_none look = record { is = tt; last = λ one row h e. absurd h }

pub latest_more : (look : ℕ → Option GrantRow) (listed : List Listed) (one : Listed) (found : Option GrantRow) → IsLatest look listed found
    → IsLatest look (listed ++ one ∷ []) (later_of found (look one.number))
latest_more look listed one found latest = by found (look one.number) refl latest
  where
    split : (other : Listed) → HasItem (listed ++ one ∷ []) other → HasItem listed other ⊎ (other ≡ one)
    split other h = elim (item_append listed (one ∷ []) other h) [ inl a ↦ inl a | inr b ↦ elim b [ inl e ↦ inr e | inr n ↦ absurd n ] ]

    by : (f n : Option GrantRow) → look one.number ≡ n → IsLatest look listed f → IsLatest look (listed ++ one ∷ []) (later_of f n)
    by None None e is = record {
      is = tt;
      last = λ other row h l. elim (split other h) [
        | inl a ↦ is.last other row a l
        | inr same ↦ (let k : None ≡ Some row = sym e ∙ ap (λ (x : Listed). look x.number) (sym same) ∙ l in absurd (cc k))
      ];
    }
    by None (Some next) e is = record {
      is = (one, item_right listed (one ∷ []) one (inl refl), e);
      last = λ other row h l. elim (split other h) [
        | inl a ↦ (let k : None ≡ Some (is.last other row a l).0 = (is.last other row a l).1 in absurd (cc k))
        | inr same ↦ (let k : Some next ≡ Some row = sym e ∙ ap (λ (x : Listed). look x.number) (sym same) ∙ l in
            let m : next ≡ row = cc k in (next, refl, (let n : next.number ≡ row.number = ap (λ (r : GrantRow). r.number) m in omega (arith, n))))
      ];
    }
    by (Some before) None e is = record {
      is = (is.is.0, item_left listed (one ∷ []) is.is.0 is.is.1, is.is.2);
      last = λ other row h l. elim (split other h) [
        | inl a ↦ is.last other row a l
        | inr same ↦ (let k : None ≡ Some row = sym e ∙ ap (λ (x : Listed). look x.number) (sym same) ∙ l in absurd (cc k))
      ];
    }
    by (Some before) (Some next) e is = at (nat_lt before.number next.number) refl
      where
        was : (other : Listed) (row : GrantRow) → HasItem listed other → look other.number ≡ Some row → row.number ≤ before.number
        was other row a l =
            let r = is.last other row a l in
            let k : Some before ≡ Some r.0 = r.1 in
            let m : before ≡ r.0 = cc k in
            let n : before.number ≡ r.0.number = ap (λ (x : GrantRow). x.number) m in
            let low = r.2 in omega (arith, n, low)

        new : (other : Listed) (row : GrantRow) → other ≡ one → look other.number ≡ Some row → row.number ≡ next.number
        new other row same l =
            let k : Some next ≡ Some row = sym e ∙ ap (λ (x : Listed). look x.number) (sym same) ∙ l in
            let m : next ≡ row = cc k in ap (λ (x : GrantRow). x.number) (sym m)

        at : (b : Bool) → nat_lt before.number next.number ≡ b → IsLatest look (listed ++ one ∷ []) (if b then Some next else Some before)
        at true t = record {
          is = (one, item_right listed (one ∷ []) one (inl refl), e);
          last = λ other row h l. elim (split other h) [
            | inl a ↦ (next, refl, (let low = was other row a l in grind (arith, nat_tests, t, low)))
            | inr same ↦ (next, refl, (let n = new other row same l in omega (arith, n)))
          ];
        }
        at false t = record {
          is = (is.is.0, item_left listed (one ∷ []) is.is.0 is.is.1, is.is.2);
          last = λ other row h l. elim (split other h) [
            | inl a ↦ (before, refl, was other row a l)
            | inr same ↦ (before, refl, (let n = new other row same l in grind (arith, nat_tests, t, n)))
          ];
        }

pub latest_step : (look : ℕ → Option GrantRow) (listed : List Listed) (k : ℕ) (d : Listed) (found next result : Option GrantRow) → k < length listed
    → IsLatest look (take k listed) found
    → next ≡ look (get_or listed k d).number → result ≡ later_of found next → IsLatest look (take (k + 1) listed) result
latest_step look listed k d found next result inside latest is later =
    subst (λ (ls : List Listed). IsLatest look ls result) (sym (take_more listed k d inside))
    (subst (λ (r : Option GrantRow). IsLatest look (take k listed ++ get_or listed k d ∷ []) r) (sym (later ∙ ap (later_of found) is))
    (latest_more look (take k listed) (get_or listed k d) found latest))

-- ---- it is the last row of that name

newest_cons : {A B : Type 0} (look : A → Option B) (x : A) (xs : List A) → newest look (x ∷ xs) ≡ option_or (newest look xs) (look x)
newest_cons {A} {B} look x xs = ap (first_of look) (reverse-cons x xs) ∙ first_of-append look (reverse xs) (x ∷ [])
    ∙ ap (option_or (newest look xs)) (end (look x))
  where
    end : (o : Option B) → option_or o None ≡ o
    end None = refl
    end (Some y) = refl

pub newest_push : {A B : Type 0} (look : A → Option B) (xs : List A) (x : A) → newest look (xs ++ x ∷ []) ≡ option_or (look x) (newest look xs)
newest_push look xs x = ap (first_of look) (reverse-append xs (x ∷ []))

pub newest_step : (look : GrantRow → Option GrantRow) (places : List GrantPlace) (k : ℕ) (place : GrantPlace) (row : GrantRow) (found result : Option GrantRow)
    → k < length places → place ≡ get_or places k place → row ≡ place.row.value
    → found ≡ newest look (map grant_in (take k places)) → result ≡ option_or (look row) found → result ≡ newest look (map grant_in (take (k + 1) places))
newest_step look places k place row found result inside is read was step =
    let there : row ≡ grant_in (get_or places k place) = read ∙ ap grant_in is in
    step ∙ ap (λ (r : GrantRow). option_or (look r) found) there ∙ ap (option_or (look (grant_in (get_or places k place)))) was
    ∙ sym (newest_push look (map grant_in (take k places)) (grant_in (get_or places k place)))
    ∙ ap (newest look) (sym (map-append grant_in (take k places) (get_or places k place ∷ [])))
    ∙ ap (λ (ps : List GrantPlace). newest look (map grant_in ps)) (sym (take_more places k place inside))

-- what is found has the greatest number of all that pass
newest_last : (test : GrantRow → Bool) (rows : List GrantRow) (y : GrantRow) → AllPairs (λ (a b : GrantRow). a.number < b.number) rows
    → newest (λ (row : GrantRow). some_if (test row) row) rows ≡ Some y
    → (z : GrantRow) → HasItem rows z → test z ≡ true → z.number ≤ y.number
newest_last test [] y pairs e z h t = absurd h
newest_last test (x ∷ xs) y pairs e z h t = by (λ later n k. newest_last test xs y later n z k t) (newest look xs) refl
  where
    look : GrantRow → Option GrantRow
    look row = some_if (test row) row

    parts : option_or (newest look xs) (look x) ≡ Some y
    parts = sym (newest_cons look x xs) ∙ e

    rest : AllPairs (λ (a b : GrantRow). a.number < b.number) xs
    rest i j d lt jn = pairs (suc i) (suc j) d (omega (arith, lt)) (omega (arith, jn))

    first : (w : GrantRow) → HasItem xs w → x.number < w.number
    first w k =
        let p = item_at xs w k in
        let inside : p.0 < length xs = p.1 in
        let low : x.number < (get_or xs p.0 w).number = pairs 0 (suc p.0) w (omega arith) (omega (arith, inside)) in
        let same : (get_or xs p.0 w).number ≡ w.number = ap (λ (r : GrantRow). r.number) (p.2 w) in omega (arith, low, same)

    by : (AllPairs (λ (a b : GrantRow). a.number < b.number) xs → newest look xs ≡ Some y → HasItem xs z → z.number ≤ y.number) → (o : Option GrantRow)
        → newest look xs ≡ o → z.number ≤ y.number
    by again None n = elim h [
      | inl same ↦ (let k = some_if_some (test x) x y (ap (λ (q : Option GrantRow). option_or q (look x)) (sym n) ∙ parts) in
          let m : z.number ≡ y.number = ap (λ (r : GrantRow). r.number) (same ∙ k.1) in omega (arith, m))
      | inr k ↦ absurd (found_none test xs n z k t)
    ]
    by again (Some w) n =
        let k : Some w ≡ Some y = ap (λ (q : Option GrantRow). option_or q (look x)) (sym n) ∙ parts in
        let m : w ≡ y = cc k in
        let n_y : newest look xs ≡ Some y = n ∙ ap (λ (r : GrantRow). Some r) m in elim h [
          | inl same ↦ (let low = first y (found_in test xs y n_y).0 in
              let s : z.number ≡ x.number = ap (λ (r : GrantRow). r.number) same in omega (arith, low, s))
          | inr k2 ↦ again rest n_y k2
        ]

newest_greatest : (test : GrantRow → Bool) (rows : List GrantRow) (y : GrantRow) → AllPairs (λ (a b : GrantRow). a.number < b.number) rows → HasItem rows y
    → test y ≡ true
    → ((z : GrantRow) → HasItem rows z → test z ≡ true → z.number ≤ y.number) → newest (λ (row : GrantRow). some_if (test row) row) rows ≡ Some y
newest_greatest test rows y pairs has passes greatest = by (newest (λ (row : GrantRow). some_if (test row) row) rows) refl
  where
    by : (o : Option GrantRow) → newest (λ (row : GrantRow). some_if (test row) row) rows ≡ o → o ≡ Some y
    by None e = absurd (found_none test rows e y has passes)
    by (Some w) e =
        let f = found_in test rows w e in
        let low = greatest w f.0 f.1 in
        let high = newest_last test rows w pairs e y has passes in
        ap (λ (r : GrantRow). Some r) (one_key (λ (r : GrantRow). r.number) rows w y pairs f.0 has (omega (arith, low, high)))

-- the grants that are listed under a name, the one with this number among them
abbrev pub HasNumber : List Listed → ℕ → Type 0
HasNumber listed number = (one : Listed) × HasItem listed one × (one.number ≡ number)

-- the parts of what it means that the user may still decide
open_called : (name : InteractionName) (now : ℕ) (o : Option Round) → is_open_by name now o ≡ true
    → (round : Round) × (o ≡ Some round) × (is_called name round ≡ true)
open_called name now None e = cc e
open_called name now (Some round) e = (round, refl, last (not (is_some round.decision)) (nat_lt now round.until) (is_called name round) e)
  where
    last : (a b c : Bool) → (a && b && c) ≡ true → c ≡ true
    last true true c e = e
    last true false c e = cc e
    last false b c e = cc e

-- a grant whose round goes by the handle is among those that are listed under the handle
pub handle_finds : (names listed : List Listed) (places : List GrantPlace) (name : InteractionName) (handle : Text) (key now : ℕ)
    → AreHandlesListed names places → ((round : Round) → is_called name round ≡ true → round.handle ≡ handle)
    → key ≡ handle_key handle → ((one : Listed) → HasItem names one → one.key ≡ key → HasItem listed one)
    → (p : GrantPlace) → HasItem places p → is_open_by name now p.row.value.round ≡ true → HasNumber listed p.number
handle_finds names listed places name handle key now all called is finds p h e =
    let r = open_called name now p.row.value.round e in
    let named : IsHandleListed names p.number r.0 = subst (λ (o : Option Round). IfSome o (IsHandleListed names p.number)) r.1
    (item_all (IsNamed names) places p all h) in
    (under (handle_key r.0.handle) p.number, finds (under (handle_key r.0.handle) p.number) named (ap handle_key (called r.0 r.2) ∙ sym is), refl)

pub interaction_latest : (slice places : List GrantPlace) (doors : List Listed) (bound : ℕ) (rows : List GrantRow) (listed : List Listed)
    (name : InteractionName) (now : ℕ) (found : Option GrantRow)
    → slice ≡ places → map grant_in places ≡ rows → AreGrantPlaces places doors bound
    → ((p : GrantPlace) → HasItem places p → is_open_by name now p.row.value.round ≡ true → HasNumber listed p.number)
    → IsLatest (open_numbered slice now name) listed found
    → found ≡ option_map (λ (i : Interaction). i.row) (newest (interaction_where (goes_by name) now) rows)
interaction_latest slice places doors bound rows listed name now found same view are finds latest = by found latest_here ∙ sym (open_rows name now rows)
  where
    test : GrantRow → Bool
    test row = is_open_by name now row.round

    latest_here : IsLatest (open_numbered places now name) listed found
    latest_here = subst (λ (ps : List GrantPlace). IsLatest (open_numbered ps now name) listed found) same latest

    pairs : AllPairs (λ (a b : GrantPlace). a.number < b.number) places
    pairs = place_pairs places doors bound are

    row_pairs : AllPairs (λ (a b : GrantRow). a.number < b.number) rows
    row_pairs = subst (λ (rs : List GrantRow). AllPairs (λ (a b : GrantRow). a.number < b.number) rs) view are.ascending

    -- a row that is open is listed, and what is listed finds it
    listed_row : (z : GrantRow) → HasItem rows z → test z ≡ true → (one : Listed) × HasItem listed one × (open_numbered places now name one.number ≡ Some z)
    listed_row z h decides =
        let p = item_of_map grant_in places z (subst (λ (rs : List GrantRow). HasItem rs z) (sym view) h) in
        let open_p : is_open_by name now p.0.row.value.round ≡ true = ap (λ (r : GrantRow). is_open_by name now r.round) p.2 ∙ decides in
        let one = finds p.0 p.1 open_p in
        let there : place_numbered one.0.number places ≡ Some p.0 = ap (λ n. place_numbered n places) one.2 ∙ numbered_place places p.0 pairs p.1 in (
          one.0,
          one.1,
          ap (λ (o : Option GrantPlace). option_and_then (λ (place : GrantPlace). some_if (is_open_by name now place.row.value.round) place.row.value) o) there
              ∙ ap (λ b. some_if b p.0.row.value) open_p ∙ ap (λ (r : GrantRow). Some r) p.2,
        )

    -- what is found is a row that is open
    row_found : (number : ℕ) (f : GrantRow) → open_numbered places now name number ≡ Some f → HasItem rows f × (test f ≡ true)
    row_found number f e = at (place_numbered number places) refl e
      where
        at : (o : Option GrantPlace) → place_numbered number places ≡ o
            → option_and_then (λ (place : GrantPlace). some_if (is_open_by name now place.row.value.round) place.row.value) o ≡ Some f
            → HasItem rows f × (test f ≡ true)
        at None n k = cc k
        at (Some p) n k =
            let both = some_if_some (is_open_by name now p.row.value.round) p.row.value f k in
            let has = (found_in (λ (q : GrantPlace). q.number == number) places p n).0 in (
              subst (λ (rs : List GrantRow). HasItem rs f) view (subst (HasItem (map grant_in places)) both.1 (item_mapped grant_in places p has)),
              subst (λ (r : GrantRow). test r ≡ true) both.1 both.0,
            )

    by : (o : Option GrantRow) → IsLatest (open_numbered places now name) listed o → o ≡ newest (λ (row : GrantRow). some_if (test row) row) rows
    by None is = sym (newest_none (λ (row : GrantRow). some_if (test row) row) rows (λ z h. nothing z h (test z) refl))
      where
        nothing : (z : GrantRow) → HasItem rows z → (b : Bool) → test z ≡ b → some_if b z ≡ None
        nothing z h false e = refl
        nothing z h true e =
            let one = listed_row z h e in
            let r = is.last one.0 z one.1 one.2 in
            let k : None ≡ Some r.0 = r.1 in absurd (cc k)
    by (Some f) is =
        let has = row_found is.is.0.number f is.is.2 in
        sym (newest_greatest test rows f row_pairs has.0 has.1 (λ z h e.
        let one = listed_row z h e in
        let r = is.last one.0 z one.1 one.2 in
        let k : Some f ≡ Some r.0 = r.1 in
        let m : f ≡ r.0 = cc k in
        let n : f.number ≡ r.0.number = ap (λ (x : GrantRow). x.number) m in
        let low = r.2 in omega (arith, n, low)))
