-- Rows of grants, as they are stored.
use Rattle.std.proofs.Common.{ℕ, ◌≡◌, ◌⊎◌, ◌<◌, ◌≤◌, ◌+◌, ◌^◌, Bool, true, false, List, [], ◌∷◌, ◌++◌, length, get_or, map, refl, sym, ◌∙◌, ap, subst, inl, inr, arith, Option, Some, None}
use Rattle.std.specs.Prelude.{slice_get, not, ◌&&◌, ◌||◌, filter, ◌==◌, if◌then◌else◌, option_map, is_some}
use Rattle.std.specs.Option.{option_and_then}
use Rattle.std.specs.List.{All, AllPairs, remove}
use Rattle.std.proofs.Math.ListN.{set}
use Rattle.std.proofs.lemmas.List.{length-map, get_or-map, map-set, map-append}
use Rattle.std.proofs.lemmas.List.Elements.{All-filter, All-push, All-set}
use Rattle.std.proofs.lemmas.List.Kept.{AllPairs-filter}
use Rattle.std.proofs.lemmas.List.Quantifiers.{all_pairs_push}
use Rattle.std.proofs.lemmas.Option.{slice_get-map}
use Rattle.std.proofs.lemmas.Bool.{cases_lt, eqb-true}
use Rattle.std.proofs.lemmas.Slice.Eq.{bytes_eq-Decides}
use Rattle.gnap_model.specs.Common.{Text, same_text, some_if}
use Rattle.gnap_model.specs.Values.{value_text}
use Rattle.gnap_model.proofs.LookUps.{some_if_some}
use Rattle.gnap_tables.specs.declared.rows.GrantRow.{GrantRow}
use Rattle.gnap_tables.specs.Tables.{drop_grant, has_grant, change_grant, with_door}
use Rattle.gnap_tables.specs.RowSearches.{row_by_number, row_by_door}
use Rattle.gnap_tables.proofs.Lists.{HasItem}
use Rattle.ordered_search.specs.Order.{IsAscending, IsPlaceOf}
use Rattle.grant_states.specs.declared.changes.Change.{Change}
use Rattle.grant_states.specs.declared.changes.Change.TheVariants.{Terms, Approve, Decide, Wrong}
use Rattle.grant_states.specs.declared.grant_table.GrantPlace.{GrantPlace}
use Rattle.grant_states.specs.Grants.{BeginsWith, grant_in, IsGrantPlace, AreGrantPlaces, is_current_door, is_door_of, Changes, ChangesAll, changed_by}
use Rattle.grant_states.specs.declared.numbers_by_key.Listed.{Listed}
use Rattle.grant_states.specs.Listed.{under, where_some, number_where}
use Rattle.grant_states.proofs.Items.{item_all, item_filtered, item_of_map, item_left, item_right, item_in, get_at, get_has, get_past, newest_none, newest_only, found_in, found_none, any_newest}
use Rattle.grant_states.proofs.Placed.{ascending_keys, at_place, one_key, placed, placed_key, eqb-self}
use Rattle.grant_states.proofs.Changed.{changed_at, changed_past, removed_at, all_left, map-filter}
use Rattle.grant_states.proofs.Decoding.{Tells, no_number}

abbrev pub place_numbers : List GrantPlace → List ℕ
place_numbers places = map (λ (place : GrantPlace). place.number) places

abbrev pub door_serials : List Listed → List ℕ
door_serials doors = map (λ (door : Listed). door.key) doors

numbers_same : (places : List GrantPlace) → ((p : GrantPlace) → HasItem places p → p.number ≡ p.row.value.number)
    → place_numbers places ≡ map (λ (row : GrantRow). row.number) (map grant_in places)
numbers_same [] h = refl
numbers_same (p ∷ ps) h = ap (λ n. n ∷ place_numbers ps) (h p (inl refl)) ∙ ap (λ (ns : List ℕ). p.row.value.number ∷ ns) (numbers_same ps (λ q m. h q (inr m)))

pub numbers_are : (doors : List Listed) (places : List GrantPlace) → All (IsGrantPlace doors) places
    → place_numbers places ≡ map (λ (row : GrantRow). row.number) (map grant_in places)
numbers_are doors places each = numbers_same places (λ p h. (item_all (IsGrantPlace doors) places p each h).number)

pub ascending_places : (slice places : List GrantPlace) (doors : List Listed) (bound : ℕ) → slice ≡ places → AreGrantPlaces places doors bound
    → IsAscending (place_numbers slice)
ascending_places slice places doors bound same are = subst (λ (ps : List GrantPlace). IsAscending (place_numbers ps)) (sym same)
    (subst IsAscending (sym (numbers_are doors places are.each)) (ascending_keys (λ (row : GrantRow). row.number) (map grant_in places) are.ascending))

pub ascending_doors : (slice doors : List Listed) (places : List GrantPlace) (bound : ℕ) → slice ≡ doors → AreGrantPlaces places doors bound
    → IsAscending (door_serials slice)
ascending_doors slice doors places bound same are = subst (λ (ds : List Listed). IsAscending (door_serials ds)) (sym same)
    (ascending_keys (λ (door : Listed). door.key) doors are.doors_ascend)

-- ---- a row by its number

pub number_found : (slice places : List GrantPlace) (doors : List Listed) (bound : ℕ) (rows : List GrantRow) (at number : ℕ) → slice ≡ places
    → map grant_in places ≡ rows → AreGrantPlaces places doors bound
    → IsPlaceOf number (place_numbers slice) at
    → option_map grant_in (option_and_then (λ (place : GrantPlace). some_if (place.number == number) place) (slice_get slice at)) ≡ row_by_number number rows
number_found slice places doors bound rows at number same view are place =
    let keys : place_numbers slice ≡ map (λ (row : GrantRow). row.number) rows = ap place_numbers same ∙ numbers_are doors places are.each
    ∙ ap (map (λ (row : GrantRow). row.number)) view in
    let pairs : AllPairs (λ (a b : GrantRow). a.number < b.number) rows = subst (λ (rs : List GrantRow). AllPairs (λ (a b : GrantRow). a.number < b.number) rs)
    view are.ascending in
    let there : IsPlaceOf number (map (λ (row : GrantRow). row.number) rows) at = subst (λ (ks : List ℕ). IsPlaceOf number ks at) keys place in
    ap (λ (ps : List GrantPlace). option_map grant_in (option_and_then (λ (place : GrantPlace). some_if (place.number == number) place) (slice_get ps at))) same
    ∙ turned (slice_get places at) refl
    ∙ ap (option_and_then (λ (row : GrantRow). some_if (row.number == number) row))
    (sym (slice_get-map grant_in places at) ∙ ap (λ (rs : List GrantRow). slice_get rs at) view)
    ∙ placed_key (λ (row : GrantRow). row.number) rows at number (ascending_keys (λ (row : GrantRow). row.number) rows pairs) there
  where
    cases : (p : GrantPlace) (b c : Bool) → b ≡ c → option_map grant_in (some_if b p) ≡ some_if c p.row.value
    cases p true true e = refl
    cases p true false e = cc e
    cases p false true e = cc e
    cases p false false e = refl

    turned : (o : Option GrantPlace) → slice_get places at ≡ o
        → option_map grant_in (option_and_then (λ (place : GrantPlace). some_if (place.number == number) place) o)
        ≡ option_and_then (λ (row : GrantRow). some_if (row.number == number) row) (option_map grant_in o)
    turned None e = refl
    turned (Some p) e =
        let k = (item_all (IsGrantPlace doors) places p are.each (get_has places at p e)).number in
        cases p (p.number == number) (p.row.value.number == number) (ap (λ n. n == number) k)

pub count_same : (slice places : List GrantPlace) (rows : List GrantRow) → slice ≡ places → map grant_in places ≡ rows → length slice ≡ length rows
count_same slice places rows same view = ap (length {A = GrantPlace}) same ∙ sym (length-map places grant_in) ∙ ap (length {A = GrantRow}) view

pub has_found : (number : ℕ) (rows : List GrantRow) → is_some (row_by_number number rows) ≡ has_grant number rows
has_found number rows = any_newest (λ (row : GrantRow). row.number == number) rows

-- ---- a row by its continuation value

-- the index has the continuation value of the row
pub record IsIndexed (doors : List Listed) (row : GrantRow) : Type 0 where
  pub serial : ℕ
  pub small : serial < 2 ^ 64
  pub value : BeginsWith serial row.door
  pub listed : HasItem doors (under serial row.number)

abbrev AreIndexed : List Listed → List GrantRow → Type 0
AreIndexed doors rows = (z : GrantRow) → HasItem rows z → IsIndexed doors z

indexed_row : (doors : List Listed) (p : GrantPlace) → IsGrantPlace doors p → IsIndexed doors p.row.value
indexed_row doors p is = record {
  serial = p.door_serial;
  small = is.small;
  value = is.door;
  listed = subst (λ n. HasItem doors (under p.door_serial n)) is.number is.listed;
}

indexed_rows : (slice doors : List Listed) (places : List GrantPlace) (bound : ℕ) (rows : List GrantRow) → slice ≡ doors → map grant_in places ≡ rows
    → AreGrantPlaces places doors bound → AreIndexed slice rows
indexed_rows slice doors places bound rows same view are z h =
    let p = item_of_map grant_in places z (subst (λ (rs : List GrantRow). HasItem rs z) (sym view) h) in
    subst (λ (ds : List Listed). IsIndexed ds z) (sym same)
    (subst (IsIndexed doors) p.2 (indexed_row doors p.0 (item_all (IsGrantPlace doors) places p.0 are.each p.1)))

-- a row with the value has its pair in the index, at the place of the value's serial
door_of : (doors : List Listed) (rows : List GrantRow) (value : Text) (serial at : ℕ) → AreIndexed doors rows → IsAscending (door_serials doors)
    → Tells value (Some serial) → IsPlaceOf serial (door_serials doors) at
    → (z : GrantRow) → HasItem rows z → same_text z.door value ≡ true → slice_get doors at ≡ Some (under serial z.number)
door_of doors rows value serial at indexed ascending told place z h same =
    let is : z.door ≡ value = (bytes_eq-Decides z.door value).0 same in
    let row = indexed z h in
    let k : Some serial ≡ Some row.serial = told row.serial row.value.0 row.value.1 row.small (sym is ∙ row.value.2) in
    let e : row.serial ≡ serial = sym (cc k) in
    at_place (λ (door : Listed). door.key) doors at serial (under serial z.number) ascending place
    (subst (λ n. HasItem doors (under n z.number)) e row.listed) refl

door_never : (doors : List Listed) (rows : List GrantRow) (value : Text) → AreIndexed doors rows → Tells value no_number → (z : GrantRow) → HasItem rows z
    → same_text z.door value ≡ true → ⊥
door_never doors rows value indexed told z h same =
    let is : z.door ≡ value = (bytes_eq-Decides z.door value).0 same in
    let row = indexed z h in
    let k = told row.serial row.value.0 row.value.1 row.small (sym is ∙ row.value.2) in cc k

none_with : (rows : List GrantRow) (value : Text) → ((z : GrantRow) → HasItem rows z → same_text z.door value ≡ true → ⊥) → None ≡ row_by_door value rows
none_with rows value never = sym
    (newest_none (λ (row : GrantRow). some_if (same_text row.door value) row) rows (λ z h. nothing z h (same_text z.door value) refl))
  where
    nothing : (z : GrantRow) → HasItem rows z → (b : Bool) → same_text z.door value ≡ b → some_if b z ≡ None
    nothing z h true e = absurd (never z h e)
    nothing z h false e = refl

pub door_missing : (places : List GrantPlace) (doors : List Listed) (bound : ℕ) (rows : List GrantRow) (value : Text) → map grant_in places ≡ rows
    → AreGrantPlaces places doors bound → Tells value no_number
    → None ≡ row_by_door value rows
door_missing places doors bound rows value view are told =
    none_with rows value (door_never doors rows value (indexed_rows doors doors places bound rows refl view are) told)

pub door_unlisted : (slice doors : List Listed) (places : List GrantPlace) (bound : ℕ) (rows : List GrantRow) (value : Text) (at serial : ℕ) → slice ≡ doors
    → map grant_in places ≡ rows → AreGrantPlaces places doors bound
    → Tells value (Some serial) → IsPlaceOf serial (door_serials slice) at
    → None ≡ number_where serial (slice_get slice at)
    → None ≡ row_by_door value rows
door_unlisted slice doors places bound rows value at serial same view are told place none = none_with rows value (λ z h e.
    let there = door_of slice rows value serial at (indexed_rows slice doors places bound rows same view are)
    (ascending_doors slice doors places bound same are) told place z h e in
    let some : None ≡ Some z.number = none ∙ rw there (rw (eqb-self serial) refl) in cc some)

pub door_found : (slice doors : List Listed) (places : List GrantPlace) (bound : ℕ) (rows : List GrantRow) (value : Text) (at serial number : ℕ)
    → slice ≡ doors → map grant_in places ≡ rows → AreGrantPlaces places doors bound
    → Tells value (Some serial) → IsPlaceOf serial (door_serials slice) at
    → Some number ≡ number_where serial (slice_get slice at)
    → option_and_then (λ (row : GrantRow). some_if (same_text row.door value) row) (row_by_number number rows) ≡ row_by_door value rows
door_found slice doors places bound rows value at serial number same view are told place listed = by (row_by_number number rows) refl
  where
    pairs : AllPairs (λ (a b : GrantRow). a.number < b.number) rows
    pairs = subst (λ (rs : List GrantRow). AllPairs (λ (a b : GrantRow). a.number < b.number) rs) view are.ascending

    indexed : AreIndexed slice rows
    indexed = indexed_rows slice doors places bound rows same view are

    -- a row with the value has this number
    mine : (z : GrantRow) → HasItem rows z → same_text z.door value ≡ true → z.number ≡ number
    mine z h e =
        let there = door_of slice rows value serial at indexed (ascending_doors slice doors places bound same are) told place z h e in
        let some : Some number ≡ Some z.number = listed ∙ rw there (rw (eqb-self serial) refl) in sym (cc some)

    by : (o : Option GrantRow) → row_by_number number rows ≡ o
        → option_and_then (λ (row : GrantRow). some_if (same_text row.door value) row) o ≡ row_by_door value rows
    by None e = none_with rows value (λ z h t. found_none (λ (row : GrantRow). row.number == number) rows e z h (rw (mine z h t) (eqb-self number)))
    by (Some r) e = at_row (found_in (λ (row : GrantRow). row.number == number) rows r e) (same_text r.door value) refl
      where
        same_row : (r.number ≡ number) → HasItem rows r → (z : GrantRow) → HasItem rows z → same_text z.door value ≡ true → z ≡ r
        same_row n has z h t = one_key (λ (row : GrantRow). row.number) rows z r pairs h has (mine z h t ∙ sym n)

        at_row : HasItem rows r × ((r.number == number) ≡ true) → (b : Bool) → same_text r.door value ≡ b → some_if b r ≡ row_by_door value rows
        at_row found true t = sym (newest_only (λ (row : GrantRow). some_if (same_text row.door value) row) rows r r found.0 (rw t refl) (λ z w h f.
            let both = some_if_some (same_text z.door value) z w f in sym both.1 ∙ same_row (eqb-true r.number number found.1) found.0 z h both.0))
        at_row found false t = none_with rows value (λ z h s.
            let is : z ≡ r = same_row (eqb-true r.number number found.1) found.0 z h s in
            let u : false ≡ true = sym t ∙ subst (λ (x : GrantRow). same_text x.door value ≡ true) is s in cc u)

-- ---- rows that are taken out

-- places whose rows are these
abbrev pub HoldGrants : List GrantPlace → List Listed → ℕ → List GrantRow → Type 0
HoldGrants places doors bound rows = (map grant_in places ≡ rows) × AreGrantPlaces places doors bound

pub kept_grants : (test : GrantPlace → Bool) (row_test : GrantRow → Bool) (places : List GrantPlace) (doors : List Listed) (bound : ℕ)
    → AreGrantPlaces places doors bound
    → ((p : GrantPlace) → p.number ≡ p.row.value.number → test p ≡ row_test p.row.value)
    → HoldGrants (filter test places) doors bound (filter row_test (map grant_in places))
kept_grants test row_test places doors bound are same =
    let rows = map-filter grant_in test row_test places (λ p h. same p (item_all (IsGrantPlace doors) places p are.each h).number) in (
      rows,
      record {
        ascending = subst (λ (rs : List GrantRow). AllPairs (λ (a b : GrantRow). a.number < b.number) rs) (sym rows)
            (AllPairs-filter (λ (a b : GrantRow). a.number < b.number) row_test (map grant_in places) are.ascending);
        each = All-filter test (IsGrantPlace doors) places are.each;
        doors_ascend = are.doors_ascend;
        doors_low = are.doors_low;
      },
    )

-- the numbers of the places ascend
pub place_pairs : (places : List GrantPlace) (doors : List Listed) (bound : ℕ) → AreGrantPlaces places doors bound
    → AllPairs (λ (a b : GrantPlace). a.number < b.number) places
place_pairs places doors bound are i j d lt jn =
    let many = length-map places grant_in in
    let pair = are.ascending i j d.row.value lt (omega (arith, many, jn)) in
    let a = ap (λ (r : GrantRow). r.number) (get_or-map grant_in places i d d.row.value (omega (arith, lt, jn))) in
    let b = ap (λ (r : GrantRow). r.number) (get_or-map grant_in places j d d.row.value jn) in
    let x = (are.each i d (omega (arith, lt, jn))).number in
    let y = (are.each j d jn).number in omega (arith, pair, a, b, x, y)

pub place_removed : (places : List GrantPlace) (doors : List Listed) (bound at number : ℕ) (old : GrantPlace) → AreGrantPlaces places doors bound
    → at < length places → old ≡ get_or places at old → old.number ≡ number
    → HoldGrants (remove places at) doors bound (drop_grant number (map grant_in places))
place_removed places doors bound at number old are inside is mine =
    let gone : remove places at ≡ filter (λ (p : GrantPlace). not (number == p.number)) places =
    removed_at (λ (p : GrantPlace). p.number) places at number old (place_pairs places doors bound are) inside
    (ap (λ (p : GrantPlace). p.number) (sym is) ∙ mine) in
    subst (λ (ps : List GrantPlace). HoldGrants ps doors bound (drop_grant number (map grant_in places))) (sym gone)
    (kept_grants (λ (p : GrantPlace). not (number == p.number)) (λ (row : GrantRow). not (number == row.number)) places doors bound are
    (λ p e. ap (λ n. not (number == n)) e))

-- a row with the number stands at its place
place_of_row : (slice places : List GrantPlace) (doors : List Listed) (bound : ℕ) (rows : List GrantRow) (at number : ℕ) → slice ≡ places
    → map grant_in places ≡ rows → AreGrantPlaces places doors bound
    → IsPlaceOf number (place_numbers slice) at → (z : GrantRow) → HasItem rows z → z.number ≡ number
    → (p : GrantPlace) × (p.number ≡ number) × (slice_get places at ≡ Some p)
place_of_row slice places doors bound rows at number same view are place z h e =
    let p = item_of_map grant_in places z (subst (λ (rs : List GrantRow). HasItem rs z) (sym view) h) in
    let mine : p.0.number ≡ number = (item_all (IsGrantPlace doors) places p.0 are.each p.1).number ∙ ap (λ (r : GrantRow). r.number) p.2 ∙ e in (
      p.0,
      mine,
      ap (λ (ps : List GrantPlace). slice_get ps at) (sym same)
          ∙ at_place (λ (q : GrantPlace). q.number) slice at number p.0 (ascending_places slice places doors bound same are) place
          (subst (λ (ps : List GrantPlace). HasItem ps p.0) (sym same) p.1) mine,
    )

pub none_removed : (slice places : List GrantPlace) (doors : List Listed) (bound : ℕ) (rows : List GrantRow) (at number : ℕ) → slice ≡ places
    → map grant_in places ≡ rows → AreGrantPlaces places doors bound
    → IsPlaceOf number (place_numbers slice) at → ((old : GrantPlace) → at < length places → old ≡ get_or places at old → old.number ≡ number → ⊥)
    → rows ≡ drop_grant number rows
none_removed slice places doors bound rows at number same view are place other = all_left (λ (row : GrantRow). row.number) rows number (λ z h e.
    let p = place_of_row slice places doors bound rows at number same view are place z h e in inside p.0 p.1 p.2 (cases_lt at (length places)))
  where
    inside : (q : GrantPlace) → q.number ≡ number → slice_get places at ≡ Some q → (at < length places) ⊎ (length places ≤ at) → ⊥
    inside q mine there (inl lt) = let k : Some (get_or places at q) ≡ Some q = sym (get_at places at q lt) ∙ there in other q lt (sym (cc k)) mine
    inside q mine there (inr le) = let k : None ≡ Some q = sym (get_past places at le) ∙ there in cc k

-- ---- a row that is changed

-- the change leaves the number
abbrev pub KeepsNumber : (GrantRow → GrantRow) → Type 0
KeepsNumber f = (row : GrantRow) → (f row).number ≡ row.number

kept_number : (number : ℕ) (f : GrantRow → GrantRow) → KeepsNumber f → (r : GrantRow) (b : Bool) → (if b then f r else r).number ≡ r.number
kept_number number f keeps r true = keeps r
kept_number number f keeps r false = refl

changed_ascend : (number : ℕ) (f : GrantRow → GrantRow) (rows : List GrantRow) → KeepsNumber f → AllPairs (λ (a b : GrantRow). a.number < b.number) rows
    → AllPairs (λ (a b : GrantRow). a.number < b.number) (change_grant number f rows)
changed_ascend number f rows keeps pairs i j d lt jn =
    let many : length (change_grant number f rows) ≡ length rows = length-map rows g in
    let a : get_or (change_grant number f rows) i d ≡ g (get_or rows i d) = get_or-map g rows i d d (omega arith) in
    let b : get_or (change_grant number f rows) j d ≡ g (get_or rows j d) = get_or-map g rows j d d (omega arith) in
    let pair = pairs i j d lt (omega arith) in
    let p : (get_or (change_grant number f rows) i d).number ≡ (get_or rows i d).number = ap (λ (x : GrantRow). x.number) a
    ∙ kept_number number f keeps (get_or rows i d) (number == (get_or rows i d).number) in
    let q : (get_or (change_grant number f rows) j d).number ≡ (get_or rows j d).number = ap (λ (x : GrantRow). x.number) b
    ∙ kept_number number f keeps (get_or rows j d) (number == (get_or rows j d).number) in
    omega arith
  where
    g : GrantRow → GrantRow
    g row = if number == row.number then f row else row

pub place_changed : (slice places : List GrantPlace) (doors : List Listed) (bound : ℕ) (rows : List GrantRow) (at number : ℕ) (f : GrantRow → GrantRow)
    (old new : GrantPlace)
    → slice ≡ places → map grant_in places ≡ rows → AreGrantPlaces places doors bound → IsPlaceOf number (place_numbers slice) at → at < length places
    → old ≡ get_or places at old → Changes number f old new
    → map grant_in (set places at new) ≡ change_grant number f rows
place_changed slice places doors bound rows at number f old new same view are place inside is changes =
    let mine : old.number ≡ old.row.value.number = ap (λ (p : GrantPlace). p.number) is ∙ (are.each at old inside).number
    ∙ ap (λ (p : GrantPlace). p.row.value.number) (sym is) in
    let there : get_or (map grant_in places) at old.row.value ≡ old.row.value = get_or-map grant_in places at old old.row.value inside ∙ ap grant_in (sym is) in
    let new_row : new.row.value ≡ (if number == (get_or (map grant_in places) at old.row.value).number then f (get_or (map grant_in places) at old.row.value)
    else get_or (map grant_in places) at old.row.value) =
    changes.row ∙ ap (λ n. if number == n then f old.row.value else old.row.value) mine
    ∙ ap (λ (r : GrantRow). if number == r.number then f r else r) (sym there) in
    let keys : place_numbers slice ≡ map (λ (row : GrantRow). row.number) (map grant_in places) = ap place_numbers same ∙ numbers_are doors places are.each in
    let at_rows : IsPlaceOf number (map (λ (row : GrantRow). row.number) (map grant_in places)) at = subst (λ (ks : List ℕ). IsPlaceOf number ks at) keys
    place in
    map-set grant_in places at new ∙ ap (set (map grant_in places) at) new_row
    ∙ changed_at (λ (row : GrantRow). row.number) f (map grant_in places) at number old.row.value are.ascending
    (ascending_keys (λ (row : GrantRow). row.number) (map grant_in places) are.ascending) at_rows
    (rw (length-map places grant_in) inside)
    ∙ ap (change_grant number f) view

-- the place that was changed is one for the index afterwards, and so are the others
pub places_changed : (slice places : List GrantPlace) (doors more : List Listed) (bound low : ℕ) (at number : ℕ) (f : GrantRow → GrantRow)
    (old new : GrantPlace)
    → slice ≡ places → AreGrantPlaces places doors bound → IsPlaceOf number (place_numbers slice) at → at < length places → old ≡ get_or places at old
    → Changes number f old new → KeepsNumber f
    → All (IsGrantPlace more) places → IsGrantPlace more new → AllPairs (λ (a b : Listed). a.key < b.key) more
    → All (λ (door : Listed). door.key < low) more
    → AreGrantPlaces (set places at new) more low
places_changed slice places doors more bound low at number f old new same are place inside is changes keeps each one ascend below = record {
  ascending = subst (λ (rs : List GrantRow). AllPairs (λ (a b : GrantRow). a.number < b.number) rs)
      (sym (place_changed slice places doors bound (map grant_in places) at number f old new same refl are place inside is changes))
      (changed_ascend number f (map grant_in places) keeps are.ascending);
  each = All-set (IsGrantPlace more) places at new one each;
  doors_ascend = ascend;
  doors_low = below;
}

pub place_past : (slice places : List GrantPlace) (doors : List Listed) (bound : ℕ) (rows : List GrantRow) (at number : ℕ) (f : GrantRow → GrantRow)
    → slice ≡ places → map grant_in places ≡ rows → AreGrantPlaces places doors bound
    → IsPlaceOf number (place_numbers slice) at → length places ≤ at → rows ≡ change_grant number f rows
place_past slice places doors bound rows at number f same view are place past =
    let keys : place_numbers slice ≡ map (λ (row : GrantRow). row.number) (map grant_in places) = ap place_numbers same ∙ numbers_are doors places are.each in
    let at_rows : IsPlaceOf number (map (λ (row : GrantRow). row.number) (map grant_in places)) at = subst (λ (ks : List ℕ). IsPlaceOf number ks at) keys
    place in
    sym view ∙ changed_past (λ (row : GrantRow). row.number) f (map grant_in places) at number
    (ascending_keys (λ (row : GrantRow). row.number) (map grant_in places) are.ascending) at_rows
    (rw (length-map places grant_in) past) ∙ ap (change_grant number f) view

-- ---- a row that is appended, and a new continuation value

more_doors : (doors : List Listed) (door : Listed) (p : GrantPlace) → IsGrantPlace doors p → IsGrantPlace (doors ++ door ∷ []) p
more_doors doors door p is = record
    { number = is.number; small = is.small; door = is.door; listed = item_left doors (door ∷ []) (under p.door_serial p.number) is.listed }

pub doors_pushed : (doors : List Listed) (bound serial number : ℕ) → AllPairs (λ (a b : Listed). a.key < b.key) doors
    → All (λ (door : Listed). door.key < bound) doors → bound ≤ serial
    → AllPairs (λ (a b : Listed). a.key < b.key) (doors ++ under serial number ∷ [])
doors_pushed doors bound serial number pairs low fresh =
    all_pairs_push (λ (a b : Listed). a.key < b.key) doors (under serial number) pairs (λ k d kn. let l = low k d kn in omega (arith, l, fresh))

pub doors_low_pushed : (doors : List Listed) (bound serial number : ℕ) → All (λ (door : Listed). door.key < bound) doors → bound ≤ serial
    → All (λ (door : Listed). door.key < serial + 1) (doors ++ under serial number ∷ [])
doors_low_pushed doors bound serial number low fresh =
    All-push (λ (door : Listed). door.key < serial + 1) doors (under serial number) (λ k d kn. let l = low k d kn in omega (arith, l, fresh))
    (omega arith)

pub listed_door : (places : List GrantPlace) (doors : List Listed) (bound serial number : ℕ) → AreGrantPlaces places doors bound → bound ≤ serial
    → AreGrantPlaces places (doors ++ under serial number ∷ []) (serial + 1)
listed_door places doors bound serial number are fresh = record {
  ascending = are.ascending;
  each = λ k d kn. more_doors doors (under serial number) (get_or places k d) (are.each k d kn);
  doors_ascend = doors_pushed doors bound serial number are.doors_ascend are.doors_low fresh;
  doors_low = doors_low_pushed doors bound serial number are.doors_low fresh;
}

pub place_pushed : (places : List GrantPlace) (doors : List Listed) (bound : ℕ) (new : GrantPlace) → AreGrantPlaces places doors bound
    → bound ≤ new.door_serial → new.number ≡ new.row.value.number → new.door_serial < 2 ^ 64
    → BeginsWith new.door_serial new.row.value.door → All (λ (other : GrantRow). other.number < new.row.value.number) (map grant_in places)
    → HoldGrants (places ++ new ∷ []) (doors ++ under new.door_serial new.number ∷ []) (new.door_serial + 1) (map grant_in places ++ new.row.value ∷ [])
place_pushed places doors bound new are fresh keyed small begins above =
    let rows = map-append grant_in places (new ∷ []) in
    let listed = listed_door places doors bound new.door_serial new.number are fresh in (
      rows,
      record {
        ascending = subst (λ (rs : List GrantRow). AllPairs (λ (a b : GrantRow). a.number < b.number) rs) (sym rows)
            (all_pairs_push (λ (a b : GrantRow). a.number < b.number) (map grant_in places) new.row.value are.ascending above);
        each = All-push (IsGrantPlace (doors ++ under new.door_serial new.number ∷ [])) places new listed.each (record {
          number = keyed;
          small = small;
          door = begins;
          listed = item_right doors (under new.door_serial new.number ∷ []) (under new.door_serial new.number) (inl refl);
        });
        doors_ascend = listed.doors_ascend;
        doors_low = listed.doors_low;
      },
    )

-- ---- continuation values that are left out of the index

is_current : (places : List GrantPlace) (p : GrantPlace) → HasItem places p → is_current_door places (under p.door_serial p.number) ≡ true
is_current [] p h = absurd h
is_current (q ∷ qs) p (inl e) = ap
    (λ (x : GrantPlace). is_door_of (under p.door_serial p.number) x || is_current_door qs (under p.door_serial p.number)) (sym e) ∙ both
  where
    both : (is_door_of (under p.door_serial p.number) p || is_current_door qs (under p.door_serial p.number)) ≡ true
    both = rw (eqb-self p.number, eqb-self p.door_serial) refl
is_current (q ∷ qs) p (inr h) = at (is_door_of (under p.door_serial p.number) q) (is_current qs p h)
  where
    at : (b : Bool) → is_current_door qs (under p.door_serial p.number) ≡ true → (b || is_current_door qs (under p.door_serial p.number)) ≡ true
    at true e = refl
    at false e = e

pub current_kept : (slice places : List GrantPlace) (doors : List Listed) (bound : ℕ) → slice ≡ places → AreGrantPlaces places doors bound
    → AreGrantPlaces places (filter (is_current_door slice) doors) bound
current_kept slice places doors bound same are = subst (λ (ps : List GrantPlace). AreGrantPlaces places (filter (is_current_door ps) doors) bound) (sym same)
    (record {
      ascending = are.ascending;
      each = λ k d kn.
          let is = are.each k d kn in record {
            number = is.number;
            small = is.small;
            door = is.door;
            listed = item_filtered (is_current_door places) doors (under (get_or places k d).door_serial (get_or places k d).number) is.listed
                (is_current places (get_or places k d) (item_in places k d kn));
          };
      doors_ascend = AllPairs-filter (λ (a b : Listed). a.key < b.key) (is_current_door places) doors are.doors_ascend;
      doors_low = All-filter (is_current_door places) (λ (door : Listed). door.key < bound) doors are.doors_low;
    })

-- what stands at the place of the number decides
pub current_at : (places : List GrantPlace) (at : ℕ) (door : Listed) → IsAscending (place_numbers places) → IsPlaceOf door.number (place_numbers places) at
    → where_some (is_door_of door) (slice_get places at) ≡ is_current_door places door
current_at places at door ascending place =
    passes (slice_get places at)
    ∙ ap (λ (o : Option GrantPlace). is_some o) (placed (λ (p : GrantPlace). p.number) (is_door_of door) places at door.number ascending place
    (λ z h t. eqb-true z.number door.number (first (z.number == door.number) (z.door_serial == door.key) t)))
    ∙ any_newest (is_door_of door) places
  where
    first : (a b : Bool) → (a && b) ≡ true → a ≡ true
    first true b e = refl
    first false b e = cc e

    told : (b : Bool) (p : GrantPlace) → b ≡ is_some (some_if b p)
    told true p = refl
    told false p = refl

    passes : (o : Option GrantPlace) → where_some (is_door_of door) o ≡ is_some (option_and_then (λ (p : GrantPlace). some_if (is_door_of door p) p) o)
    passes None = refl
    passes (Some p) = told (is_door_of door p) p

-- ---- what changes keep

pub changes_keep : (change : Change) → KeepsNumber (changed_by change)
changes_keep (Terms asks single subject) row = refl
changes_keep (Approve consent) row = refl
changes_keep (Decide decision) row = refl
changes_keep Wrong row = refl

-- the change leaves the continuation value
abbrev pub KeepsDoor : (GrantRow → GrantRow) → Type 0
KeepsDoor f = (row : GrantRow) → (f row).door ≡ row.door

pub door_kept : (change : Change) → KeepsDoor (changed_by change)
door_kept (Terms asks single subject) row = refl
door_kept (Approve consent) row = refl
door_kept (Decide decision) row = refl
door_kept Wrong row = refl

number_after : (number : ℕ) (f : GrantRow → GrantRow) (doors : List Listed) (old new : GrantPlace) → KeepsNumber f → IsGrantPlace doors old
    → Changes number f old new → new.number ≡ new.row.value.number
number_after number f doors old new keeps is changes =
    changes.number_kept ∙ is.number ∙ sym (ap (λ (r : GrantRow). r.number) changes.row ∙ kept_number number f keeps old.row.value (number == old.number))

-- the place that was changed has the continuation value that it had
pub changed_one : (doors : List Listed) (number : ℕ) (f : GrantRow → GrantRow) (old new : GrantPlace) → KeepsNumber f → KeepsDoor f → IsGrantPlace doors old
    → ChangesAll number old.door_serial f old new → IsGrantPlace doors new
changed_one doors number f old new keeps door_stays is all =
    let serial : new.door_serial ≡ old.door_serial = all.door_serial ∙ either (number == old.number) in
    let door : new.row.value.door ≡ old.row.value.door = ap (λ (r : GrantRow). r.door) all.changes.row ∙ left (number == old.number) in record {
      number = number_after number f doors old new keeps is all.changes;
      small = rw serial is.small;
      door = (is.door.0, is.door.1, door ∙ is.door.2 ∙ ap (λ n. value_text n is.door.0 is.door.1) (sym serial));
      listed = subst (λ n. HasItem doors (under n new.number)) (sym serial)
          (subst (λ n. HasItem doors (under old.door_serial n)) (sym all.changes.number_kept) is.listed);
    }
  where
    either : (b : Bool) → (if b then old.door_serial else old.door_serial) ≡ old.door_serial
    either true = refl
    either false = refl

    left : (b : Bool) → (if b then f old.row.value else old.row.value).door ≡ old.row.value.door
    left true = door_stays old.row.value
    left false = refl

pub door_keeps : (value : Text) (earliest : ℕ) → KeepsNumber (with_door value earliest)
door_keeps value earliest row = refl

-- the place of the grant has the new continuation value, and another one that which it had
pub renewed_one : (doors : List Listed) (number serial earliest : ℕ) (value : Text) (old new : GrantPlace) → IsGrantPlace doors old
    → ChangesAll number serial (with_door value earliest) old new → serial < 2 ^ 64 → BeginsWith serial value
    → IsGrantPlace (doors ++ under serial number ∷ []) new
renewed_one doors number serial earliest value old new is all small begins = by (number == old.number) refl
  where
    own : new.number ≡ new.row.value.number
    own = number_after number (with_door value earliest) doors old new (door_keeps value earliest) is all.changes

    by : (b : Bool) → (number == old.number) ≡ b → IsGrantPlace (doors ++ under serial number ∷ []) new
    by true e =
        let at : new.door_serial ≡ serial = all.door_serial ∙ rw e refl in
        let door : new.row.value.door ≡ value = ap (λ (r : GrantRow). r.door) all.changes.row ∙ rw e refl in
        let mine : number ≡ new.number = eqb-true number old.number e ∙ sym all.changes.number_kept in record {
          number = own;
          small = rw at small;
          door = (begins.0, begins.1, door ∙ begins.2 ∙ ap (λ n. value_text n begins.0 begins.1) (sym at));
          listed = subst (λ n. HasItem (doors ++ under serial number ∷ []) (under n new.number)) (sym at)
              (subst (λ n. HasItem (doors ++ under serial number ∷ []) (under serial n)) mine
              (item_right doors (under serial number ∷ []) (under serial number) (inl refl)));
        }
    by false e =
        let at : new.door_serial ≡ old.door_serial = all.door_serial ∙ rw e refl in
        let door : new.row.value.door ≡ old.row.value.door = ap (λ (r : GrantRow). r.door) all.changes.row ∙ rw e refl in record {
          number = own;
          small = rw at is.small;
          door = (is.door.0, is.door.1, door ∙ is.door.2 ∙ ap (λ n. value_text n is.door.0 is.door.1) (sym at));
          listed = subst (λ n. HasItem (doors ++ under serial number ∷ []) (under n new.number)) (sym at)
              (subst (λ n. HasItem (doors ++ under serial number ∷ []) (under old.door_serial n)) (sym all.changes.number_kept)
              (item_left doors (under serial number ∷ []) (under old.door_serial old.number) is.listed));
        }
