-- Rows of tokens, as they are stored.
use Rattle.std.proofs.Common.{ℕ, ◌≡◌, ◌⊎◌, ◌<◌, ◌≤◌, ◌+◌, ◌-◌, ◌^◌, Bool, true, false, cond, List, [], ◌∷◌, ◌++◌, length, get_or, map, refl, sym, ◌∙◌, ap, subst, inl, inr, arith, Option, Some, None}
use Rattle.std.specs.Prelude.{slice_get, is_some, nat_le, nat_lt, not, ◌&&◌, ◌||◌, filter, ◌==◌, if◌then◌else◌, option_map}
use Rattle.std.specs.Option.{option_and_then}
use Rattle.std.specs.List.{All, AllPairs, remove, count_by, list_any}
use Rattle.std.proofs.Math.ListN.{set}
use Rattle.std.proofs.lemmas.List.{length-map, get_or-map, map-set, map-append}
use Rattle.std.proofs.lemmas.List.Elements.{All-filter, All-push, All-set}
use Rattle.std.proofs.lemmas.List.Folds.{list_any-append, list_any_none}
use Rattle.std.proofs.lemmas.List.Filters.{sum_by-filter_both}
use Rattle.std.proofs.lemmas.List.Kept.{AllPairs-filter}
use Rattle.std.proofs.lemmas.List.Quantifiers.{all_pairs_push}
use Rattle.std.proofs.lemmas.List.Sums.{length-filter, AllPass-from_list_all, get_or-le-sum_by, sum_by_push, sum_by-remove, sum_by-set}
use Rattle.std.proofs.lemmas.Option.{slice_get-map}
use Rattle.std.proofs.lemmas.Bool.{cases_lt, eqb-true}
use Rattle.std.proofs.lemmas.Bool.Decides.{nat_tests}
use Rattle.std.proofs.lemmas.Slice.Eq.{bytes_eq-Decides}
use Rattle.gnap_model.specs.Common.{Text, same_text, some_if}
use Rattle.gnap_tables.specs.declared.rows.GrantRow.{GrantRow}
use Rattle.gnap_tables.specs.declared.rows.TokenRow.{TokenRow}
use Rattle.gnap_tables.specs.Tables.{change_token, drop_token, with_retirement}
use Rattle.gnap_tables.specs.RowSearches.{newest, row_by_manage, is_approved_grant, is_live_row, live_rows}
use Rattle.gnap_tables.specs.ActionsByRows.{rows_of_others}
use Rattle.gnap_tables.proofs.Lists.{HasItem, filter_is, filter_map_same, all_kept}
use Rattle.ordered_search.specs.Order.{IsAscending, IsPlaceOf}
use Rattle.grant_states.specs.declared.numbers_by_key.Listed.{Listed}
use Rattle.grant_states.specs.Listed.{under, where_some}
use Rattle.token_manager.specs.declared.token_table.TokenPlace.{TokenPlace}
use Rattle.token_manager.specs.Tokens.{IsTokenRow, AreTokenRows, row_by_value, token_in, IsTokenPlace, AreTokenPlaces, AreListed, is_this, is_among, Marks, lasts_at, is_lasting, is_lasting_elsewhere, one_if, is_of_approved, AreOfApproved}
use Rattle.grant_states.proofs.Decoding.{Tells, no_number}
use Rattle.grant_states.proofs.Items.{any_newest, item_all, item_append, item_of_filter, item_in, item_of_map, get_at, get_past, newest_none}
use Rattle.grant_states.proofs.Placed.{ascending_keys, at_place, one_key, placed, placed_key, eqb-self}
use Rattle.grant_states.proofs.Changed.{changed_at, changed_past, removed_at, all_left, map-filter}

abbrev pub place_serials : List TokenPlace → List ℕ
place_serials places = map (λ (place : TokenPlace). place.serial) places

serials_same : (places : List TokenPlace) → ((p : TokenPlace) → HasItem places p → p.serial ≡ p.row.value.serial)
    → place_serials places ≡ map (λ (row : TokenRow). row.serial) (map token_in places)
serials_same [] h = refl
serials_same (p ∷ ps) h = ap (λ n. n ∷ place_serials ps) (h p (inl refl)) ∙ ap (λ (ns : List ℕ). p.row.value.serial ∷ ns) (serials_same ps (λ q m. h q (inr m)))

serials_are : (places : List TokenPlace) → AreTokenPlaces places → place_serials places ≡ map (λ (row : TokenRow). row.serial) (map token_in places)
serials_are places are = serials_same places (λ p h. (item_all IsTokenPlace places p are.each h).serial)

pub ascending_places : (places : List TokenPlace) → AreTokenPlaces places → IsAscending (place_serials places)
ascending_places places are = subst IsAscending (sym (serials_are places are))
    (ascending_keys (λ (row : TokenRow). row.serial) (map token_in places) are.rows.ascending)

pub ascending_slice : (slice places : List TokenPlace) → slice ≡ places → AreTokenPlaces places → IsAscending (place_serials slice)
ascending_slice slice places same are = subst (λ (ps : List TokenPlace). IsAscending (place_serials ps)) (sym same) (ascending_places places are)

pub row_of : (rows : List TokenRow) (z : TokenRow) → AreTokenRows rows → HasItem rows z → IsTokenRow z
row_of rows z are h = item_all (λ (row : TokenRow). IsTokenRow row) rows z are.each h

-- ---- look-ups

value_serial : (rows : List TokenRow) (value : Text) (serial : ℕ) → AreTokenRows rows → Tells value (Some serial) → (z : TokenRow) → HasItem rows z
    → same_text z.value value ≡ true → z.serial ≡ serial
value_serial rows value serial are told z h same =
    let is : z.value ≡ value = (bytes_eq-Decides z.value value).0 same in
    let row = row_of rows z are h in
    let low : z.serial < 2 ^ 64 - 1 = row.small in
    let e : Some serial ≡ Some z.serial = told z.serial row.value.0 row.value.1 (omega arith) (sym is ∙ row.value.2) in
    let k : serial ≡ z.serial = cc e in sym k

manage_serial : (rows : List TokenRow) (value : Text) (serial : ℕ) → AreTokenRows rows → Tells value (Some serial) → (z : TokenRow) → HasItem rows z
    → same_text z.manage value ≡ true → z.serial ≡ serial - 1
manage_serial rows value serial are told z h same =
    let is : z.manage ≡ value = (bytes_eq-Decides z.manage value).0 same in
    let row = row_of rows z are h in
    let low : z.serial < 2 ^ 64 - 1 = row.small in
    let k : Some serial ≡ Some (z.serial + 1) = told (z.serial + 1) row.manage.0 row.manage.1 (omega arith) (sym is ∙ row.manage.2) in
    let e : serial ≡ z.serial + 1 = cc k in omega arith

none_passes : (test : TokenRow → Bool) (rows : List TokenRow) → ((z : TokenRow) → HasItem rows z → test z ≡ true → ⊥)
    → None ≡ newest (λ (row : TokenRow). some_if (test row) row) rows
none_passes test rows never = sym (newest_none (λ (row : TokenRow). some_if (test row) row) rows (λ z h. nothing z h (test z) refl))
  where
    nothing : (z : TokenRow) → HasItem rows z → (b : Bool) → test z ≡ b → some_if b z ≡ None
    nothing z h true e = absurd (never z h e)
    nothing z h false e = refl

found_at : (test : TokenRow → Bool) (slice places : List TokenPlace) (rows : List TokenRow) (at serial : ℕ) → slice ≡ places → map token_in places ≡ rows
    → AreTokenPlaces places
    → IsPlaceOf serial (place_serials slice) at → ((z : TokenRow) → HasItem rows z → test z ≡ true → z.serial ≡ serial)
    → option_and_then (λ (row : TokenRow). some_if (test row) row) (option_map token_in (slice_get slice at))
    ≡ newest (λ (row : TokenRow). some_if (test row) row) rows
found_at test slice places rows at serial same view are place passes =
    let keys : place_serials slice ≡ map (λ (row : TokenRow). row.serial) rows = ap place_serials same ∙ serials_are places are
    ∙ ap (map (λ (row : TokenRow). row.serial)) view in
    let ascending : IsAscending (map (λ (row : TokenRow). row.serial) rows) = subst
    (λ (rs : List TokenRow). IsAscending (map (λ (row : TokenRow). row.serial) rs)) view
    (ascending_keys (λ (row : TokenRow). row.serial) (map token_in places) are.rows.ascending) in
    let there : IsPlaceOf serial (map (λ (row : TokenRow). row.serial) rows) at = subst (λ (ks : List ℕ). IsPlaceOf serial ks at) keys place in
    ap (option_and_then (λ (row : TokenRow). some_if (test row) row))
    (ap (λ (ps : List TokenPlace). option_map token_in (slice_get ps at)) same ∙ sym (slice_get-map token_in places at)
    ∙ ap (λ (rs : List TokenRow). slice_get rs at) view)
    ∙ placed (λ (row : TokenRow). row.serial) test rows at serial ascending there passes

rows_are : (places : List TokenPlace) (rows : List TokenRow) → map token_in places ≡ rows → AreTokenPlaces places → AreTokenRows rows
rows_are places rows view are = subst AreTokenRows view are.rows

pub value_found : (slice places : List TokenPlace) (rows : List TokenRow) (value : Text) (at serial : ℕ) → slice ≡ places → map token_in places ≡ rows
    → AreTokenPlaces places → Tells value (Some serial)
    → IsPlaceOf serial (place_serials slice) at
    → option_and_then (λ (row : TokenRow). some_if (same_text row.value value) row) (option_map token_in (slice_get slice at)) ≡ row_by_value value rows
value_found slice places rows value at serial same view are told place =
    found_at (λ (row : TokenRow). same_text row.value value) slice places rows at serial same view are place
    (value_serial rows value serial (rows_are places rows view are) told)

pub manage_found : (slice places : List TokenPlace) (rows : List TokenRow) (value : Text) (at serial before : ℕ) → slice ≡ places → map token_in places ≡ rows
    → AreTokenPlaces places → Tells value (Some serial)
    → before ≡ serial - 1 → IsPlaceOf before (place_serials slice) at
    → option_and_then (λ (row : TokenRow). some_if (same_text row.manage value) row) (option_map token_in (slice_get slice at)) ≡ row_by_manage value rows
manage_found slice places rows value at serial before same view are told less place =
    found_at (λ (row : TokenRow). same_text row.manage value) slice places rows at before same view are place
    (λ z h e. manage_serial rows value serial (rows_are places rows view are) told z h e ∙ sym less)

pub value_missing : (places : List TokenPlace) (rows : List TokenRow) (value : Text) → map token_in places ≡ rows → AreTokenPlaces places
    → Tells value no_number → None ≡ row_by_value value rows
value_missing places rows value view are told = none_passes (λ (row : TokenRow). same_text row.value value) rows (λ z h same.
    let is : z.value ≡ value = (bytes_eq-Decides z.value value).0 same in
    let row = row_of rows z (rows_are places rows view are) h in
    let low : z.serial < 2 ^ 64 - 1 = row.small in
    let k = told z.serial row.value.0 row.value.1 (omega arith) (sym is ∙ row.value.2) in cc k)

pub manage_missing : (places : List TokenPlace) (rows : List TokenRow) (value : Text) → map token_in places ≡ rows → AreTokenPlaces places
    → Tells value no_number → None ≡ row_by_manage value rows
manage_missing places rows value view are told = none_passes (λ (row : TokenRow). same_text row.manage value) rows (λ z h same.
    let is : z.manage ≡ value = (bytes_eq-Decides z.manage value).0 same in
    let row = row_of rows z (rows_are places rows view are) h in
    let low : z.serial < 2 ^ 64 - 1 = row.small in
    let k = told (z.serial + 1) row.manage.0 row.manage.1 (omega arith) (sym is ∙ row.manage.2) in cc k)

pub count_same : (slice places : List TokenPlace) (rows : List TokenRow) → slice ≡ places → map token_in places ≡ rows → length slice ≡ length rows
count_same slice places rows same view = ap (length {A = TokenPlace}) same ∙ sym (length-map places token_in) ∙ ap (length {A = TokenRow}) view

-- ---- a mark

kept_row : (s : ℕ) (x : TokenRow) (b : Bool) → ((if b then with_retirement x else x).serial ≡ x.serial)
kept_row s x true = refl
kept_row s x false = refl

kept_grant : (x : TokenRow) (b : Bool) → ((if b then with_retirement x else x).grant ≡ x.grant)
kept_grant x true = refl
kept_grant x false = refl

still_row : (x : TokenRow) (b : Bool) → IsTokenRow x → IsTokenRow (if b then with_retirement x else x)
still_row x true h = record { small = h.small; value = h.value; manage = h.manage }
still_row x false h = h

marked_are : (rows : List TokenRow) (s : ℕ) → AreTokenRows rows → AreTokenRows (change_token s with_retirement rows)
marked_are rows s are = record {
  ascending = λ i j d lt jn.
      let many : length (change_token s with_retirement rows) ≡ length rows = length-map rows f in
      let a : get_or (change_token s with_retirement rows) i d ≡ f (get_or rows i d) = get_or-map f rows i d d (omega arith) in
      let b : get_or (change_token s with_retirement rows) j d ≡ f (get_or rows j d) = get_or-map f rows j d d (omega arith) in
      let pair = are.ascending i j d lt (omega arith) in
      let p : (get_or (change_token s with_retirement rows) i d).serial ≡ (get_or rows i d).serial = ap (λ (x : TokenRow). x.serial) a
      ∙ kept_row s (get_or rows i d) (s == (get_or rows i d).serial) in
      let q : (get_or (change_token s with_retirement rows) j d).serial ≡ (get_or rows j d).serial = ap (λ (x : TokenRow). x.serial) b
      ∙ kept_row s (get_or rows j d) (s == (get_or rows j d).serial) in
      omega arith;
  each = λ k d kn.
      let many : length (change_token s with_retirement rows) ≡ length rows = length-map rows f in
      let a : get_or (change_token s with_retirement rows) k d ≡ f (get_or rows k d) = get_or-map f rows k d d (omega arith) in
      subst IsTokenRow (sym a) (still_row (get_or rows k d) (s == (get_or rows k d).serial) (are.each k d (omega arith)));
}
  where
    f : TokenRow → TokenRow
    f row = if s == row.serial then with_retirement row else row

pub place_marked : (slice places : List TokenPlace) (rows : List TokenRow) (at serial : ℕ) (old new : TokenPlace) → slice ≡ places → map token_in places ≡ rows
    → AreTokenPlaces places
    → IsPlaceOf serial (place_serials slice) at → at < length places → old ≡ get_or places at old → Marks serial old new
    → map token_in (set places at new) ≡ change_token serial with_retirement rows
place_marked slice places rows at serial old new same view are place inside is marks =
    let stands = are.each at old inside in
    let mine : old.serial ≡ old.row.value.serial = ap (λ (p : TokenPlace). p.serial) is ∙ stands.serial
    ∙ ap (λ (p : TokenPlace). p.row.value.serial) (sym is) in
    let there : get_or (map token_in places) at old.row.value ≡ old.row.value = get_or-map token_in places at old old.row.value inside ∙ ap token_in (sym is) in
    let new_row : new.row.value ≡ (if serial == (get_or (map token_in places) at old.row.value).serial then with_retirement
    (get_or (map token_in places) at old.row.value) else get_or (map token_in places) at old.row.value) =
    marks.row ∙ ap (λ n. if serial == n then with_retirement old.row.value else old.row.value) mine
    ∙ ap (λ (r : TokenRow). if serial == r.serial then with_retirement r else r) (sym there) in
    let keys : place_serials slice ≡ map (λ (row : TokenRow). row.serial) (map token_in places) = ap place_serials same ∙ serials_are places are in
    let at_rows : IsPlaceOf serial (map (λ (row : TokenRow). row.serial) (map token_in places)) at = subst (λ (ks : List ℕ). IsPlaceOf serial ks at) keys
    place in
    map-set token_in places at new ∙ ap (set (map token_in places) at) new_row
    ∙ changed_at (λ (row : TokenRow). row.serial) with_retirement (map token_in places) at serial old.row.value are.rows.ascending
    (ascending_keys (λ (row : TokenRow). row.serial) (map token_in places) are.rows.ascending) at_rows
    (rw (length-map places token_in) inside)
    ∙ ap (change_token serial with_retirement) view

pub marked_places : (slice places : List TokenPlace) (at serial : ℕ) (old new : TokenPlace) → slice ≡ places → AreTokenPlaces places
    → IsPlaceOf serial (place_serials slice) at → at < length places → old ≡ get_or places at old → Marks serial old new → AreTokenPlaces (set places at new)
marked_places slice places at serial old new same are place inside is marks =
    let stands = subst IsTokenPlace (sym is) (are.each at old inside) in record {
      rows = subst AreTokenRows (sym (place_marked slice places (map token_in places) at serial old new same refl are place inside is marks))
          (marked_are (map token_in places) serial are.rows);
      each = All-set IsTokenPlace places at new (record {
        serial = marks.serial_kept ∙ stands.serial ∙ sym (ap (λ (r : TokenRow). r.serial) marks.row ∙ kept_row serial old.row.value (serial == old.serial));
        grant = marks.grant_kept ∙ stands.grant ∙ sym (ap (λ (r : TokenRow). r.grant) marks.row ∙ kept_grant old.row.value (serial == old.serial));
      }) are.each;
    }

pub place_past : (slice places : List TokenPlace) (rows : List TokenRow) (at serial : ℕ) → slice ≡ places → map token_in places ≡ rows → AreTokenPlaces places
    → IsPlaceOf serial (place_serials slice) at → length places ≤ at → rows ≡ change_token serial with_retirement rows
place_past slice places rows at serial same view are place past =
    let keys : place_serials slice ≡ map (λ (row : TokenRow). row.serial) (map token_in places) = ap place_serials same ∙ serials_are places are in
    let at_rows : IsPlaceOf serial (map (λ (row : TokenRow). row.serial) (map token_in places)) at = subst (λ (ks : List ℕ). IsPlaceOf serial ks at) keys
    place in
    sym view ∙ changed_past (λ (row : TokenRow). row.serial) with_retirement (map token_in places) at serial
    (ascending_keys (λ (row : TokenRow). row.serial) (map token_in places) are.rows.ascending) at_rows
    (rw (length-map places token_in) past) ∙ ap (change_token serial with_retirement) view

-- ---- rows that are taken out

dropped_are : (test : TokenRow → Bool) (rows : List TokenRow) → AreTokenRows rows → AreTokenRows (filter test rows)
dropped_are test rows are = record {
  ascending = AllPairs-filter (λ (a b : TokenRow). a.serial < b.serial) test rows are.ascending;
  each = All-filter test (λ (row : TokenRow). IsTokenRow row) rows are.each;
}

-- the serials of the places ascend
pub place_pairs : (places : List TokenPlace) → AreTokenPlaces places → AllPairs (λ (a b : TokenPlace). a.serial < b.serial) places
place_pairs places are i j d lt jn =
    let many = length-map places token_in in
    let pair = are.rows.ascending i j d.row.value lt (omega (arith, many, jn)) in
    let a = ap (λ (r : TokenRow). r.serial) (get_or-map token_in places i d d.row.value (omega (arith, lt, jn))) in
    let b = ap (λ (r : TokenRow). r.serial) (get_or-map token_in places j d d.row.value jn) in
    let x = (are.each i d (omega (arith, lt, jn))).serial in
    let y = (are.each j d jn).serial in omega (arith, pair, a, b, x, y)

-- places whose rows are these
abbrev pub HoldRows : List TokenPlace → List TokenRow → Type 0
HoldRows places rows = (map token_in places ≡ rows) × AreTokenPlaces places

pub kept_places : (test : TokenPlace → Bool) (row_test : TokenRow → Bool) (places : List TokenPlace) → AreTokenPlaces places
    → ((p : TokenPlace) → IsTokenPlace p → test p ≡ row_test p.row.value)
    → HoldRows (filter test places) (filter row_test (map token_in places))
kept_places test row_test places are same =
    let rows = map-filter token_in test row_test places (λ p h. same p (item_all IsTokenPlace places p are.each h)) in (
      rows,
      record {
        rows = subst AreTokenRows (sym rows) (dropped_are row_test (map token_in places) are.rows);
        each = All-filter test IsTokenPlace places are.each;
      },
    )

pub place_removed : (slice places : List TokenPlace) (at serial : ℕ) (old : TokenPlace) → slice ≡ places → AreTokenPlaces places → at < length places
    → old ≡ get_or places at old → old.serial ≡ serial
    → HoldRows (remove places at) (drop_token serial (map token_in places))
place_removed slice places at serial old same are inside is mine =
    let gone : remove places at ≡ filter (λ (p : TokenPlace). not (serial == p.serial)) places =
    removed_at (λ (p : TokenPlace). p.serial) places at serial old (place_pairs places are) inside (ap (λ (p : TokenPlace). p.serial) (sym is) ∙ mine) in
    subst (λ (ps : List TokenPlace). HoldRows ps (drop_token serial (map token_in places))) (sym gone)
    (kept_places (λ (p : TokenPlace). not (serial == p.serial)) (λ (row : TokenRow). not (serial == row.serial)) places are
    (λ p t. ap (λ n. not (serial == n)) t.serial))

pub none_removed : (slice places : List TokenPlace) (rows : List TokenRow) (at serial : ℕ) → slice ≡ places → map token_in places ≡ rows → AreTokenPlaces places
    → IsPlaceOf serial (place_serials slice) at → ((old : TokenPlace) → at < length places → old ≡ get_or places at old → old.serial ≡ serial → ⊥)
    → rows ≡ drop_token serial rows
none_removed slice places rows at serial same view are place other = all_left (λ (row : TokenRow). row.serial) rows serial (λ z h e.
    let p = item_of_map token_in places z (subst (λ (rs : List TokenRow). HasItem rs z) (sym view) h) in
    let mine : p.0.serial ≡ serial = (item_all IsTokenPlace places p.0 are.each p.1).serial ∙ ap (λ (r : TokenRow). r.serial) p.2 ∙ e in
    let there : slice_get places at ≡ Some p.0 = ap (λ (ps : List TokenPlace). slice_get ps at) (sym same)
    ∙ at_place (λ (q : TokenPlace). q.serial) slice at serial p.0 (ascending_slice slice places same are) place
    (subst (λ (ps : List TokenPlace). HasItem ps p.0) (sym same) p.1) mine in
    inside p.0 mine there (cases_lt at (length places)))
  where
    inside : (q : TokenPlace) → q.serial ≡ serial → slice_get places at ≡ Some q → (at < length places) ⊎ (length places ≤ at) → ⊥
    inside q mine there (inl lt) = let k : Some (get_or places at q) ≡ Some q = sym (get_at places at q lt) ∙ there in other q lt (sym (cc k)) mine
    inside q mine there (inr le) = let k : None ≡ Some q = sym (get_past places at le) ∙ there in cc k

-- ---- the rows of a grant that are taken out

-- the serials of places ascend
abbrev pub AreInOrder : List TokenPlace → Type 0
AreInOrder places = AllPairs (λ (a b : TokenPlace). a.serial < b.serial) places

filter-filter : {A : Type 0} (p q : A → Bool) (xs : List A) → filter p (filter q xs) ≡ filter (λ x. p x && q x) xs
filter-filter p q [] = refl
filter-filter {A} p q (x ∷ xs) = at (q x) (p x) refl (filter-filter p q xs)
  where
    at : (b c : Bool) → p x ≡ c → filter p (filter q xs) ≡ filter (λ x. p x && q x) xs
        → filter p (cond b (x ∷ filter q xs) (filter q xs)) ≡ cond (c && b) (x ∷ filter (λ x. p x && q x) xs) (filter (λ x. p x && q x) xs)
    at true true e rest = rw e (ap (λ (ys : List A). x ∷ ys) rest)
    at true false e rest = rw e rest
    at false true e rest = rest
    at false false e rest = rest

filter_agrees : {A : Type 0} (t u : A → Bool) (xs : List A) → ((x : A) → HasItem xs x → t x ≡ u x) → filter t xs ≡ filter u xs
filter_agrees t u xs same = filter_is t xs ∙ filter_map_same _ _ xs (λ x h. ap (λ b. some_if b x) (same x h)) ∙ sym (filter_is u xs)

-- where none passes, none is taken out
pub all_stay : (t : TokenPlace → Bool) (places : List TokenPlace) → ((p : TokenPlace) → HasItem places p → t p ≡ true → ⊥)
    → places ≡ filter (λ (p : TokenPlace). not (t p)) places
all_stay t places never = sym (filter_is (λ (p : TokenPlace). not (t p)) places
    ∙ filter_map_same _ (λ (p : TokenPlace). Some p) places (λ p h. stays p h (t p) refl) ∙ all_kept places)
  where
    stays : (p : TokenPlace) → HasItem places p → (b : Bool) → t p ≡ b → some_if (not b) p ≡ Some p
    stays p h true e = absurd (never p h e)
    stays p h false e = refl

both_true : (a b : Bool) → (a && b) ≡ true → (a ≡ true) × (b ≡ true)
both_true true b e = (refl, e)
both_true false b e = cc e

pub taken_out : (places : List TokenPlace) (at grant serial : ℕ) (old : TokenPlace) → AreInOrder places → at < length places → old ≡ get_or places at old
    → old.serial ≡ serial → old.grant ≡ grant
    → remove places at ≡ filter (λ (p : TokenPlace). not (is_this grant serial p)) places
taken_out places at grant serial old order inside is mine its =
    removed_at (λ (p : TokenPlace). p.serial) places at serial old order inside (ap (λ (p : TokenPlace). p.serial) (sym is) ∙ mine)
    ∙ filter_agrees (λ (p : TokenPlace). not (serial == p.serial)) (λ (p : TokenPlace). not (is_this grant serial p)) places
    (λ p h. ap not (same p h (serial == p.serial) refl))
  where
    has : HasItem places old
    has = subst (HasItem places) (sym is) (item_in places at old inside)

    same : (p : TokenPlace) → HasItem places p → (b : Bool) → (serial == p.serial) ≡ b → b ≡ ((grant == p.grant) && b)
    same p h true e =
        let one : p ≡ old = one_key (λ (q : TokenPlace). q.serial) places p old order h has (sym (eqb-true serial p.serial e) ∙ sym mine) in
        let g : grant ≡ p.grant = sym its ∙ ap (λ (q : TokenPlace). q.grant) (sym one) in
        let t : (grant == p.grant) ≡ true = subst (λ n. (grant == n) ≡ true) g (eqb-self grant) in rw t refl
    same p h false e = none (grant == p.grant)
      where
        none : (a : Bool) → false ≡ (a && false)
        none true = refl
        none false = refl

pub none_out : (slice places : List TokenPlace) (at grant serial : ℕ) → slice ≡ places → AreInOrder places → IsPlaceOf serial (place_serials slice) at
    → ((old : TokenPlace) → at < length places → old ≡ get_or places at old → old.serial ≡ serial → old.grant ≡ grant → ⊥)
    → places ≡ filter (λ (p : TokenPlace). not (is_this grant serial p)) places
none_out slice places at grant serial same order place other = all_stay (is_this grant serial) places (λ p h e.
    let both = both_true (grant == p.grant) (serial == p.serial) e in
    let mine : p.serial ≡ serial = sym (eqb-true serial p.serial both.1) in
    let its : p.grant ≡ grant = sym (eqb-true grant p.grant both.0) in
    let there : slice_get places at ≡ Some p = ap (λ (ps : List TokenPlace). slice_get ps at) (sym same)
    ∙ at_place (λ (q : TokenPlace). q.serial) slice at serial p (ascending_keys (λ (q : TokenPlace). q.serial) slice (subst AreInOrder (sym same) order)) place
    (subst (λ (ps : List TokenPlace). HasItem ps p) (sym same) h) mine in
    inside p mine its there (cases_lt at (length places)))
  where
    inside : (q : TokenPlace) → q.serial ≡ serial → q.grant ≡ grant → slice_get places at ≡ Some q → (at < length places) ⊎ (length places ≤ at) → ⊥
    inside q mine its there (inl lt) = let k : Some (get_or places at q) ≡ Some q = sym (get_at places at q lt) ∙ there in other q lt (sym (cc k)) mine its
    inside q mine its there (inr le) = let k : None ≡ Some q = sym (get_past places at le) ∙ there in cc k

-- one serial more
pub one_more : (places : List TokenPlace) (grant : ℕ) (owned : List Listed) (one : Listed)
    → filter (λ (p : TokenPlace). not (is_this grant one.number p)) (filter (λ (p : TokenPlace). not (is_among grant owned p)) places)
    ≡ filter (λ (p : TokenPlace). not (is_among grant (owned ++ one ∷ []) p)) places
one_more places grant owned one =
    filter-filter (λ (p : TokenPlace). not (is_this grant one.number p)) (λ (p : TokenPlace). not (is_among grant owned p)) places
    ∙ filter_agrees _ _ places (λ p h. joined (grant == p.grant) (one.number == p.serial) (list_any (λ (o : Listed). o.number == p.serial) owned)
    ∙ ap (λ b. not ((grant == p.grant) && b)) (sym (any_appended p)))
  where
    joined : (g s a : Bool) → (not (g && s) && not (g && a)) ≡ not (g && (a || s))
    joined true true true = refl
    joined true true false = refl
    joined true false true = refl
    joined true false false = refl
    joined false s a = refl

    last : (b : Bool) → (b || false) ≡ b
    last true = refl
    last false = refl

    any_appended : (p : TokenPlace)
        → list_any (λ (o : Listed). o.number == p.serial) (owned ++ one ∷ [])
        ≡ (list_any (λ (o : Listed). o.number == p.serial) owned || (one.number == p.serial))
    any_appended p = list_any-append (λ (o : Listed). o.number == p.serial) owned (one ∷ [])
        ∙ ap (λ b. list_any (λ (o : Listed). o.number == p.serial) owned || b) (last (one.number == p.serial))

pub none_yet : (places : List TokenPlace) (grant : ℕ) → places ≡ filter (λ (p : TokenPlace). not (is_among grant [] p)) places
none_yet places grant = all_stay (is_among grant []) places (λ p h e. let both = both_true (grant == p.grant) false e in cc both.1)

-- an item has its own key
any_with_key : {A : Type 0} (key : A → ℕ) (xs : List A) (z : A) → HasItem xs z → list_any (λ x. key x == key z) xs ≡ true
any_with_key key [] z h = absurd h
any_with_key key (x ∷ xs) z (inl e) = rw (subst (λ n. (n == key z) ≡ true) (ap key e) (eqb-self (key z))) refl
any_with_key {A} key (x ∷ xs) z (inr h) = either (key x == key z) (any_with_key key xs z h)
  where
    either : (b : Bool) → list_any (λ (y : A). key y == key z) xs ≡ true → (b || list_any (λ (y : A). key y == key z) xs) ≡ true
    either true e = refl
    either false e = e

-- What stands under the grant are all tokens of it.
pub all_of_grant : (places : List TokenPlace) (owned run : List Listed) (grant : ℕ) → AreListed owned places
    → ((one : Listed) → HasItem owned one → one.key ≡ grant → HasItem run one)
    → filter (λ (p : TokenPlace). not (is_among grant run p)) places ≡ filter (λ (p : TokenPlace). not (grant == p.grant)) places
all_of_grant places owned run grant listed all =
    filter_agrees (λ (p : TokenPlace). not (is_among grant run p)) (λ (p : TokenPlace). not (grant == p.grant)) places
    (λ p h. ap not (same p h (grant == p.grant) refl))
  where
    same : (p : TokenPlace) → HasItem places p → (b : Bool) → (grant == p.grant) ≡ b → (b && list_any (λ (o : Listed). o.number == p.serial) run) ≡ b
    same p h true e = any_with_key (λ (o : Listed). o.number) run (under p.grant p.serial)
        (all (under p.grant p.serial) (item_all (λ (q : TokenPlace). HasItem owned (under q.grant q.serial)) places p listed h)
        (sym (eqb-true grant p.grant e)))
    same p h false e = refl

-- what is left is listed
pub listed_left : (test : TokenPlace → Bool) (owned : List Listed) (places : List TokenPlace) → AreListed owned places → AreListed owned (filter test places)
listed_left test owned places listed = All-filter test (λ (p : TokenPlace). HasItem owned (under p.grant p.serial)) places listed

pub listed_removed : (owned : List Listed) (places : List TokenPlace) (at serial : ℕ) (old : TokenPlace) → AreTokenPlaces places → AreListed owned places
    → at < length places → old ≡ get_or places at old → old.serial ≡ serial
    → AreListed owned (remove places at)
listed_removed owned places at serial old are listed inside is mine =
    subst (AreListed owned) (sym (removed_at (λ (p : TokenPlace). p.serial) places at serial old (place_pairs places are) inside
    (ap (λ (p : TokenPlace). p.serial) (sym is) ∙ mine)))
    (listed_left (λ (p : TokenPlace). not (serial == p.serial)) owned places listed)

-- what is taken out with its serial leaves the others listed
pub listed_without : (before after : List Listed) (places : List TokenPlace) (at : ℕ) (gone : TokenPlace) → AreTokenPlaces places → at < length places
    → gone ≡ get_or places at gone → AreListed before (remove places at)
    → ((one : Listed) → HasItem before one → (one ≡ under gone.grant gone.serial → ⊥) → HasItem after one) → AreListed after (remove places at)
listed_without before after places at gone are inside is listed kept k d lt =
    let p : TokenPlace = get_or (remove places at) k d in
    kept (under p.grant p.serial) (listed k d lt)
    (λ same. apart (subst (λ (ps : List TokenPlace). HasItem ps p) left (item_in (remove places at) k d lt)) (ap (λ (one : Listed). one.number) same))
  where
    left : remove places at ≡ filter (λ (p : TokenPlace). not (gone.serial == p.serial)) places
    left = removed_at (λ (p : TokenPlace). p.serial) places at gone.serial gone (place_pairs places are) inside (ap (λ (p : TokenPlace). p.serial) (sym is))

    apart : HasItem (filter (λ (p : TokenPlace). not (gone.serial == p.serial)) places) (get_or (remove places at) k d)
        → (get_or (remove places at) k d).serial ≡ gone.serial → ⊥
    apart h same =
        let other = (item_of_filter (λ (p : TokenPlace). not (gone.serial == p.serial)) places (get_or (remove places at) k d) h).1 in
        let own : (gone.serial == (get_or (remove places at) k d).serial) ≡ true = subst (λ n. (gone.serial == n) ≡ true) (sym same) (eqb-self gone.serial) in
        let k : false ≡ true = sym (ap not own) ∙ other in cc k

-- what is left of other grants stays listed where what is under the grant is taken out
pub listed_elsewhere : (before after : List Listed) (places : List TokenPlace) (grant : ℕ)
    → AreListed before (filter (λ (p : TokenPlace). not (grant == p.grant)) places)
    → ((one : Listed) → HasItem before one → (one.key ≡ grant → ⊥) → HasItem after one)
    → AreListed after (filter (λ (p : TokenPlace). not (grant == p.grant)) places)
listed_elsewhere before after places grant listed kept k d lt =
    let p : TokenPlace = get_or (filter (λ (p : TokenPlace). not (grant == p.grant)) places) k d in
    kept (under p.grant p.serial) (listed k d lt) (λ same.
    let other = (item_of_filter (λ (q : TokenPlace). not (grant == q.grant)) places p
    (item_in (filter (λ (q : TokenPlace). not (grant == q.grant)) places) k d lt)).1 in
    let own : (grant == p.grant) ≡ true = subst (λ n. (grant == n) ≡ true) (sym same) (eqb-self grant) in
    let k : false ≡ true = sym (ap not own) ∙ other in cc k)

pub listed_marked : (owned : List Listed) (places : List TokenPlace) (at serial : ℕ) (old new : TokenPlace) → AreListed owned places → at < length places
    → old ≡ get_or places at old → Marks serial old new
    → AreListed owned (set places at new)
listed_marked owned places at serial old new listed inside is marks =
    All-set (λ (p : TokenPlace). HasItem owned (under p.grant p.serial)) places at new
    (rw (marks.serial_kept, marks.grant_kept) (subst (λ (p : TokenPlace). HasItem owned (under p.grant p.serial)) (sym is) (listed at old inside))) listed

pub listed_pushed : (before after : List Listed) (places : List TokenPlace) (new : TokenPlace) → AreListed before places
    → ((one : Listed) → HasItem before one → HasItem after one) → HasItem after (under new.grant new.serial)
    → AreListed after (places ++ new ∷ [])
listed_pushed before after places new listed kept has =
    All-push (λ (p : TokenPlace). HasItem after (under p.grant p.serial)) places new
    (λ k d inside. kept (under (get_or places k d).grant (get_or places k d).serial) (listed k d inside)) has

-- a serial of a row stays in the index
pub listed_still : (owned : List Listed) (slice places : List TokenPlace) → slice ≡ places → AreListed owned places
    → AreListed (filter (λ (one : Listed). list_any (λ (p : TokenPlace). p.serial == one.number) slice) owned) places
listed_still owned slice places same listed k d inside =
    kept owned (get_or places k d) (item_in places k d inside) (listed k d inside)
  where
    kept : (os : List Listed) (p : TokenPlace) → HasItem places p → HasItem os (under p.grant p.serial)
        → HasItem (filter (λ (one : Listed). list_any (λ (q : TokenPlace). q.serial == one.number) slice) os) (under p.grant p.serial)
    kept [] p h l = absurd l
    kept (o ∷ os) p h (inl e) = subst
        (λ b. HasItem (cond b (o ∷ filter (λ (one : Listed). list_any (λ (q : TokenPlace). q.serial == one.number) slice) os)
        (filter (λ (one : Listed). list_any (λ (q : TokenPlace). q.serial == one.number) slice) os)) (under p.grant p.serial))
        (sym (subst (λ (x : Listed). list_any (λ (q : TokenPlace). q.serial == x.number) slice ≡ true) e
        (any_with_key (λ (q : TokenPlace). q.serial) slice p (subst (λ (ps : List TokenPlace). HasItem ps p) (sym same) h)))) (inl e)
    kept (o ∷ os) p h (inr l) = either (list_any (λ (q : TokenPlace). q.serial == o.number) slice) (kept os p h l)
      where
        either : (b : Bool) → HasItem (filter (λ (one : Listed). list_any (λ (q : TokenPlace). q.serial == one.number) slice) os) (under p.grant p.serial)
            → HasItem (cond b (o ∷ filter (λ (one : Listed). list_any (λ (q : TokenPlace). q.serial == one.number) slice) os)
            (filter (λ (one : Listed). list_any (λ (q : TokenPlace). q.serial == one.number) slice) os)) (under p.grant p.serial)
        either true i = inr i
        either false i = i

-- ---- a row that is appended

pub place_pushed : (places : List TokenPlace) (new : TokenPlace) → AreTokenPlaces places → IsTokenPlace new → IsTokenRow new.row.value
    → All (λ (other : TokenRow). other.serial < new.row.value.serial) (map token_in places)
    → HoldRows (places ++ new ∷ []) (map token_in places ++ new.row.value ∷ [])
place_pushed places new are is row above =
    let rows = map-append token_in places (new ∷ []) in (
      rows,
      record {
        rows = subst AreTokenRows (sym rows) (record {
          ascending = all_pairs_push (λ (a b : TokenRow). a.serial < b.serial) (map token_in places) new.row.value are.rows.ascending above;
          each = All-push (λ (r : TokenRow). IsTokenRow r) (map token_in places) new.row.value are.rows.each row;
        });
        each = All-push IsTokenPlace places new are.each is;
      },
    )

-- ---- live rows

count-map : {A B : Type 0} (f : A → B) (t : A → Bool) (u : B → Bool) (xs : List A) → ((x : A) → HasItem xs x → t x ≡ u (f x))
    → count_by t xs ≡ length (filter u (map f xs))
count-map {A} {B} f t u xs same = sym (length-filter t xs) ∙ sym (length-map (filter t xs) f) ∙ ap (length {A = B}) (map-filter f t u xs same)

pub lasting_counted : (places : List TokenPlace) (rows : List TokenRow) (moment : ℕ) → map token_in places ≡ rows
    → count_by (is_lasting moment) places ≡ length (filter (lasts_at moment) rows)
lasting_counted places rows moment view =
    count-map token_in (is_lasting moment) (lasts_at moment) places (λ x h. refl) ∙ ap (λ (rs : List TokenRow). length (filter (lasts_at moment) rs)) view

lasts_live : (now : ℕ) (grants : List GrantRow) (row : TokenRow) → is_of_approved grants row ≡ true → lasts_at now row ≡ is_live_row now grants row
lasts_live now grants row approved = by row.retired (nat_lt now row.until) (is_approved_grant row.grant grants) approved
  where
    by : (r u a : Bool) → (r || a) ≡ true → (not r && u) ≡ (not r && u && a)
    by true u a h = refl
    by false true a h = sym h
    by false false a h = refl

-- Where each row that isn't retired is of an approved grant, the rows that last are the live ones.
pub lasting_live : (now : ℕ) (grants : List GrantRow) (rows : List TokenRow) → AreOfApproved grants rows
    → filter (lasts_at now) rows ≡ live_rows now grants rows
lasting_live now grants rows approved = filter_agrees (lasts_at now) (λ (row : TokenRow). is_live_row now grants row) rows
    (λ r h. lasts_live now grants r
    (item_all (λ (row : TokenRow). is_of_approved grants row ≡ true) rows r (AllPass-from_list_all (is_of_approved grants) rows approved) h))

pub elsewhere_counted : (places : List TokenPlace) (rows : List TokenRow) (number moment : ℕ) → map token_in places ≡ rows → AreTokenPlaces places
    → count_by (is_lasting_elsewhere moment number) places ≡ length (rows_of_others number (filter (lasts_at moment) rows))
elsewhere_counted places rows number moment view are =
    count-map token_in (is_lasting_elsewhere moment number) (λ (row : TokenRow). not (row.grant == number) && lasts_at moment row) places
    (λ p h. ap (λ n. not (n == number) && is_lasting moment p) (item_all IsTokenPlace places p are.each h).grant)
    ∙ ap (length {A = TokenRow}) (sym (filter-filter (λ (row : TokenRow). not (row.grant == number)) (lasts_at moment) (map token_in places)))
    ∙ ap (λ (rs : List TokenRow). length (rows_of_others number (filter (lasts_at moment) rs))) view

-- ---- how many last after a change

pub lasting_pushed : (places : List TokenPlace) (new : TokenPlace) (moment lasting one : ℕ) → lasting ≡ count_by (is_lasting moment) places
    → one ≡ one_if (is_lasting moment new)
    → lasting + one ≡ count_by (is_lasting moment) (places ++ new ∷ [])
lasting_pushed places new moment lasting one all is = let more = sum_by_push (λ (p : TokenPlace). one_if (is_lasting moment p)) places new in omega
    (arith, all, is, more)

pub lasting_removed : (places : List TokenPlace) (at moment lasting one : ℕ) (old : TokenPlace) → at < length places → old ≡ get_or places at old
    → lasting ≡ count_by (is_lasting moment) places
    → one ≡ one_if (is_lasting moment old) → (one ≤ lasting) × (lasting - one ≡ count_by (is_lasting moment) (remove places at))
lasting_removed places at moment lasting one old inside there all is =
    let f : TokenPlace → ℕ = λ (p : TokenPlace). one_if (is_lasting moment p) in
    let parts = sum_by-remove f places at old inside in
    let same : f old ≡ f (get_or places at old) = ap f there in (omega (arith, parts, same, all, is), omega (arith, parts, same, all, is))

pub lasting_set : (places : List TokenPlace) (at moment lasting before after : ℕ) (old new : TokenPlace) → at < length places → old ≡ get_or places at old
    → lasting ≡ count_by (is_lasting moment) places
    → before ≡ one_if (is_lasting moment old) → after ≡ one_if (is_lasting moment new)
    → (before ≤ lasting) × (lasting - before + after ≡ count_by (is_lasting moment) (set places at new))
lasting_set places at moment lasting before after old new inside there all was is =
    let f : TokenPlace → ℕ = λ (p : TokenPlace). one_if (is_lasting moment p) in
    let parts = sum_by-set f places at new old inside in
    let low = get_or-le-sum_by f places at old inside in
    let same : f old ≡ f (get_or places at old) = ap f there in (omega (arith, low, same, all, was), omega (arith, parts, low, same, all, was, is))

-- ---- the rows of a grant that last

-- those that pass a test, and the others
both_parts : (test : TokenPlace → Bool) (moment : ℕ) (places : List TokenPlace)
    → count_by (is_lasting moment) (filter test places) + count_by (is_lasting moment) (filter (λ (p : TokenPlace). not (test p)) places)
    ≡ count_by (is_lasting moment) places
both_parts test moment places = sum_by-filter_both test (λ (p : TokenPlace). not (test p)) (λ p. refl) (λ (p : TokenPlace). one_if (is_lasting moment p)) places

pub own_counted : (places : List TokenPlace) (at grant serial moment one : ℕ) (old : TokenPlace) → AreInOrder places → at < length places
    → old ≡ get_or places at old → old.serial ≡ serial → old.grant ≡ grant
    → one ≡ one_if (is_lasting moment old) → one ≡ count_by (is_lasting moment) (filter (is_this grant serial) places)
own_counted places at grant serial moment one old order inside is mine its counted =
    let less = lasting_removed places at moment (count_by (is_lasting moment) places) one old inside is refl counted in
    let few = less.0 in
    let rest = less.1 in
    let left = ap (count_by (is_lasting moment)) (taken_out places at grant serial old order inside is mine its) in
    let parts = both_parts (is_this grant serial) moment places in omega (arith, few, rest, left, parts)

pub none_own : (places : List TokenPlace) (grant serial moment : ℕ) → places ≡ filter (λ (p : TokenPlace). not (is_this grant serial p)) places
    → 0 ≡ count_by (is_lasting moment) (filter (is_this grant serial) places)
none_own places grant serial moment all =
    let same = ap (count_by (is_lasting moment)) all in
    let parts = both_parts (is_this grant serial) moment places in omega (arith, same, parts)

none_has : (owned : List Listed) (n : ℕ) → ((one : Listed) → HasItem owned one → one.number < n) → list_any (λ (one : Listed). one.number == n) owned ≡ false
none_has owned n below = list_any_none (λ (one : Listed). one.number == n) owned
    (λ k d inside. apart (get_or owned k d).number (below (get_or owned k d) (item_in owned k d inside)))
  where
    apart : (m : ℕ) → m < n → (m == n) ≡ false
    apart m lt = by (m == n) refl
      where
        by : (b : Bool) → (m == n) ≡ b → b ≡ false
        by true e = let same = eqb-true m n e in absurd (omega (arith, same, lt))
        by false e = refl

-- what is left is less by those of one serial more, which is greater than the others
pub one_less : (places : List TokenPlace) (grant moment left own : ℕ) (owned : List Listed) (one : Listed)
    → ((former : Listed) → HasItem owned former → former.number < one.number)
    → left ≡ count_by (is_lasting moment) (filter (λ (p : TokenPlace). not (is_among grant owned p)) places)
    → own ≡ count_by (is_lasting moment) (filter (is_this grant one.number) places)
    → (own ≤ left) × (left - own ≡ count_by (is_lasting moment) (filter (λ (p : TokenPlace). not (is_among grant (owned ++ one ∷ []) p)) places))
one_less places grant moment left own owned one above all counted =
    let parts = both_parts (is_this grant one.number) moment (filter (λ (p : TokenPlace). not (is_among grant owned p)) places) in
    let mine = ap (count_by (is_lasting moment))
    (filter-filter (is_this grant one.number) (λ (p : TokenPlace). not (is_among grant owned p)) places
    ∙ filter_agrees _ (is_this grant one.number) places (λ p h. apart p (grant == p.grant) (one.number == p.serial) refl)) in
    let rest = ap (count_by (is_lasting moment)) (one_more places grant owned one) in
    (omega (arith, parts, mine, all, counted), omega (arith, parts, mine, rest, all, counted))
  where
    apart : (p : TokenPlace) (g s : Bool) → (one.number == p.serial) ≡ s
        → ((g && s) && not (g && list_any (λ (o : Listed). o.number == p.serial) owned)) ≡ (g && s)
    apart p true true e = ap not (subst (λ n. list_any (λ (o : Listed). o.number == n) owned ≡ false) (eqb-true one.number p.serial e)
        (none_has owned one.number above))
    apart p true false e = refl
    apart p false s e = refl

-- the greatest number so far is below one that isn't within it
pub above_former : (former : Option ℕ) (n m : ℕ) → where_some (nat_le m) former ≡ true → false ≡ where_some (nat_le n) former → m < n
above_former None n m low e = cc low
above_former (Some f) n m low e = grind (arith, nat_tests, low, e)

-- what has the last number at most
pub within_last : (owned : List Listed) (last : Listed) → ((one : Listed) → HasItem owned one → one.number < last.number) → (one : Listed)
    → HasItem (owned ++ last ∷ []) one → nat_le one.number last.number ≡ true
within_last owned last below one h = low (elim (item_append owned (last ∷ []) one h) [
  | inl a ↦ let less = below one a in omega (arith, less)
  | inr b ↦ elim b [
    | inl e ↦ let same = ap (λ (o : Listed). o.number) e in omega (arith, same)
    | inr n ↦ absurd n
  ]
])
  where
    low : one.number ≤ last.number → nat_le one.number last.number ≡ true
    low le = by (nat_le one.number last.number) refl
      where
        by : (b : Bool) → nat_le one.number last.number ≡ b → b ≡ true
        by true e = refl
        by false e = absurd (grind (arith, nat_tests, e, le))

-- what stays of all, without those of a grant, are the lasting rows of others
pub others_left : (places : List TokenPlace) (rows : List TokenRow) (number moment left : ℕ) → map token_in places ≡ rows → AreTokenPlaces places
    → left ≡ count_by (is_lasting moment) (filter (λ (p : TokenPlace). not (number == p.grant)) places)
    → left ≡ length (rows_of_others number (filter (lasts_at moment) rows))
others_left places rows number moment left view are counted =
    counted
    ∙ lasting_counted (filter (λ (p : TokenPlace). not (number == p.grant)) places)
    (filter (λ (row : TokenRow). not (number == row.grant)) (map token_in places)) moment
    (kept_places (λ (p : TokenPlace). not (number == p.grant)) (λ (row : TokenRow). not (number == row.grant)) places are
    (λ p is. ap (λ n. not (number == n)) is.grant)).0
    ∙ ap (length {A = TokenRow}) (filter-filter (lasts_at moment) (λ (row : TokenRow). not (number == row.grant)) (map token_in places)
    ∙ filter_agrees _ (λ (row : TokenRow). not (row.grant == number) && lasts_at moment row) (map token_in places)
    (λ r h. turned (lasts_at moment r) (number == r.grant) (r.grant == number) (swapped number r.grant))
    ∙ sym (filter-filter (λ (row : TokenRow). not (row.grant == number)) (lasts_at moment) (map token_in places)))
    ∙ ap (λ (rs : List TokenRow). length (rows_of_others number (filter (lasts_at moment) rs))) view
  where
    swapped : (a b : ℕ) → (a == b) ≡ (b == a)
    swapped a b = by (a == b) (b == a) refl refl
      where
        by : (x y : Bool) → (a == b) ≡ x → (b == a) ≡ y → x ≡ y
        by true true e f = refl
        by true false e f = let k : true ≡ false = sym (subst (λ n. (n == a) ≡ true) (eqb-true a b e) (eqb-self a)) ∙ f in cc k
        by false true e f = let k : true ≡ false = sym (subst (λ n. (n == b) ≡ true) (eqb-true b a f) (eqb-self b)) ∙ e in cc k
        by false false e f = refl

    turned : (l x y : Bool) → x ≡ y → (l && not x) ≡ (not y && l)
    turned true true true e = refl
    turned true true false e = cc e
    turned true false true e = cc e
    turned true false false e = refl
    turned false true true e = refl
    turned false true false e = refl
    turned false false true e = cc e
    turned false false false e = refl

-- so many more pass the limit where they pass what is left of it
pub limit_moved : (count live more : ℕ) → count ≡ live → more ≤ 16 → nat_lt (65536 - more) count ≡ nat_lt 65536 (live + more)
limit_moved count live more same few = by (nat_lt (65536 - more) count) (nat_lt 65536 (live + more)) refl refl
  where
    by : (a b : Bool) → nat_lt (65536 - more) count ≡ a → nat_lt 65536 (live + more) ≡ b → a ≡ b
    by true true e f = refl
    by true false e f = absurd (grind (arith, nat_tests, e, f, same, few))
    by false true e f = absurd (grind (arith, nat_tests, e, f, same, few))
    by false false e f = refl

-- ---- an item with a key

-- the test of the key at the place of a key
pub key_found : {A : Type 0} (key : A → ℕ) (xs : List A) (i k : ℕ) → IsAscending (map key xs) → IsPlaceOf k (map key xs) i
    → (o : Option ℕ) → o ≡ option_map key (slice_get xs i) → where_some (λ n. n == k) o ≡ list_any (λ x. key x == k) xs
key_found {A} key xs i k ascending place o e =
    ap (where_some (λ n. n == k)) e ∙ by (slice_get xs i) ∙ ap is_some (placed_key key xs i k ascending place) ∙ any_newest (λ x. key x == k) xs
  where
    tested : (b : Bool) (z : A) → b ≡ is_some (some_if b z)
    tested true z = refl
    tested false z = refl

    by : (p : Option A) → where_some (λ n. n == k) (option_map key p) ≡ is_some (option_and_then (λ (x : A). some_if (key x == k) x) p)
    by None = refl
    by (Some z) = tested (key z == k) z
