-- The live row with a value is the row with the value, where that is live.
use Rattle.std.proofs.Common.{ℕ, ◌≡◌, ◌<◌, ◌-◌, ◌^◌, Bool, true, false, List, refl, sym, ◌∙◌, subst, arith, Option, Some, None}
use Rattle.std.specs.Prelude.{◌&&◌}
use Rattle.std.specs.Option.{option_and_then}
use Rattle.std.proofs.lemmas.Slice.Eq.{bytes_eq-Decides}
use Rattle.gnap_model.specs.Common.{Text, same_text, some_if}
use Rattle.gnap_model.proofs.LookUps.{some_if_some}
use Rattle.gnap_model.proofs.ValueTexts.{value_text_injective}
use Rattle.gnap_tables.specs.declared.rows.GrantRow.{GrantRow}
use Rattle.gnap_tables.specs.declared.rows.TokenRow.{TokenRow}
use Rattle.gnap_tables.specs.RowSearches.{newest, live_row, is_live_row}
use Rattle.gnap_tables.proofs.Lists.{HasItem}
use Rattle.token_manager.specs.Tokens.{AreTokenRows, row_by_value}
use Rattle.grant_states.proofs.Items.{newest_only, newest_none, found_in, found_none}
use Rattle.grant_states.proofs.Placed.{one_key}
use Rattle.token_manager.proofs.TokenLemmas.{row_of}

-- rows with one value are one row
one_value : (rows : List TokenRow) (y z : TokenRow) (value : Text) → AreTokenRows rows → HasItem rows y → HasItem rows z → same_text y.value value ≡ true
    → same_text z.value value ≡ true → y ≡ z
one_value rows y z value are hy hz ey ez =
    let a = row_of rows y are hy in
    let b = row_of rows z are hz in
    let ly : y.serial < 2 ^ 64 - 1 = a.small in
    let lz : z.serial < 2 ^ 64 - 1 = b.small in
    let vy : y.value ≡ value = (bytes_eq-Decides y.value value).0 ey in
    let vz : z.value ≡ value = (bytes_eq-Decides z.value value).0 ez in
    let same : y.serial ≡ z.serial = value_text_injective y.serial z.serial a.value.0 a.value.1 b.value.0 b.value.1 (omega arith) (omega arith)
    (sym a.value.2 ∙ vy ∙ sym vz ∙ b.value.2) in
    one_key (λ (row : TokenRow). row.serial) rows y z are.ascending hy hz same

pub live_by_value : (now : ℕ) (grants : List GrantRow) (value : Text) (rows : List TokenRow) → AreTokenRows rows
    → live_row now grants value rows ≡ option_and_then (λ (row : TokenRow). some_if (is_live_row now grants row) row) (row_by_value value rows)
live_by_value now grants value rows are = by (row_by_value value rows) refl
  where
    look : TokenRow → Option TokenRow
    look row = some_if (same_text row.value value && is_live_row now grants row) row

    parts : (a b : Bool) → (a && b) ≡ true → (a ≡ true) × (b ≡ true)
    parts true true e = (refl, refl)
    parts true false e = cc e
    parts false b e = cc e

    -- what passes both tests passes each
    passes : (z w : TokenRow) → look z ≡ Some w → (same_text z.value value ≡ true) × (is_live_row now grants z ≡ true) × (z ≡ w)
    passes z w e =
        let both = some_if_some (same_text z.value value && is_live_row now grants z) z w e in
        let p = parts (same_text z.value value) (is_live_row now grants z) both.0 in (p.0, p.1, both.1)

    none : ((z w : TokenRow) → HasItem rows z → look z ≡ Some w → ⊥) → newest look rows ≡ None
    none never = newest_none look rows (λ z h. nothing z h (look z) refl)
      where
        nothing : (z : TokenRow) → HasItem rows z → (x : Option TokenRow) → look z ≡ x → x ≡ None
        nothing z h None k = refl
        nothing z h (Some w) k = absurd (never z w h k)

    by : (x : Option TokenRow) → row_by_value value rows ≡ x
        → newest look rows ≡ option_and_then (λ (row : TokenRow). some_if (is_live_row now grants row) row) x
    by None e = none (λ z w h k. found_none (λ (row : TokenRow). same_text row.value value) rows e z h (passes z w k).0)
    by (Some r) e = live (found_in (λ (row : TokenRow). same_text row.value value) rows r e) (is_live_row now grants r) refl
      where
        live : HasItem rows r × (same_text r.value value ≡ true) → (b : Bool) → is_live_row now grants r ≡ b → newest look rows ≡ some_if b r
        live found true l = newest_only look rows r r found.0 (rw (found.1, l) refl)
            (λ z w h k. let p = passes z w k in sym p.2 ∙ one_value rows z r value are h found.0 p.0 found.1)
        live found false l = none (λ z w h k.
            let p = passes z w k in
            let same : z ≡ r = one_value rows z r value are h found.0 p.0 found.1 in
            let t : is_live_row now grants r ≡ true = subst (λ (x : TokenRow). is_live_row now grants x ≡ true) same p.1 in
            let u : false ≡ true = sym l ∙ t in cc u)
