-- Rows of tokens with rising serials, appended one by one.
use Rattle.std.proofs.Common.{ℕ, Bool, true, false, ◌≡◌, ◌≤◌, ◌<◌, ◌+◌, List, [], ◌∷◌, ◌++◌, refl, sym, ◌∙◌, ap, subst, arith, append_assoc}
use Rattle.std.specs.Prelude.{not, ◌==◌}
use Rattle.std.specs.Global.{Box}
use Rattle.std.specs.List.{All}
use Rattle.std.proofs.lemmas.List.{map-append}
use Rattle.std.proofs.lemmas.List.Elements.{All-filter, All-push}
use Rattle.gnap_tables.specs.declared.rows.TokenRow.{TokenRow}
use Rattle.token_manager.specs.Tokens.{IsTokenRow}
use Rattle.table_core.specs.Plans.{rows_in, RiseFrom, unretired}

-- the number from which on serials are free after these rows
abbrev pub free_after : ℕ → List TokenRow → ℕ
free_after first [] = first
free_after first (row ∷ rows) = free_after (row.serial + 1) rows

free_push : (first : ℕ) (rows : List TokenRow) (row : TokenRow) → free_after first (rows ++ row ∷ []) ≡ row.serial + 1
free_push first [] row = refl
free_push first (r ∷ rs) row = free_push (r.serial + 1) rs row

-- the first of the rows that are left
rise_rest : (first : ℕ) (front rest : List TokenRow) (row : TokenRow) → RiseFrom first (front ++ row ∷ rest)
    → IsTokenRow row × (free_after first front ≤ row.serial)
rise_rest first [] rest row rise = (rise.0, rise.1)
rise_rest first (r ∷ rs) rest row rise = rise_rest (r.serial + 1) rs rest row rise.2

boxes_parted : (yielded rest whole : List (Box TokenRow)) (box : Box TokenRow) → yielded ++ box ∷ rest ≡ whole
    → rows_in yielded ++ box.value ∷ rows_in rest ≡ rows_in whole
boxes_parted yielded rest whole box is = sym (map-append (λ (b : Box TokenRow). b.value) yielded (box ∷ rest)) ∙ ap rows_in is

pub row_comes : (first : ℕ) (yielded rest whole : List (Box TokenRow)) (box : Box TokenRow) → yielded ++ box ∷ rest ≡ whole → RiseFrom first (rows_in whole)
    → IsTokenRow box.value × (free_after first (rows_in yielded) ≤ box.value.serial)
row_comes first yielded rest whole box is rise = rise_rest first (rows_in yielded) (rows_in rest) box.value
    (subst (RiseFrom first) (sym (boxes_parted yielded rest whole box is)) rise)

pub row_above : (rows : List TokenRow) (low serial : ℕ) → low ≤ serial → All (λ (row : TokenRow). row.serial < low) rows
    → All (λ (row : TokenRow). row.serial < serial) rows
row_above rows low serial le below k d inside = let b = below k d inside in omega arith

pub row_issued : (first : ℕ) (before now_rows after : List TokenRow) (yielded : List (Box TokenRow)) (box : Box TokenRow) → now_rows ≡ before ++ rows_in yielded
    → after ≡ now_rows ++ box.value ∷ []
    → after ≡ before ++ rows_in (yielded ++ box ∷ [])
row_issued first before now_rows after yielded box had is =
    is ∙ ap (λ (rows : List TokenRow). rows ++ box.value ∷ []) had ∙ append_assoc before (rows_in yielded) (box.value ∷ [])
    ∙ ap (λ (rows : List TokenRow). before ++ rows) (sym (map-append (λ (b : Box TokenRow). b.value) yielded (box ∷ [])))

pub rows_below : (first : ℕ) (rows after : List TokenRow) (yielded : List (Box TokenRow)) (box : Box TokenRow)
    → free_after first (rows_in yielded) ≤ box.value.serial
    → All (λ (row : TokenRow). row.serial < free_after first (rows_in yielded)) rows → after ≡ rows ++ box.value ∷ []
    → All (λ (row : TokenRow). row.serial < free_after first (rows_in (yielded ++ box ∷ []))) after
rows_below first rows after yielded box le below is =
    let free : box.value.serial + 1 ≡ free_after first (rows_in (yielded ++ box ∷ [])) =
    sym (ap (free_after first) (map-append (λ (b : Box TokenRow). b.value) yielded (box ∷ [])) ∙ free_push first (rows_in yielded) box.value) in
    subst (λ n. All (λ (row : TokenRow). row.serial < n) after) free
    (subst (λ (rs : List TokenRow). All (λ (row : TokenRow). row.serial < box.value.serial + 1) rs) (sym is)
    (All-push (λ (row : TokenRow). row.serial < box.value.serial + 1) rows box.value
    (row_above rows (free_after first (rows_in yielded)) (box.value.serial + 1) (omega arith) below) (omega arith)))

-- the rows that are left are below too
pub unretired_below : (retires : Bool) (number first : ℕ) (rows : List TokenRow) → All (λ (row : TokenRow). row.serial < first) rows
    → All (λ (row : TokenRow). row.serial < first) (unretired retires number rows)
unretired_below true number first rows below = All-filter (λ (row : TokenRow). not (number == row.grant)) (λ (row : TokenRow). row.serial < first) rows below
unretired_below false number first rows below = below
