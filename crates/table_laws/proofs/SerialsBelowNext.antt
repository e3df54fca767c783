-- The serials in the rows are below the next one, which fits a number of the code.
use Rattle.std.proofs.Common.{ℕ, zero, suc, ◌≡◌, ◌⊎◌, ◌<◌, ◌^◌, Bool, true, false, List, [], ◌∷◌, ◌++◌, length, get_or, reverse, refl, ap, subst, inl, inr, arith}
use Rattle.std.specs.List.{All, filter_map, cons_option}
use Rattle.std.proofs.lemmas.List.{length-reverse}
use Rattle.histories.specs.History.{Legal, notes_of}
use Rattle.histories.specs.Histories.{legal-weaker}
use Rattle.gnap_model.specs.Common.{some_if}
use Rattle.gnap_model.specs.declared.objects.Setup.{Setup}
use Rattle.gnap_model.specs.declared.calls.Call.{Call}
use Rattle.gnap_model.specs.declared.calls.Call.TheVariants.{Lapse}
use Rattle.gnap_model.specs.declared.notes.TokenNote.{TokenNote}
use Rattle.gnap_model.specs.declared.notes.Note.{Note}
use Rattle.gnap_model.specs.declared.notes.Note.TheVariants.{Opened, Terms, Approved, Issued, Door, Pended, DecidedAs, Finalized, Wrong, Retired}
use Rattle.gnap_model.specs.Notes.{Event, first_serial, trail_values}
use Rattle.gnap_model.specs.Standing.{next_grant, is_managed}
use Rattle.gnap_model.specs.Answer.{gnap_answer}
use Rattle.gnap_model.specs.Legal.{HasFewAsks}
use Rattle.gnap_model.proofs.TrailNotes.{HasNote}
use Rattle.gnap_laws.proofs.Bound.{few_values}
use Rattle.gnap_laws.proofs.NewestFirst.{legal_past, trail-back}
use Rattle.gnap_laws.proofs.Sound.{IsSound, sound_note}
use Rattle.gnap_tables.specs.declared.rows.TokenRow.{TokenRow}
use Rattle.gnap_tables.specs.Rows.{token_row, token_row_in, token_rows}
use Rattle.gnap_tables.specs.StandsFor.{machine_of}
use Rattle.gnap_tables.proofs.Lists.{HasItem, reverse-cons}
use Rattle.table_laws.proofs.TablesThroughCalls.{FitFew}

item-append : {A : Type 0} (xs ys : List A) (z : A) → HasItem (xs ++ ys) z → HasItem xs z ⊎ HasItem ys z
item-append [] ys z h = inr h
item-append (x ∷ xs) ys z (inl e) = inl (inl e)
item-append (x ∷ xs) ys z (inr h) = elim (item-append xs ys z h) [ inl a ↦ inl (inr a) | inr b ↦ inr b ]

pub item-reverse : {A : Type 0} (xs : List A) (z : A) → HasItem (reverse xs) z → HasItem xs z
item-reverse [] z h = h
item-reverse {A} (x ∷ xs) z h = elim (item-append (reverse xs) (x ∷ []) z (subst (λ (ys : List A). HasItem ys z) (reverse-cons x xs) h)) [
  | inl a ↦ inr (item-reverse xs z a)
  | inr b ↦ elim b [ inl e ↦ inl e | inr n ↦ absurd n ]
]

pub item_in : {A : Type 0} (xs : List A) (i : ℕ) (d : A) → i < length xs → HasItem xs (get_or xs i d)
item_in [] i d h = absurd (omega arith)
item_in (x ∷ xs) zero d h = inl refl
item_in (x ∷ xs) (suc i) d h = inr (item_in xs i d (omega arith))

-- a row is that of an issued token
row_issued : (trail : List Note) (now : ℕ) (ns : List Note) (z : TokenRow) → HasItem (filter_map (token_row_in trail now) ns) z
    → (t : TokenNote) × HasNote ns (Issued t) × (z ≡ token_row trail t)
row_issued trail now [] z h = absurd h
row_issued trail now (Issued t ∷ ns) z h = at (is_managed trail now t) h (row_issued trail now ns z)
  where
    at : (b : Bool) → HasItem (cons_option (some_if b (token_row trail t)) (filter_map (token_row_in trail now) ns)) z
        → (HasItem (filter_map (token_row_in trail now) ns) z → (u : TokenNote) × HasNote ns (Issued u) × (z ≡ token_row trail u))
        → (u : TokenNote) × HasNote (Issued t ∷ ns) (Issued u) × (z ≡ token_row trail u)
    at true (inl e) rest = (t, inl refl, e)
    at true (inr k) rest = let r = rest k in (r.0, inr r.1, r.2)
    at false k rest = let r = rest k in (r.0, inr r.1, r.2)
row_issued trail now (Opened o ∷ ns) z h = let r = row_issued trail now ns z h in (r.0, inr r.1, r.2)
row_issued trail now (Terms w ∷ ns) z h = let r = row_issued trail now ns z h in (r.0, inr r.1, r.2)
row_issued trail now (Approved g c ∷ ns) z h = let r = row_issued trail now ns z h in (r.0, inr r.1, r.2)
row_issued trail now (Door g v x ∷ ns) z h = let r = row_issued trail now ns z h in (r.0, inr r.1, r.2)
row_issued trail now (Pended x ∷ ns) z h = let r = row_issued trail now ns z h in (r.0, inr r.1, r.2)
row_issued trail now (DecidedAs d ∷ ns) z h = let r = row_issued trail now ns z h in (r.0, inr r.1, r.2)
row_issued trail now (Finalized g ∷ ns) z h = let r = row_issued trail now ns z h in (r.0, inr r.1, r.2)
row_issued trail now (Wrong g ∷ ns) z h = let r = row_issued trail now ns z h in (r.0, inr r.1, r.2)
row_issued trail now (Retired s w ∷ ns) z h = let r = row_issued trail now ns z h in (r.0, inr r.1, r.2)

pub rows_below : (trail : List Note) (now : ℕ) → IsSound trail → All (λ (row : TokenRow). row.serial < first_serial trail) (token_rows trail now)
rows_below trail now sound k d inside =
    let z = get_or (token_rows trail now) k d in
    let f = row_issued trail now trail z (item-reverse (filter_map (token_row_in trail now) trail) z (item_in (token_rows trail now) k d inside)) in
    let s = sound_note (next_grant trail) (first_serial trail) trail (Issued f.0) sound f.1 in
    let low : f.0.serial < first_serial trail = s.0 in
    let same : z.serial ≡ f.0.serial = ap (λ (row : TokenRow). row.serial) f.2 in omega (arith, low, same)

pub few_serials : (fits : Call → Type 0) (rules : Setup) (h : List Event) → FitFew fits → Legal (machine_of fits) rules h → length h < 2 ^ 58
    → first_serial (reverse (notes_of h)) < 2 ^ 63
few_serials fits rules h few legal short =
    let past = legal_past rules h (legal-weaker gnap_answer fits HasFewAsks Lapse rules h few legal) in
    let le = few_values rules (reverse h) past in
    let same = ap (λ (t : List Note). length (trail_values t)) (trail-back h) in
    let turned = length-reverse h in omega arith
