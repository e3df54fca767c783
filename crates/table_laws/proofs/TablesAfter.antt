-- What notes do to the tables.
use Rattle.std.proofs.Common.{ℕ, ◌≡◌, List, [], ◌∷◌, ◌++◌, reverse, refl, ◌∙◌, ap, append_assoc}
use Rattle.gnap_model.specs.declared.notes.Note.{Note}
use Rattle.gnap_tables.specs.declared.rows.GrantRow.{GrantRow}
use Rattle.gnap_tables.specs.declared.rows.TokenRow.{TokenRow}
use Rattle.gnap_tables.specs.Rows.{grant_rows, token_rows}
use Rattle.gnap_tables.specs.Tables.{tables_of, after_note, after_notes, grants_after}
use Rattle.table_laws.specs.AddableNotes.{CanFollow, CanAllFollow}
use Rattle.gnap_tables.proofs.Lists.{reverse-cons}
use Rattle.table_laws.proofs.GrantsAfter.{grants_next}
use Rattle.table_laws.proofs.TokensAfter.{tokens_next}

-- One more note changes the tables as `after_note` says.
pub tables_next : (note : Note) (trail : List Note) (now : ℕ) → CanFollow now trail note → tables_of (note ∷ trail) now ≡ after_note note (tables_of trail now)
tables_next note trail now can =
    let one : tables_of (note ∷ trail) now ≡ record { grants = grants_after note (grant_rows trail now); tokens = token_rows (note ∷ trail) now } =
    ap (λ (rows : List GrantRow). record { grants = rows; tokens = token_rows (note ∷ trail) now }) (grants_next note trail now can) in
    one ∙ ap (λ (rows : List TokenRow). record { grants = grants_after note (grant_rows trail now); tokens = rows }) (tokens_next note trail now can)

-- More notes change them one after another.
pub tables_after : (notes trail : List Note) (now : ℕ) → CanAllFollow now trail notes
    → tables_of (reverse notes ++ trail) now ≡ after_notes notes (tables_of trail now)
tables_after [] trail now can = refl
tables_after (note ∷ notes) trail now can =
    ap (λ (ns : List Note). tables_of (ns ++ trail) now) (reverse-cons note notes)
    ∙ ap (λ (ns : List Note). tables_of ns now) (append_assoc (reverse notes) (note ∷ []) trail)
    ∙ tables_after notes (note ∷ trail) now can.1
    ∙ ap (after_notes notes) (tables_next note trail now can.0)
