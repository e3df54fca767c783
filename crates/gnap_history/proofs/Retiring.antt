-- The tokens that pass a test, in the order of their notes.
use Rattle.std.proofs.Common.{◌≡◌, ◌∙◌, Bool, List, [], ◌∷◌, ◌++◌, reverse, append-nil, refl, sym, ap, Option, Some, None}
use Rattle.std.specs.List.{filter_map, cons_option}
use Rattle.std.proofs.lemmas.List.{reverse-append, reverse-reverse}
use Rattle.std.proofs.lemmas.List.Elements.{filter_map-append}
use Rattle.gnap_model.specs.Standing.{token_in, issued_where}
use Rattle.gnap_model.specs.declared.notes.Note.{Note}
use Rattle.gnap_model.specs.declared.notes.TokenNote.{TokenNote}

turned : (x : Option TokenNote) (xs : List TokenNote) → reverse xs ++ cons_option x [] ≡ reverse (cons_option x xs)
turned None xs = append-nil (reverse xs)
turned (Some t) xs = sym (reverse-append (t ∷ []) xs)

filter_map-reverse : (pick : Note → Option TokenNote) (notes : List Note) → filter_map pick (reverse notes) ≡ reverse (filter_map pick notes)
filter_map-reverse pick [] = refl
filter_map-reverse pick (note ∷ notes) =
    ap (filter_map pick) (reverse-append (note ∷ []) notes)
    ∙ filter_map-append pick (reverse notes) (note ∷ [])
    ∙ ap (λ (tokens : List TokenNote). tokens ++ cons_option (pick note) []) (filter_map-reverse pick notes)
    ∙ turned (pick note) (filter_map pick notes)

pub issued_in_order : (test : TokenNote → Bool) (notes : List Note) → issued_where test (reverse notes) ≡ filter_map (token_in test) notes
issued_in_order test notes = ap (λ (tokens : List TokenNote). reverse tokens) (filter_map-reverse (token_in test) notes)
    ∙ reverse-reverse (filter_map (token_in test) notes)
