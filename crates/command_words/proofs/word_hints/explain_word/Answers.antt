use Rattle.std.proofs.Common.{rules, ◌≡◌, ◌∙◌, List, ℕ, ◌∷◌, ◌++◌, Some, map, string_bytes, refl, ap}
use Rattle.std.specs.Prelude.{slice_get, option_map}
use Rattle.std.proofs.lemmas.Option.{slice_get-map, slice_get_read}
use Rattle.command_words.specs.Telling.{shown_text}
use Rattle.command_words.specs.Hints.{form_text}
use Rattle.command_words.proofs.ToldTexts.{told_as}
use Rattle.command_words.proofs.HintTexts.{misformed_pieces}
use Rattle.command_words.proofs.word_hints.explain_word.Goals as goal

pub returns : goal.returns
returns g c =
    let name : List ℕ = c.as_str-2.result.now in
    let word : List ℕ = c.as_bytes.result.now in
    let words : List (List ℕ) = map string_bytes c.args.words.now in
    let arguments : List (List ℕ) = map string_bytes c.in-Some.arguments.now in
    let are : words ≡ name ∷ arguments = search rules in
    let found : slice_get c.in-Some.arguments.now c.args.place ≡ Some c.in-Some-get.word.now
    = slice_get_read _ _ _ _ refl c.in-Some-get.ensures.lookup.3.0 c.in-Some-get.ensures.lookup.1 in
    let named : string_bytes c.in-Some-get.word.now ≡ word = search rules in
    let got : slice_get arguments c.args.place ≡ Some word
    = slice_get-map string_bytes c.in-Some.arguments.now c.args.place ∙ ap (option_map string_bytes) found ∙ ap Some named in
    let shown : c.shown_pieces.result.0.now ++ c.shown_pieces.result.1.now ≡ shown_text word = search rules in
    let form_is : c.as_bytes-form.result.now ≡ form_text c.args.form = search rules in
    told_as _ _ _ _ _ _ (misformed_pieces c.args.place c.args.form name word _ _ _ words arguments are got shown form_is) c.tell_with_usage-2.ensures
