use Rattle.std.proofs.Common.{rules, ◌≡◌, List, ℕ, ◌∷◌, ◌++◌, false, map, string_bytes}
use Rattle.command_words.specs.Telling.{shown_text}
use Rattle.command_words.specs.Hints.{asks_for_usage}
use Rattle.command_words.proofs.ToldTexts.{told_as}
use Rattle.command_words.proofs.HintTexts.{unknown_pieces}
use Rattle.command_words.proofs.word_hints.explain_name.Goals as goal

pub returns : goal.returns
returns g c =
    let name : List ℕ = c.as_str.result.now in
    let words : List (List ℕ) = map string_bytes c.args.words.now in
    let arguments : List (List ℕ) = map string_bytes c.in-Some.field-0-1.now in
    let are : words ≡ name ∷ arguments = search rules in
    let other : asks_for_usage name ≡ false = search rules in
    let shown : c.shown_pieces.result.0.now ++ c.shown_pieces.result.1.now ≡ shown_text name = search rules in
    told_as _ _ _ _ _ _ (unknown_pieces name _ _ words arguments are other shown) c.tell_with_usage-2.ensures
