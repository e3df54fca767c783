use Rattle.std.proofs.Common.{rules, ◌≡◌, List, map, string_bytes, sym, subst, Option, IfOk, option_map}
use Rattle.clap.specs.Walk.{Text, texts}
use Rattle.command_words.specs.Positionals.{after_dashes}
use Rattle.command_words.proofs.Refusals.{taken}
use Rattle.command_words.proofs.positionals.exactly.Goals as goal

pub returns-in-Some : goal.returns-in-Some
returns-in-Some c =
    let words : List Text = map string_bytes c.args.words.now in
    let given : texts c.as_slice.result.now ≡ after_dashes words = search rules in
    let t = taken _ c.in-Some.matches c.args.count c.requires.0 c.requires.1 words (c.in_ok-matches.ensures words given) c.in-Some.is in
    let P : Option (List Text) → Type 0 = λ o. IfOk c.values_of.result (λ taken. option_map (λ v. map string_bytes v.items) taken ≡ o) in
    subst P (sym t.2) (c.values_of.ensures words t.0 t.1)
