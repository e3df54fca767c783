use Rattle.std.proofs.Common.{rules, ◌≡◌, ◌<◌, ◌∷◌, [], ◌++◌, length, map, string_bytes, ap, ap₂, sym, ◌∙◌, subst, Some}
use Rattle.std.proofs.lemmas.List.{map-append}
use Rattle.clap.specs.Matches.{first_value, found_of}
use Rattle.command_words.specs.Positionals.{name_of}
use Rattle.command_words.proofs.Refusals.{one_more}
use Rattle.command_words.proofs.positionals.values_of.Goals as goal

pub loop-place-preserved : goal.loop-place-preserved
loop-place-preserved c = λ words number has.
    let place = c.loop-place.place in
    let value_is : Some c.in-Some.value.now ≡ first_value (found_of c.args.matches.now) (name_of place) = search rules in
    let text_is : string_bytes c.in_ok-from_str.field-0 ≡ c.in-Some.value.now = search rules in
    let pushed : c.push.new.self.items ≡ c.loop-place.values.items ++ c.in_ok-from_str.field-0 ∷ [] = search rules in
    let before : map string_bytes c.loop-place.values.items ≡ _ = c.loop-place.invariant words number has in
    let below : place < length words = subst (λ n. place < n) (sym number) c.loop-place-test.true in
    ap (map string_bytes) pushed ∙ map-append string_bytes c.loop-place.values.items (c.in_ok-from_str.field-0 ∷ [])
    ∙ ap₂ (λ xs x. xs ++ x ∷ []) before text_is ∙ one_more (found_of c.args.matches.now) words has place below c.in-Some.value.now value_is
