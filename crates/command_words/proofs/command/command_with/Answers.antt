use Rattle.std.proofs.Common.{rules, ◌≡◌, List, ℕ, map, length, string_bytes, sym, subst, Some, None}
use Rattle.std.proofs.lemmas.List.{length-map}
use Rattle.command_words.specs.Positionals.{exactly}
use Rattle.command_words.specs.Commands.{AreRead, counts_of, count_among, command_named}
use Rattle.command_words.proofs.WordCounts.{miscounted, unnamed, read_again}
use Rattle.command_words.proofs.command.command_with.Goals as goal

pub returns-in_default-clause-read : goal.returns-in_default-clause-read
returns-in_default-clause-read c =
    let none : counts_of c.args.name.now ≡ None = search rules in
    unnamed c.args.name.now (map string_bytes c.args.arguments.now) none

pub returns-in-Ok-Some-clause-read : goal.returns-in-Ok-Some-clause-read
returns-in-Ok-Some-clause-read c =
    let words : List (List ℕ) = map string_bytes c.args.arguments.now in
    let own : List (List ℕ) = map string_bytes c.in-Ok-Some.taken.items in
    let same : Some own ≡ exactly c.count_among-count.result words = search rules in
    let items : c.as_slice.result.now ≡ c.in-Ok-Some.taken.items = search rules in
    read_again c.command_named.result c.args.name.now c.count_among-count.result words own same
    (subst (λ ws. AreRead c.command_named.result (map string_bytes ws) (command_named c.args.name.now (map string_bytes ws))) items
    c.command_named.ensures.read)

pub returns-in-Ok-None-clause-read : goal.returns-in-Ok-None-clause-read
returns-in-Ok-None-clause-read c =
    let words : List (List ℕ) = map string_bytes c.args.arguments.now in
    let counts : counts_of c.args.name.now ≡ Some (c.in-Some.least, c.in-Some.most) = search rules in
    let many : length words ≡ length c.args.arguments.now = length-map c.args.arguments.now string_bytes in
    let given : c.count_among-count.result ≡ count_among c.in-Some.least c.in-Some.most (length c.args.arguments.now) = search rules in
    let count = subst (λ n. c.count_among-count.result ≡ count_among c.in-Some.least c.in-Some.most n) (sym many) given in
    let none : exactly c.count_among-count.result words ≡ None = search rules in
    miscounted c.args.name.now c.in-Some.least c.in-Some.most words counts (subst (λ n. exactly n words ≡ None) count none)
