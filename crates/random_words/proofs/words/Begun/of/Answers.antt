use Rattle.std.proofs.Common.{◌<◌, ◌∙◌, ℕ, sym, ap, arith, rules}
use Rattle.rand_chacha.specs.ChaCha.{ChaCha}
use Rattle.random_words.specs.Draws.{next_of}
use Rattle.random_words.proofs.Places.{after_one_more, one_made}
use Rattle.random_words.proofs.words.Begun.of.Goals as goal

pub loop-i-preserved : goal.loop-i-preserved
loop-i-preserved c =
    let i = c.loop-i.i in
    let few : i < 16 = omega (arith, c.loop-i-test.true, c.requires) in
    record {
      many = search rules;
      after =
          ap (λ (p : ℕ × ChaCha). p.1) c.next_u64_via_u32.ensures
          ∙ ap (λ g. (next_of g).1) c.loop-i.invariant.after
          ∙ sym (after_one_more i c.args.stream);
      words =
          one_made _ i _ c.args.stream _ _ few c.loop-i.invariant.many c.loop-i.invariant.after c.next_u64_via_u32.ensures c.loop-i.invariant.words;
    }
