use Rattle.std.proofs.Common.{◌≡◌, ℕ, List, subst, inl, inr}
use Rattle.command_inputs.specs.Printing.{PrintsAnswer}
use Rattle.printed_answers.proofs.hash_lines.print_hash.Goals as goal

pub returns-in-Ok-clause-prints : goal.returns-in-Ok-clause-prints
returns-in-Ok-clause-prints g c =
    let before = g.O.Device.told c.args.out.now in
    let after = g.O.Device.told c.print_text.new.out in
    let P : List ℕ → Type 0 = λ text. PrintsAnswer (λ line. line ≡ text) (λ line. ⊥) before after c.print_text.result in
    (subst P c.in-Ok.ensures c.print_text.ensures.prints, elim c.print_text.ensures.ended [ inl done ↦ inl done | inr fault ↦ inr (inl fault) ])
