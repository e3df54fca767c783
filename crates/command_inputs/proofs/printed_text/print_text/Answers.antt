use Rattle.std.proofs.Common.{ℕ, List, refl, subst, inl}
use Rattle.bytes_and_lists.specs.Prefixes.{IsPrefix}
use Rattle.command_inputs.proofs.printed_text.print_text.Goals as goal

pub returns-in-Err-clause-prints : goal.returns-in-Err-clause-prints
returns-in-Err-clause-prints g c =
    let sent = c.in-Err.ensures.sent in
    let P : List ℕ → Type 0 = λ text. IsPrefix sent.0 text in
    record { sent = sent.0; told = sent.2; ends = (c.args.text.now, inl refl, subst P c.as_slice.ensures.value sent.1) }
