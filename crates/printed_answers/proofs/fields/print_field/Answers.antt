use Rattle.std.proofs.Common.{◌≡◌, ◌∙◌, ℕ, List, [], ◌∷◌, ◌++◌, refl, ap, subst, rules, inl, inr}
use Rattle.std.specs.Prelude.{Err}
use Rattle.std.specs.Io.BufRead.{strip_last}
use Rattle.structured_fields.specs.declared.fault.FieldFault.{FieldFault}
use Rattle.printed_answers.specs.Fields.{HasCanonical, HasNoValue, IsCanonical}
use Rattle.command_inputs.proofs.Inputs.{input_whole}
use Rattle.printed_answers.proofs.fields.print_field.Goals as goal

pub returns-in-Ok-canonical_text-clause-prints : goal.returns-in-Ok-canonical_text-clause-prints
returns-in-Ok-canonical_text-clause-prints g c = λ rest known.
    let text = c.without_newline.ensures
    ∙ ap (strip_last 10) (c.as_slice.ensures.value ∙ input_whole _ _ _ c.requires.fresh _ rest c.in-Ok.ensures.read known) in
    let H : List ℕ → Type 0 = λ t. HasCanonical c.args.kind t c.in-Ok-canonical_text.line in
    let whole : c.as_slice-in-Ok-canonical_text.result.now ≡ c.in-Ok-canonical_text.line ++ 10 ∷ [] = search rules in
    let sent = c.in-Err.ensures.sent in
    record { sent = sent.0; told = sent.2; ends = (_, inl (c.in-Ok-canonical_text.line, subst H text c.in-Ok-canonical_text.ensures, whole), sent.1) }

pub returns-in-Err-NotInGrammar-clause-prints : goal.returns-in-Err-NotInGrammar-clause-prints
returns-in-Err-NotInGrammar-clause-prints g c = λ rest known.
    let text = c.without_newline.ensures
    ∙ ap (strip_last 10) (c.as_slice.ensures.value ∙ input_whole _ _ _ c.requires.fresh _ rest c.in-Ok.ensures.read known) in
    let F : FieldFault → Type 0 = λ fault. IsCanonical c.args.kind c.without_newline.result.now (Err fault) in
    let refused = subst F c.in-Err-NotInGrammar.field-0-is c.in-Err-NotInGrammar.ensures in
    let sent = c.in-Err-write_all.ensures.sent in
    record { sent = sent.0; told = sent.2; ends = (_, inr (subst (HasNoValue c.args.kind) text refused, refl), sent.1) }
