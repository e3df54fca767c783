use Rattle.std.proofs.Common.{sym, ◌∙◌, ap}
use Rattle.std.proofs.lemmas.Slice.Eq.{bytes_eq-Decides}
use Rattle.content_digest.specs.Digest.{text_of_digest}
use Rattle.content_digest.proofs.DigestLine.{line_checked}
use Rattle.content_digest.proofs.checking.judge_field.Goals as goal

pub returns-then-eq : goal.returns-then-eq
returns-then-eq c = line_checked c.args.field.now c.args.body.now
    ((bytes_eq-Decides _ _).0 (sym c.eq.ensures ∙ c.if-eq.true) ∙ c.as_slice.ensures ∙ c.text_of_digest.ensures ∙ ap text_of_digest c.digest-digest.ensures)
