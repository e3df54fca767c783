use Rattle.std.proofs.Common.{IsUtf8, subst, sym, ap, ◌∙◌}
use Rattle.std.proofs.lemmas.Str.{IsUtf8-had}
use Rattle.interaction.proofs.hashes.encoded.Goals as goal

pub returns-clause-utf8 : goal.returns-clause-utf8
returns-clause-utf8 c = subst IsUtf8 (sym (c.from_vec.ensures ∙ ap (λ v. v.items) c.into_bytes.ensures.value)) (IsUtf8-had _ c.in_ok-text.text.ok)
