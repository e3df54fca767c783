use Rattle.std.proofs.lemmas.Bool.Decides.{Decides-eqb}
use Rattle.std.proofs.lemmas.Slice.Eq.{strip_prefix_is}
use Rattle.std.proofs.Common.{Some}
use Rattle.structured_fields.proofs.SoleMember.{coded_behind}
use Rattle.structured_fields.proofs.sole_member.coded_under.Goals as goal

pub returns : goal.returns
returns c = coded_behind c.args.key.now c.args.text.now c.in_ok-strip_prefix.field-0.now c.between_colons.result
    (strip_prefix_is Decides-eqb c.args.text.now c.args.key.now (Some c.in_ok-strip_prefix.field-0) c.in_ok-strip_prefix.ensures.cases)
    c.between_colons.ensures
