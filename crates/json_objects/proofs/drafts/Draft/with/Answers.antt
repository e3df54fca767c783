use Rattle.json_objects.proofs.drafts.Draft.with.Goals as goal

pub returns : goal.returns
returns c = λ ms d value has. c.with_optional.ensures ms _ (c.present.ensures d value) has
