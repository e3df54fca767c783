use Rattle.derived_tokens.proofs.Terms.{ends_with_its_term}
use Rattle.derived_tokens.proofs.laws.ends_with_its_term.Goals as goal

pub returns : goal.returns
returns c = ends_with_its_term
