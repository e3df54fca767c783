use Rattle.gnap_model.proofs.Covering.{covers_includes}
use Rattle.gnap_laws.proofs.laws.covers_is_inclusion.Goals as goal

pub returns : goal.returns
returns c = covers_includes
