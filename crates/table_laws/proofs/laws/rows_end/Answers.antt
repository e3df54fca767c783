use Rattle.histories.specs.History.{notes_of}
use Rattle.gnap_model.specs.Legal.{HasFewAsks}
use Rattle.table_laws.proofs.TablesThroughCalls.{legal_notes, kept_swept}
use Rattle.table_laws.proofs.laws.rows_end.Goals as goal

pub returns : goal.returns
returns c = λ rules h latest now legal le. kept_swept (notes_of h) latest now (legal_notes HasFewAsks rules h (λ call fits. fits) legal).whole le
