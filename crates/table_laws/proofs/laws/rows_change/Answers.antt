use Rattle.histories.specs.History.{notes_of}
use Rattle.gnap_model.specs.Legal.{HasFewAsks}
use Rattle.table_laws.proofs.TablesThroughCalls.{legal_notes, kept_noted}
use Rattle.table_laws.proofs.laws.rows_change.Goals as goal

pub returns : goal.returns
returns c = λ rules h now draw call legal. kept_noted rules (notes_of h) now draw call (legal_notes HasFewAsks rules h (λ call fits. fits) legal)
