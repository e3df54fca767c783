use Rattle.histories.specs.History.{notes_of}
use Rattle.gnap_model.specs.Legal.{HasFewAsks}
use Rattle.table_laws.proofs.TablesThroughCalls.{legal_notes, row_answer_is}
use Rattle.table_laws.proofs.laws.rows_answer.Goals as goal

pub returns : goal.returns
returns c = λ rules h now draw call legal. row_answer_is rules (notes_of h) now draw call (legal_notes HasFewAsks rules h (λ call fits. fits) legal).whole
