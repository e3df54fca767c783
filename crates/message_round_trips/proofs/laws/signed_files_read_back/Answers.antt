use Rattle.message_round_trips.proofs.FilesAgain.{files_read_back}
use Rattle.message_round_trips.proofs.laws.signed_files_read_back.Goals as goal

pub returns : goal.returns
returns c = files_read_back
