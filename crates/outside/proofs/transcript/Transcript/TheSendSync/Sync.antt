use denote.Param.Send.{IsSync, part_keyless}
use Rattle.outside.specs.contracts.transcript.Transcript.{the_row}
use Rattle.outside.proofs.transcript.Transcript.TheSendSync.Send.{send}

pub sync : IsSync the_row
sync = record { shared = λ d b o κ q. part_keyless the_row send q d b o }
