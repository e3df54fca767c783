-- Where memory ran out.
use Rattle.std.specs.Prelude.{Bool, true, false, Result, Ok, Err}
use Rattle.gnap_client.specs.declared.client.Took.{Took}
use Rattle.gnap_client.specs.declared.client.ClientFault.{ClientFault}
use Rattle.gnap_client.specs.declared.client.ClientFault.TheVariants as faults

abbrev pub is_memory : Result Took ClientFault → Bool
is_memory (Ok took) = false
is_memory (Err faults.OutOfMemory) = true
is_memory (Err faults.NotInGrammar) = false
is_memory (Err (faults.HashDiffers wanted found)) = false
is_memory (Err (faults.WrongState state)) = false
is_memory (Err (faults.NoToken held)) = false
is_memory (Err (faults.Refused code)) = false
is_memory (Err faults.LinkFault) = false
