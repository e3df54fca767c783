-- What each command opens, and whether it has workers.
use Rattle.std.specs.Prelude.{ℕ, List, [], ◌∷◌, Bool, true, false, Option, Some, None}
use Rattle.outside.specs.declared.world.Opening.{Opening}
use Rattle.outside.specs.declared.world.Opening.TheVariants.{File, Gears, Link}
use Rattle.command_words.specs.declared.command.Command.{Command}
use Rattle.command_words.specs.declared.command.Command.TheVariants.{Replay, Field, Sign, Verify, Serve, Rs, Client, Hash, Load}
use Rattle.command_words.specs.declared.command.Service.{Service}
use Rattle.command_words.specs.declared.command.Service.TheVariants.{Grants, Derivations, Sets}
use Rattle.command_words.specs.declared.command.ServedSetup.{ServedSetup}

-- ---- whom they wait for

-- whether a command has workers: then threads are started, and a worker may wait for its turn at what they share
abbrev pub has_workers : Command → Bool
has_workers (Replay file) = false
has_workers (Field kind file) = false
has_workers (Sign config key created file _) = false
has_workers (Verify config now file) = false
has_workers (Serve service served) = true
has_workers (Rs config listen server quota cache) = false
has_workers (Client config address script) = false
has_workers (Hash texts) = false
has_workers (Load grants start workers) = true

-- ---- what they open

-- what is opened behind the setup that is served
abbrev pub service_openings : Service → ServedSetup → List Opening
service_openings Grants served = Gears served.listen served.workers served.quota ∷ []
service_openings (Derivations pairs) served = File pairs ∷ Gears served.listen served.workers served.quota ∷ []
service_openings Sets served = Gears served.listen served.workers served.quota ∷ []

-- what a command opens, in order
abbrev pub openings_of : Command → List Opening
openings_of (Replay file) = File file ∷ []
openings_of (Field kind file) = File file ∷ []
openings_of (Sign config key created file _) = File config ∷ File file ∷ []
openings_of (Verify config now file) = File config ∷ File file ∷ []
openings_of (Serve service served) = File served.config ∷ service_openings service served
openings_of (Rs config listen server quota cache) = File config ∷ Link server ∷ Gears listen 1 quota ∷ []
openings_of (Client config address script) = File config ∷ Link address ∷ File script ∷ []
openings_of (Hash texts) = []
openings_of (Load grants start workers) = []

-- how many connections each gear of a command is to serve
abbrev pub quota_of : Command → Option ℕ
quota_of (Replay file) = None
quota_of (Field kind file) = None
quota_of (Sign config key created file _) = None
quota_of (Verify config now file) = None
quota_of (Serve service served) = Some served.quota
quota_of (Rs config listen server quota cache) = Some quota
quota_of (Client config address script) = None
quota_of (Hash texts) = None
quota_of (Load grants start workers) = None

-- which of the files that a command opens is the input that may be too long, counted from 0; none where it has no such input
abbrev pub input_place : Command → Option ℕ
input_place (Replay file) = Some 0
input_place (Field kind file) = Some 0
input_place (Sign config key created file _) = None
input_place (Verify config now file) = None
input_place (Serve service served) = None
input_place (Rs config listen server quota cache) = None
input_place (Client config address script) = Some 1
input_place (Hash texts) = None
input_place (Load grants start workers) = None
