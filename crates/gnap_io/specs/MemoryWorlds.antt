-- What a world in memory is, and how exactly its openings are answered.
use Rattle.std.specs.Prelude.{◌≡◌, ◌⊎◌, ℕ, ◌≤◌, true, false, List, All, length, Result, Ok, Err, Option, Some, None, option_map}
use Rattle.std.specs.Global.{Vec}
use Rattle.outside.specs.declared.world.WorldFault.{WorldFault}
use Rattle.outside.specs.declared.world.WorldFault.TheVariants.{Failed, OutOfMemory}
use Rattle.gnap_io.specs.FaultPlans.{Plan, new_plan, is_bad, called}
use Rattle.gnap_io.specs.MemoryForms.{SourceForm, GearForm, LinkForm, new_source, bytes_of}
use Rattle.gnap_io.specs.Named.{found_under, without}
use Rattle.outside.specs.Worlds.{WorldState, new_world}

-- what every world counts and keeps; the named files, and the gears and links at addresses, that are to come; and which openings fail
pub record WorldForm : Type 0 where
  pub state : WorldState
  pub files : List (List ℕ × SourceForm)
  pub gears : List (List ℕ × Vec GearForm)
  pub links : List (List ℕ × LinkForm)
  pub opens : Plan

abbrev pub unopened_world : List (List ℕ × SourceForm) → List (List ℕ × Vec GearForm) → List (List ℕ × LinkForm) → List ℕ → WorldForm
unopened_world files gears links bad_opens = record { state = new_world; files = files; gears = gears; links = links; opens = new_plan bad_opens }

-- the bytes of the file of this name
abbrev pub text_of : List (List ℕ × SourceForm) → List ℕ → Option (List ℕ)
text_of files name = option_map bytes_of (found_under files name)

-- An opening was answered: the call counts, and these gears and links are still to come.
abbrev pub IsAfterOpening : WorldForm → WorldForm → List (List ℕ × Vec GearForm) → List (List ℕ × LinkForm) → Type 0
IsAfterOpening before after gears links = after ≡ record before { state = after.state; gears = gears; links = links; opens = called before.opens }

-- The answer to the opening of a file. It fails exactly where its number is bad or no file has the name; memory may run out.
abbrev pub OpensFile : List ℕ → WorldForm → WorldForm → Result SourceForm WorldFault → Type 0
OpensFile name before after (Ok file) = (is_bad before.opens ≡ false)
    × ((source : SourceForm) × (found_under before.files name ≡ Some source) × (file ≡ new_source (bytes_of source) source.reads.bad))
    × IsAfterOpening before after before.gears before.links
OpensFile name before after (Err Failed) = ((is_bad before.opens ≡ true) ⊎ (found_under before.files name ≡ None))
    × IsAfterOpening before after before.gears before.links
OpensFile name before after (Err OutOfMemory) = (is_bad before.opens ≡ false) × IsAfterOpening before after before.gears before.links

-- so many gears, each for so many connections at most
abbrev pub AreWithin : ℕ → ℕ → List GearForm → Type 0
AreWithin n quota gears = (length gears ≡ n) × All (λ gear. length gear.waiting ≤ quota) gears

-- The answer to a start of gears. It fails exactly where its number is bad, or no gears are at the address, or not so many within the quota.
abbrev pub StartsGears : List ℕ → ℕ → ℕ → WorldForm → WorldForm → Result (Vec GearForm) WorldFault → Type 0
StartsGears address n quota before after (Ok gears) = (is_bad before.opens ≡ false) × (found_under before.gears address ≡ Some gears)
    × IsAfterOpening before after (without before.gears address) before.links
StartsGears address n quota before after (Err Failed) =
    ((is_bad before.opens ≡ true) ⊎ ((gears : Vec GearForm) → found_under before.gears address ≡ Some gears → ¬ AreWithin n quota gears.items))
    × IsAfterOpening before after before.gears before.links
StartsGears address n quota before after (Err OutOfMemory) = (is_bad before.opens ≡ false) × IsAfterOpening before after before.gears before.links

-- The answer to the opening of a link. It fails exactly where its number is bad or no link is at the address; memory may run out.
abbrev pub OpensLink : List ℕ → WorldForm → WorldForm → Result LinkForm WorldFault → Type 0
OpensLink address before after (Ok link) = (is_bad before.opens ≡ false) × (found_under before.links address ≡ Some link)
    × IsAfterOpening before after before.gears (without before.links address)
OpensLink address before after (Err Failed) = ((is_bad before.opens ≡ true) ⊎ (found_under before.links address ≡ None))
    × IsAfterOpening before after before.gears before.links
OpensLink address before after (Err OutOfMemory) = (is_bad before.opens ≡ false) × IsAfterOpening before after before.gears before.links
