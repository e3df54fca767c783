-- The user codes of rounds in which the user may still decide, as they are listed.
use Rattle.std.specs.Prelude.{ℕ, ◌≡◌, ◌/◌, ◌^◌, [], get_or, is_some, not, ◌&&◌, nat_lt, if◌then◌else◌}
use Rattle.std.specs.declared.option.Option.{Option}
use Rattle.std.specs.declared.option.Option.TheVariants.{None, Some}
use Rattle.gnap_model.specs.Common.{Text}
use Rattle.gnap_tables.specs.declared.rows.Round.{Round}
use Rattle.gnap_tables.proofs.Lists.{HasItem}
use Rattle.grant_states.specs.Listed.{under}
use Rattle.grant_states.specs.CodeNumbers.{number_of}
use Rattle.grant_states.specs.declared.open_codes.OpenCodes.{OpenCodes}

-- the code of a round in which the user may still decide after this moment
abbrev pub open_code : ℕ → Option Round → Option Text
open_code moment None = None
open_code moment (Some round) = if not (is_some round.decision) && nat_lt moment round.until then round.code else None

-- a grant is listed under a number, in the list of the letter with which the number's code begins
abbrev pub HasCode : OpenCodes → ℕ → ℕ → Type 0
HasCode codes code number = HasItem (get_or codes.lists.items (code / 20 ^ 7) []) (under code number)

-- it is the number of this code
abbrev pub IsCodeIn : ℕ → Option Text → Type 0
IsCodeIn code None = ⊥
IsCodeIn code (Some text) = number_of text ≡ Some code

-- the grant is listed under the number of the code
abbrev pub IsCodeListed : OpenCodes → ℕ → Text → Type 0
IsCodeListed codes number text = (code : ℕ) × (number_of text ≡ Some code) × HasCode codes code number
