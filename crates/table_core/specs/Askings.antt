-- A round of interaction in which the user is asked, by what is known of a grant.
use Rattle.std.specs.Prelude.{ℕ, ◌-◌, false, [], is_some, if◌then◌else◌}
use Rattle.std.specs.declared.option.Option.{Option}
use Rattle.std.specs.declared.option.Option.TheVariants.{None}
use Rattle.gnap_model.specs.Common.{Text}
use Rattle.gnap_model.specs.Actions.{round_for, or_zeros}
use Rattle.gnap_model.specs.declared.objects.Modes.{Modes}
use Rattle.gnap_model.specs.declared.calls.Reply.{Reply}
use Rattle.gnap_model.specs.declared.calls.Reply.TheVariants.{Pending}
use Rattle.gnap_model.specs.declared.notes.RoundNote.{RoundNote}
use Rattle.table_core.specs.Entries.{supply}
use Rattle.table_core.specs.declared.entering.Entering.{Entering}

-- the round that the entry begins in the grant with this number and this end
abbrev pub begun_round : Entering → ℕ → ℕ → Modes → RoundNote
begun_round entering number end modes = round_for (supply entering) (record { grant = number; key = []; by_object = false; user = None; end = end }) modes

-- with this continuation value
abbrev pub asking_reply : Entering → (door : Text) → RoundNote → Option Text → Reply
asking_reply entering door round instance =
    Pending door round.modes round.handle (or_zeros 8 round.code) (or_zeros 32 round.nonce) (round.until - entering.supply.moment)
    instance

-- the values of a continuation value and a round
abbrev pub asking_values : Modes → ℕ
asking_values modes = if is_some modes.finish then 3 else 2
