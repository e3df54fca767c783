-- At which of its steps a core that adds says that memory ran out.
use Rattle.std.specs.Prelude.{◌≡◌, ℕ, ◌+◌, ◌%◌, ◌<◌, vec_len, vec_capacity}
use Rattle.outside.specs.Outside.{one_more}
use Rattle.test_adding.specs.declared.adding.Call.{Call}
use Rattle.test_adding.specs.declared.adding.Call.TheVariants.{Add, Total, Lapse}
use Rattle.test_adding.specs.declared.adder.Adder.{Adder}

-- How many adds were asked for, and which it was told to refuse: each whose number, counted from 1, this divides, and none at 0.
pub record Refusals : Type 0 where
  pub adds : ℕ
  pub each : ℕ

abbrev pub refusals_of : Adder → Refusals
refusals_of core = record { adds = core.adds; each = core.refuses_each }

-- it was told to refuse this call, if it comes next
abbrev pub IsRefused : Refusals → Call → Type 0
IsRefused refusals (Add amount) = (0 < refusals.each) × (one_more refusals.adds % refusals.each ≡ 0)
IsRefused refusals Total = ⊥
IsRefused refusals Lapse = ⊥

-- a call came
abbrev pub with_call : Call → Refusals → Refusals
with_call (Add amount) refusals = record refusals { adds = one_more refusals.adds }
with_call Total refusals = refusals
with_call Lapse refusals = refusals

-- the memory that it holds has no room for one amount more
abbrev pub IsFull : Adder → Type 0
IsFull core = vec_len core.amounts ≡ vec_capacity core.amounts
