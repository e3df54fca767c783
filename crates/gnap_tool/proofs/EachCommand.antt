-- What holds of each command.
use Rattle.std.proofs.Common.{◌≡◌, ◌⊎◌, ℕ, List, [], refl, sym, subst, inl, inr}
use Rattle.std.specs.Prelude.{Option}
use Rattle.outside.specs.Outside.{Told}
use Rattle.outside.specs.Worlds.{WorldState}
use Rattle.outside.specs.declared.world.Opening.{Opening}
use Rattle.outside.specs.Openings.{Gives}
use Rattle.outside.proofs.Devices.{writes_none}
use Rattle.command_inputs.specs.declared.ended.Ended.{Ended}
use Rattle.command_inputs.specs.declared.ended.Ended.TheVariants.{Done, NoSetup, Failed, WriteFault, Memory, Refused, TooLong}
use Rattle.command_inputs.specs.Ends.{status_of}
use Rattle.command_words.specs.declared.command.Command.{Command}
use Rattle.command_words.specs.declared.command.Command.TheVariants.{Replay, Field, Sign, Verify, Serve, Rs, Client, Hash, Load}
use Rattle.gnap_tool.specs.Openings.{openings_of, quota_of, input_place}
use Rattle.gnap_tool.specs.Runs.{CarriesOut}
use Rattle.world_uses.specs.Uses.{UsesWorld}

-- where memory ran out before anything was opened
pub starved_carries : (command : Command) (text : List ℕ → Option (List ℕ)) (world : WorldState) (out : Told)
    → CarriesOut command text world world out out Memory
starved_carries (Replay file) text world out = inl (refl, (refl, inr refl))
starved_carries (Field kind file) text world out = inl (refl, (refl, inr refl))
starved_carries (Sign config key created file _) text world out = inl (refl, (refl, inr refl))
starved_carries (Verify config now file) text world out = inl (refl, (refl, inr refl))
starved_carries (Serve service served) text world out = inl (refl, (refl, inr refl))
starved_carries (Rs config listen server quota cache) text world out = inl (refl, (refl, inr refl))
starved_carries (Client config address script) text world out = inl (refl, (refl, inr refl))
starved_carries (Hash texts) text world out = (refl, (record { sent = []; told = writes_none out; ends = refl }, inr (inr refl)))
starved_carries (Load grants start workers) text world out = (refl, (record { sent = []; told = writes_none out; ends = refl }, inr (inr refl)))

-- a command that is known to be this one
module _ (named : Command) (before after : WorldState) (ended : Ended) (command : Command) (is : command ≡ named) where
  pub carried_as : (text : List ℕ → Option (List ℕ)) (out out_now : Told) → CarriesOut named text before after out out_now ended
      → CarriesOut command text before after out out_now ended
  carried_as text out out_now carried = subst (λ (c : Command). CarriesOut c text before after out out_now ended) (sym is) carried

  pub used_as : UsesWorld (openings_of named) (input_place named) before after ended → UsesWorld (openings_of command) (input_place command) before after ended
  used_as uses = subst (λ (c : Command). UsesWorld (openings_of c) (input_place c) before after ended) (sym is) uses

  pub quota_as : (P : Option ℕ → Type 0) → P (quota_of named) → P (quota_of command)
  quota_as P holds = subst (λ (c : Command). P (quota_of c)) (sym is) holds

-- at the statuses 0 and 7 a command was carried out, so all was opened and is back
pub all_at_0 : (openings : List Opening) (input : Option ℕ) (before after : WorldState) (ended : Ended) → UsesWorld openings input before after ended
    → (status_of ended ≡ 0) ⊎ (status_of ended ≡ 7) → Gives openings before after
all_at_0 openings input before after Done uses is = uses.all (inl refl)
all_at_0 openings input before after Refused uses is = uses.all (inr refl)
all_at_0 openings input before after (NoSetup why) uses (inl is) = absurd cc
all_at_0 openings input before after (NoSetup why) uses (inr is) = absurd cc
all_at_0 openings input before after Failed uses (inl is) = absurd cc
all_at_0 openings input before after Failed uses (inr is) = absurd cc
all_at_0 openings input before after WriteFault uses (inl is) = absurd cc
all_at_0 openings input before after WriteFault uses (inr is) = absurd cc
all_at_0 openings input before after Memory uses (inl is) = absurd cc
all_at_0 openings input before after Memory uses (inr is) = absurd cc
all_at_0 openings input before after TooLong uses (inl is) = absurd cc
all_at_0 openings input before after TooLong uses (inr is) = absurd cc
