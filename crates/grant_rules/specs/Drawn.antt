-- What an entry draws, by what is known of a grant.
use Rattle.std.specs.Prelude.{ℕ, ◌+◌, min, is_some, List}
use Rattle.std.specs.declared.option.Option.{Option}
use Rattle.std.specs.declared.option.Option.TheVariants.{None, Some}
use Rattle.gnap_model.specs.Common.{Text, some_if}
use Rattle.gnap_model.specs.Limits.{interaction_time, round_time, token_time}
use Rattle.gnap_model.specs.Values.{drawn}
use Rattle.gnap_model.specs.Actions.{or_zeros, Supply as ModelSupply}
use Rattle.gnap_model.specs.declared.objects.Ask.{Ask}
use Rattle.gnap_model.specs.declared.objects.Modes.{Modes}
use Rattle.gnap_model.specs.declared.objects.Finish.{Finish}
use Rattle.gnap_model.specs.declared.calls.FinishOut.{FinishOut}
use Rattle.gnap_model.specs.declared.notes.TokenNote.{TokenNote}
use Rattle.gnap_model.specs.declared.notes.RoundNote.{RoundNote}
use Rattle.grant_rules.specs.declared.supply.Supply.{Supply}

-- in the words of the definitions, where these user codes are taken
abbrev pub supply_with : Supply → List Text → ModelSupply
supply_with supply taken = record { now = supply.moment; first = supply.first; words = supply.words.now; taken = taken }

-- the token for an ask of the grant with this number, this key and this end (RFC 9635, section 3.2.1)
abbrev pub token_drawn : Supply → ℕ → Text → ℕ → Ask → ℕ → TokenNote
token_drawn supply grant key end ask index = record {
  serial = supply.first + index;
  grant = grant;
  label = ask.label;
  rights = ask.rights;
  bearer = ask.bearer;
  key = key;
  issued = supply.moment;
  until = min (supply.moment + token_time) end;
  value = drawn supply.first supply.words.now index;
  manage = drawn supply.first supply.words.now (index + 1);
}

-- a round of the grant with this number and this end (RFC 9635, section 3.3)
abbrev pub round_drawn : Supply → ℕ → ℕ → Modes → Option Text → RoundNote
round_drawn supply grant end modes code = record {
  grant = grant;
  until = min (supply.moment + interaction_time) end;
  over = supply.moment + round_time;
  modes = modes;
  handle = drawn supply.first supply.words.now 1;
  code = code;
  nonce = some_if (is_some modes.finish) (drawn supply.first supply.words.now 2);
}

-- what the front needs to tell the client, where the round has this nonce (RFC 9635, section 4.2)
abbrev pub finish_told : Supply → Option Text → Option Finish → Option FinishOut
finish_told supply _ None = None
finish_told supply round_nonce (Some finish) = Some
    (record { finish = finish; server_nonce = or_zeros 32 round_nonce; reference = drawn supply.first supply.words.now 0 })
