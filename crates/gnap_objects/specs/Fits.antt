-- What a reader gives: requests and setups that can be shown again as JSON, since their texts are UTF-8.
use Rattle.std.specs.Prelude.{List, Option, Some, None}
use Rattle.std.specs.List.{AllByRecursion}
use Rattle.std.specs.Str.{IsUtf8}
use Rattle.gnap_model.specs.declared.rights.Right.{Right}
use Rattle.gnap_model.specs.declared.objects.Ask.{Ask}
use Rattle.gnap_model.specs.declared.objects.GrantRequest.{GrantRequest}
use Rattle.gnap_model.specs.declared.objects.KeyRow.{KeyRow}
use Rattle.gnap_model.specs.declared.objects.Setup.{Setup}
use Rattle.gnap_model.specs.declared.objects.IntrospectRequest.{IntrospectRequest}
use Rattle.access_rights.specs.Fits.{Fits, IsUtf8Or}

-- one access token that is asked for
abbrev pub AskFits : Ask → Type 0
AskFits ask = IsUtf8Or ask.label × AllByRecursion Fits ask.rights

-- the texts of a grant request but for those of its ways to interact
abbrev pub RequestFits : GrantRequest → Type 0
RequestFits request = AllByRecursion AskFits request.asks × IsUtf8Or request.client × IsUtf8Or request.user

abbrev pub WantedFit : Option (List Right) → Type 0
WantedFit None = Unit {0}
WantedFit (Some rights) = AllByRecursion Fits rights

-- the texts of an introspection
abbrev pub IntrospectionFits : IntrospectRequest → Type 0
IntrospectionFits request = IsUtf8 request.value × IsUtf8 request.server × WantedFit request.wanted

pub record KeyFits (k : KeyRow) : Type 0 where
  pub id : IsUtf8 k.id
  pub auto_rights : AllByRecursion Fits k.auto_rights
  pub ask_rights : AllByRecursion Fits k.ask_rights
  pub serves : AllByRecursion IsUtf8 k.serves

-- the texts of a setup are UTF-8
pub record SetupFits (s : Setup) : Type 0 where
  pub base : IsUtf8 s.base
  pub front : IsUtf8 s.front
  pub keys : AllByRecursion KeyFits s.keys
