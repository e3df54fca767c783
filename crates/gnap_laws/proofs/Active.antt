-- An introspection is answered Active exactly where the live token suits it and no wanted right is unserved.
use Rattle.std.proofs.Common.{◌≡◌, Bool, true, false, List, refl, reverse, Option, Some, None}
use Rattle.std.specs.Prelude.{if◌then◌else◌, ◌&&◌}
use Rattle.gnap_model.specs.Common.{Text}
use Rattle.gnap_laws.specs.Types.{Right, Binding, TokenNote}
use Rattle.gnap_model.specs.Keys.{key_of, server_names}
use Rattle.gnap_model.specs.declared.objects.ErrorCode.TheVariants.{InvalidAccess}
use Rattle.gnap_model.specs.Standing.{live_token}
use Rattle.gnap_model.specs.Judging.{suits, serves_all, token_suits}
use Rattle.gnap_model.specs.Actions.{Supply, outcome_of}
use Rattle.gnap_model.specs.Actions.Action.{Refuse, ShowToken, ShowInactive}
use Rattle.gnap_model.specs.Begin.{show_token}
use Rattle.gnap_model.specs.Answer.{supply_of}
use Rattle.gnap_laws.specs.Provenance.{is_active}
use Rattle.gnap_laws.specs.Laws.{SaysActive}

shown_active : (supply : Supply) (access : List Right) (t : TokenNote) (b : Bool)
    → is_active (outcome_of supply (if b then ShowToken access t else ShowInactive)).reply ≡ b
shown_active supply access t true = refl
shown_active supply access t false = refl

told_active : (supply : Supply) (names : List Text) (binding : Option Binding) (wanted : Option (List Right)) (t : Option TokenNote)
    → is_active (outcome_of supply (show_token names binding wanted t)).reply ≡ token_suits names binding wanted t
told_active supply names binding wanted None = refl
told_active supply names binding wanted (Some t) = shown_active supply _ t (suits names binding wanted t.rights t.bearer)

served_active : (supply : Supply) (names : List Text) (binding : Option Binding) (wanted : Option (List Right)) (t : Option TokenNote) (b : Bool)
    → is_active (outcome_of supply (if b then show_token names binding wanted t else Refuse InvalidAccess)).reply ≡ (b && token_suits names binding wanted t)
served_active supply names binding wanted t true = told_active supply names binding wanted t
served_active supply names binding wanted t false = refl

pub says : SaysActive
says rules notes now draw server value binding wanted =
    served_active (supply_of (reverse notes) now draw) (server_names (key_of rules server)) binding wanted (live_token (reverse notes) now value)
    (serves_all (server_names (key_of rules server)) wanted)
