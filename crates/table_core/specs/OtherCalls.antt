-- What a call other than an introspection comes to, which alone changes no table.
use Rattle.std.specs.Prelude.{◌≡◌, ◌≢◌, ◌+◌, ℕ, List}
use Rattle.std.specs.declared.option.Option.{Option}
use Rattle.gnap_model.specs.Common.{Text}
use Rattle.gnap_model.specs.declared.rights.Right.{Right}
use Rattle.gnap_model.specs.declared.objects.Binding.{Binding}
use Rattle.gnap_model.specs.declared.objects.Setup.{Setup}
use Rattle.gnap_model.specs.declared.calls.Call.{Call}
use Rattle.gnap_model.specs.declared.calls.Call.TheVariants.{Introspect}
use Rattle.gnap_model.specs.declared.calls.Reply.{Reply}
use Rattle.gnap_tables.specs.ActionsByRows.{row_action, row_supply}
use Rattle.gnap_tables.specs.StandsFor.{Kept}
use Rattle.table_core.specs.CallEffects.{ActsBy}
use Rattle.table_core.specs.declared.answered.Answered.{Answered}

abbrev pub IsNoIntrospection : Call → Type 0
IsNoIntrospection call = (server value : Text) (binding : Option Binding) (wanted : Option (List Right)) → call ≢ Introspect server value binding wanted

-- What is kept led to this reply, and what is kept then has the new tables and counts what was opened and drawn.
pub record LeadsTo (rules : Setup) (draw : List ℕ) (call : Call) (reply : Reply) (old new : Kept) : Type 0 where
  pub answered : Answered
  pub replies : answered.reply ≡ reply
  pub acts : ActsBy (row_supply old.first old.tables old.latest draw) (row_action rules old.next old.tables old.latest call) old.tables new.tables answered
  pub next : new.next ≡ old.next + answered.opened
  pub first : new.first ≡ old.first + answered.drawn
