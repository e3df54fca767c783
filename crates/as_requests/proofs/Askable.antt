-- A call that a reader gave, with a mark that fits, is taken by the machine.
use Rattle.std.proofs.Common.{◌≢◌, ap}
use Rattle.std.specs.declared.option.Option.{Option}
use Rattle.gnap_model.specs.declared.calls.Call.{Call}
use Rattle.gnap_objects.specs.CallReading.{MachineTakes}
use Rattle.signed_calls.specs.declared.signed.Mark.{Mark}
use Rattle.signed_calls.specs.declared.signed.Signed.{Signed}
use Rattle.signed_calls.specs.Marks.{unmarked_lapse}
use Rattle.grant_machine.specs.Gnap.{MarkFits, SignedFits}

module _ (mark : Option Mark) (call : Call) (mark_fits : MarkFits mark) (takes : MachineTakes call) where
  abbrev signed : Signed
  signed = record { mark = mark; call = call }

  pub signed_fits : SignedFits signed
  signed_fits = record { call = (takes.0, takes.1); mark = mark_fits; lapse = λ is. absurd (takes.2 is) }

  pub no_lapse : signed ≢ unmarked_lapse
  no_lapse is = takes.2 (ap (λ (s : Signed). s.call) is)
