-- Which calls come to a plan: all but those that are answered at once. They take memory. Of those that take none no nonce is remembered.
use Rattle.std.proofs.Common.{◌≡◌, ◌≢◌, false, List, Option, refl}
use Rattle.gnap_model.specs.Common.{Text}
use Rattle.gnap_model.specs.declared.rights.Right.{Right}
use Rattle.gnap_model.specs.declared.objects.Binding.{Binding}
use Rattle.gnap_model.specs.declared.calls.Call.{Call}
use Rattle.gnap_model.specs.declared.calls.Call.TheVariants.{Begin, Continue, Modify, Cancel, Rotate, Revoke, Introspect, Look, FindCode, Decide, Lapse}
use Rattle.signed_calls.specs.Marks.{is_remembered}
use Rattle.table_core.specs.Frugal.{IsFrugal}
use Rattle.table_core.specs.Planned.{IsPlanned}

pub planned_else : (call : Call)
    → ((server value : Text) (binding : Option Binding) (wanted : Option (List Right)) → call ≢ Introspect server value binding wanted)
    → ((key value : Text) → call ≢ Cancel key value) → ((key value : Text) → call ≢ Revoke key value)
    → ((key value : Text) (new_key : Option Text) → call ≢ Rotate key value new_key)
    → call ≢ Lapse → IsPlanned call
planned_else (Begin key request not_after) introspects cancels revokes rotates lapses = tt
planned_else (Continue key value reference) introspects cancels revokes rotates lapses = tt
planned_else (Modify key value request) introspects cancels revokes rotates lapses = tt
planned_else (Look front handle) introspects cancels revokes rotates lapses = tt
planned_else (FindCode front code) introspects cancels revokes rotates lapses = tt
planned_else (Decide front request) introspects cancels revokes rotates lapses = tt
planned_else (Introspect server value binding wanted) introspects cancels revokes rotates lapses = absurd (introspects server value binding wanted refl)
planned_else (Cancel key value) introspects cancels revokes rotates lapses = absurd (cancels key value refl)
planned_else (Revoke key value) introspects cancels revokes rotates lapses = absurd (revokes key value refl)
planned_else (Rotate key value new_key) introspects cancels revokes rotates lapses = absurd (rotates key value new_key refl)
planned_else Lapse introspects cancels revokes rotates lapses = absurd (lapses refl)

pub frugal_unplanned : (call : Call) → IsPlanned call → IsFrugal call → ⊥
frugal_unplanned (Begin key request not_after) planned frugal = frugal
frugal_unplanned (Continue key value reference) planned frugal = frugal
frugal_unplanned (Modify key value request) planned frugal = frugal
frugal_unplanned (Look front handle) planned frugal = frugal
frugal_unplanned (FindCode front code) planned frugal = frugal
frugal_unplanned (Decide front request) planned frugal = frugal
frugal_unplanned (Introspect server value binding wanted) planned frugal = frugal
frugal_unplanned (Cancel key value) planned frugal = planned
frugal_unplanned (Revoke key value) planned frugal = planned
frugal_unplanned (Rotate key value new_key) planned frugal = frugal
frugal_unplanned Lapse planned frugal = frugal

pub frugal_unremembered : (call : Call) → IsFrugal call → is_remembered call ≡ false
frugal_unremembered (Cancel key value) frugal = refl
frugal_unremembered (Revoke key value) frugal = refl
frugal_unremembered (Begin key request not_after) frugal = absurd frugal
frugal_unremembered (Continue key value reference) frugal = absurd frugal
frugal_unremembered (Modify key value request) frugal = absurd frugal
frugal_unremembered (Look front handle) frugal = absurd frugal
frugal_unremembered (FindCode front code) frugal = absurd frugal
frugal_unremembered (Decide front request) frugal = absurd frugal
frugal_unremembered (Introspect server value binding wanted) frugal = absurd frugal
frugal_unremembered (Rotate key value new_key) frugal = absurd frugal
frugal_unremembered Lapse frugal = absurd frugal
