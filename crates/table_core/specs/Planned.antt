-- The calls that come to a plan, with all their memory, before a table changes.
use Rattle.gnap_model.specs.declared.calls.Call.{Call}
use Rattle.gnap_model.specs.declared.calls.Call.TheVariants.{Begin, Continue, Modify, Look, FindCode, Decide}

abbrev pub IsPlanned : Call → Type 0
IsPlanned (Begin key request not_after) = Unit {0}
IsPlanned (Continue key value reference) = Unit {0}
IsPlanned (Modify key value request) = Unit {0}
IsPlanned (Look front handle) = Unit {0}
IsPlanned (FindCode front code) = Unit {0}
IsPlanned (Decide front request) = Unit {0}
IsPlanned _ = ⊥
