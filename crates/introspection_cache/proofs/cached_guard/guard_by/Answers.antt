use Rattle.std.proofs.Common.{◌∙◌, refl}
use Rattle.introspection_cache.proofs.Putting.{starved_now, again_now, anew_step}
use Rattle.introspection_cache.proofs.cached_guard.guard_by.Goals as goal

pub returns-in_default-clause-guards : goal.returns-in_default-clause-guards
returns-in_default-clause-guards g c = starved_now _ _ _ _ _

pub returns-in_default-introspection_text-clause-guards : goal.returns-in_default-introspection_text-clause-guards
returns-in_default-introspection_text-clause-guards g c = starved_now _ _ _ _ _

pub returns-in-Some-clause-guards : goal.returns-in-Some-clause-guards
returns-in-Some-clause-guards g c = again_now c.args.setup.now c.args.message.now c.args.now c.args.i (c.args.scheme, c.args.value.now) c.at.result.now
    c.in-Ok.wanted c.as_slice.result.now _ _ _ _ _ c.in-Some.given
    c.requires.place c.at.ensures c.in-Ok.ensures.value (c.as_slice.ensures.value ∙ c.in-Ok-introspection_text.ensures) c.in-Some.ensures.capacity
    c.in-Some.ensures.again

pub returns-clause-guards : goal.returns-clause-guards
returns-clause-guards g c = anew_step c.args.setup.now c.args.message.now c.args.now c.args.i (c.args.scheme, c.args.value.now) c.at.result.now c.in-Ok.wanted
    c.in-Ok-introspection_text.text c.as_slice.result.now c.as_slice-in-None.result.now _ _ _ _ _ _ _ _ _ _ c.ask_anew.result
    c.requires.place c.at.ensures c.in-Ok.ensures.value c.in-Ok-introspection_text.ensures c.as_slice.ensures.value c.as_slice-in-None.ensures.value
    c.in-None.ensures.capacity c.forget.ensures.capacity c.ask_anew.ensures.capacity (c.in-None.ensures.none refl) c.forget.ensures.kept c.ask_anew.ensures.anew
