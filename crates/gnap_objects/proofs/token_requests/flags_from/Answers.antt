use Rattle.std.proofs.Common.{◌≡◌, ◌||◌, ℕ, Bool, not, List, [], ◌∷◌, ◌++◌, Some, codes, sym, ap, ◌∙◌}
use Rattle.std.proofs.Math.Bool.{not-not, or_comm}
use Rattle.std.specs.Str.{bytes_eq}
use Rattle.serde_json.specs.Data.{Data, Items, item}
use Rattle.serde_json.specs.Find.{as_str}
use Rattle.json_objects.proofs.Items.{items_view-drop}
use Rattle.gnap_objects.specs.Reading.{text_of}
use Rattle.gnap_objects.specs.TokenRequests.{has_flag, flags_from}
use Rattle.gnap_objects.proofs.OneMore.{any_more}
use Rattle.gnap_objects.proofs.token_requests.flags_from.Goals as goal

next : (before : List (List ℕ)) (repeated new : Bool) (d : Data) (ds : Items) (flag : List ℕ) → Some flag ≡ as_str d → new ≡ not (has_flag flag before)
    → flags_from (before ++ flag ∷ []) (repeated || not new) ds ≡ flags_from before repeated (item d ds)
unfolding text_of
next before repeated new d ds flag is e = rw (← is) (ap (λ r. flags_from (before ++ flag ∷ []) (repeated || r) ds) (ap not e ∙ not-not _))

pub loop-item-preserved : goal.loop-item-preserved
loop-item-preserved c =
    let before = c.loop-item.invariant.0 in
    let flag = c.in-Some.flag.now in (
      before ++ flag ∷ [],
      next before c.loop-item.repeated c.in_ok-new.new _ _ flag c.in-Some.ensures (c.in_ok-new.ensures.new ∙ ap not (c.loop-item.invariant.2 flag))
          ∙ ap (flags_from before c.loop-item.repeated)
          (sym (items_view-drop c.deref-item-items.result.now c.loop-item.item-index c.item-item.result c.loop-item-test.true c.item-item.is))
          ∙ c.loop-item.invariant.1,
      λ other. c.in_ok-new.ensures.added other ∙ ap (λ b. bytes_eq flag other || b) (c.loop-item.invariant.2 other)
          ∙ any_more (λ f. bytes_eq f other) before flag,
      or_comm c.loop-item.bearer c.eq-bearer.result
          ∙ rw (c.eq-bearer.ensures, c.loop-item.invariant.3) (any_more (λ f. bytes_eq f (codes "bearer")) before flag),
    )
