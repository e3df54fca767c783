use Rattle.std.proofs.Common.{◌≡◌, ◌∙◌, ◌+◌, List, [], ◌∷◌, ◌++◌, drop, map, suc, Some, ap, sym, add-one, append_assoc}
use Rattle.std.proofs.Math.Seq.{drop-cons}
use Rattle.gnap_model.specs.Common.{Text}
use Rattle.access_rights.specs.Masks.{mask_of}
use Rattle.access_rights.proofs.masks.masks_of.Goals as goal

pub loop-text-preserved : goal.loop-text-preserved
loop-text-preserved c =
    let f = mask_of c.args.granted.now c.args.wanted.now c.args.dimension in
    let texts = c.as_slice-text-items.result.now in
    let i = c.loop-text.text-index in
    let text = c.text-item.result in
    let masks = c.loop-text.masks.items in
    let rest = map f (map Some (drop (i + 1) texts)) in
    let first : drop i texts ≡ text ∷ drop (i + 1) texts = drop-cons texts i text c.loop-text-test.true ∙ ap (λ t. t ∷ drop (suc i) texts) (sym c.text-item.is)
    ∙ ap (λ j. text ∷ drop j texts) (sym (add-one i)) in
    ap (λ ms. ms ++ rest) c.in-Ok.ensures.ok
    ∙ append_assoc masks (c.in_ok-mask.mask ∷ []) rest
    ∙ ap (λ m. masks ++ m ∷ rest) c.in_ok-mask.ensures
    ∙ ap (λ (ts : List Text). masks ++ map f (map Some ts)) (sym first)
    ∙ c.loop-text.invariant
