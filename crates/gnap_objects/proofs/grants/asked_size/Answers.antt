use Rattle.std.proofs.Common.{◌≡◌, ◌∙◌, ◌+◌, ◌∷◌, List, drop, map, suc, ap, sym, arith, add-one}
use Rattle.std.proofs.Math.Seq.{drop-cons}
use Rattle.std.proofs.lemmas.Grind.{common_steps}
use Rattle.json_objects.specs.Objects.{items}
use Rattle.json_objects.specs.Sizes.{capped, items_size}
use Rattle.json_objects.proofs.Lengths.{told_array}
use Rattle.gnap_model.specs.Asked.{asked_rights}
use Rattle.gnap_model.specs.declared.objects.Ask.{Ask}
use Rattle.access_rights.specs.Printing.{right_data}
use Rattle.gnap_objects.proofs.AskedSizes.{asked_size-next}
use Rattle.gnap_objects.proofs.grants.asked_size.Goals as goal

pub loop-ask-preserved : goal.loop-ask-preserved
loop-ask-preserved c =
    let asks = c.as_slice-ask-items.result.now in
    let i = c.loop-ask.ask-index in
    let size = c.loop-ask.size in
    let ask = c.ask-item.result in
    let rest = drop (i + 1) asks in
    let first : drop i asks ≡ ask ∷ rest = drop-cons asks i ask c.loop-ask-test.true ∙ ap (λ a. a ∷ drop (suc i) asks) (sym c.ask-item.is)
    ∙ ap (λ j. ask ∷ drop j asks) (sym (add-one i)) in
    record {
      size = ap (λ n. capped (n + items_size (items (map right_data (asked_rights rest)))))
          (c.saturating_add-size.ensures ∙ ap (λ n. capped (size + n)) c.listed_size.ensures)
          ∙ asked_size-next size ask rest
          ∙ ap (λ (left : List Ask). capped (size + items_size (items (map right_data (asked_rights left))))) (sym first)
          ∙ c.loop-ask.invariant.size;
      bounded = omega arith;
      fits = grind (arith, common_steps);
    }

pub returns : goal.returns
returns c =
    let all = items (map right_data (asked_rights c.args.asks.now)) in
    let told : c.loop-ask.size ≡ capped (items_size all) = grind (arith, common_steps) in
    c.enclosed_size.ensures ∙ told_array c.loop-ask.size all told
