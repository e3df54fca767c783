use Rattle.std.proofs.Common.{◌∙◌, ◌+◌, ◌<◌, [], take, drop, sym, ap, arith}
use Rattle.std.proofs.Math.ListN.{drop_of_length-le, length-set}
use Rattle.serde_json.specs.View.{view, items_view}
use Rattle.call_replay.specs.CallLines.{words_from}
use Rattle.std.proofs.lemmas.List.{length-take-le}
use Rattle.call_replay.proofs.CallLines.{full, filled_up, word_next, rest_next, view_next}
use Rattle.call_replay.proofs.call_lines.words_of.Goals as goal

pub returns-then-place-eq48 : goal.returns-then-place-eq48
returns-then-place-eq48 c =
    let inv = c.loop-item.invariant in
    let values = c.deref-item-items.result.now in
    let i = c.loop-item.item-index in
    let front = take c.loop-item.place c.loop-item.words in
    sym (full front (view c.item-item.result) (items_view (drop (i + 1) values))
    (length-take-le c.loop-item.place c.loop-item.words (let size = inv.size in let at = c.if-place-eq48.true in omega (arith, size, at))
    ∙ c.if-place-eq48.true))
    ∙ ap (words_from front) (sym (view_next values i c.item-item.result c.loop-item-test.true c.item-item.is))
    ∙ inv.so_far ∙ ap (λ x. words_from [] (items_view x)) inv.items_are

pub loop-item-preserved : goal.loop-item-preserved
loop-item-preserved c =
    let inv = c.loop-item.invariant in
    let values = c.deref-item-items.result.now in
    let i = c.loop-item.item-index in
    let words = c.loop-item.words in
    let place = c.loop-item.place in
    let short : place < 48 = (let within = inv.within in let isnt = c.if-place-eq48.false in omega (arith, within, isnt)) in
    record {
      within = omega (arith, short);
      size = length-set words place c.in_ok-word.word ∙ inv.size;
      rest = rest_next words place c.in_ok-word.word short inv.rest;
      so_far = word_next words place c.in_ok-word.word (view c.item-item.result) (items_view (drop (i + 1) values))
          (let size = inv.size in omega (arith, short, size)) (sym c.as_u64.ensures ∙ c.in_ok-word.was)
          ∙ ap (words_from (take place words)) (sym (view_next values i c.item-item.result c.loop-item-test.true c.item-item.is)) ∙ inv.so_far;
      items_are = inv.items_are;
    }

pub returns : goal.returns
returns c =
    let inv = c.loop-item.invariant in
    let values = c.deref-item-items.result.now in
    let i = c.loop-item.item-index in
    let front = take c.loop-item.place c.loop-item.words in
    sym (filled_up c.loop-item.words c.loop-item.place inv.within inv.size inv.rest)
    ∙ ap (λ x. words_from front (items_view x)) (sym (drop_of_length-le values c.loop-item-test.false))
    ∙ inv.so_far ∙ ap (λ x. words_from [] (items_view x)) inv.items_are
