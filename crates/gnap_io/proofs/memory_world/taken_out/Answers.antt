use Rattle.std.proofs.Common.{◌∙◌, ◌<◌, length, sym, subst, arith}
use Rattle.std.specs.List.{SameBelow, ShiftedDown}
use Rattle.std.proofs.lemmas.List.Edits.{get_or-remove_below, get_or-remove_above}
use Rattle.gnap_io.proofs.NamedLemmas.{place-found}
use Rattle.gnap_io.proofs.memory_world.taken_out.Goals as goal

pub returns-clause-found : goal.returns-clause-found
returns-clause-found g c = λ name place.
    place-found c.args.named.now.items name c.args.place c.remove.result place c.remove.ensures.value

pub returns-clause-rest : goal.returns-clause-rest
returns-clause-rest g c = λ name place. c.remove.ensures.items ∙ sym place.rest

pub returns-clause-by_index : goal.returns-clause-by_index
returns-clause-by_index g c =
    let all = c.args.named.now in
    let named = all.items in
    let place = c.args.place in
    let within : place < length named = (let same = all.ok in let inside = c.requires in omega (arith, same, inside)) in (
      subst (λ items. SameBelow named items place) (sym c.remove.ensures.items) (λ k d before. get_or-remove_below named place d k before within),
      subst (λ items. ShiftedDown named items place) (sym c.remove.ensures.items) (λ k d behind. get_or-remove_above named place d k behind within),
    )
