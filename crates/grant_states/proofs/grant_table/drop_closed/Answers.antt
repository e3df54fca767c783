use Rattle.std.proofs.Common.{◌+◌, ◌≡◌, ◌∙◌, ◌<◌, ℕ, List, [], get_or, length, sym, ap, arith, inl, inr, Bool}
use Rattle.std.specs.Prelude.{filter}
use Rattle.std.proofs.lemmas.List.{get_or_past, get_or_default, length-set}
use Rattle.std.proofs.lemmas.Bool.{cases_lt}
use Rattle.grant_states.specs.declared.numbers_by_key.Listed.{Listed}
use Rattle.grant_states.specs.Grants.{is_round_open}
use Rattle.grant_states.proofs.CodeLists.{one_list}
use Rattle.grant_states.proofs.grant_table.drop_closed.Goals as goal

below : (j i : ℕ) → j < i + 1 → (j ≡ i → ⊥) → j < i
below j i lt other = elim (cases_lt j i) [ inl less ↦ less | inr le ↦ absurd (other (omega (arith, lt, le))) ]

pub loop-i-preserved : goal.loop-i-preserved
loop-i-preserved c =
    let lists : List (List Listed) = c.loop-i.lists.items in
    let was : List (List Listed) = c.args.lists.now.items in
    let i : ℕ = c.loop-i.i in
    let test : Listed → Bool = λ (one : Listed). is_round_open c.args.moment c.args.places.now one.number in
    let inside : i < length lists = omega (arith, c.loop-i-test.true, c.loop-i.invariant.many, c.len-i-end.ensures) in
    record {
      many = length-set lists i c.drop_closed_in.new.list ∙ c.loop-i.invariant.many;
      dropped = λ j lt. elim (one_list lists i j c.drop_closed_in.new.list inside) [
        | inl e ↦ e.1 ∙ c.drop_closed_in.ensures
            ∙ ap (filter test) (c.index_mut.ensures.value ∙ get_or_default lists i c.index_mut.result.now [] inside ∙ c.loop-i.invariant.rest i (omega arith)
            ∙ ap (λ n. get_or was n []) (sym e.0))
        | inr e ↦ e.1 ∙ c.loop-i.invariant.dropped j (below j i lt e.0)
      ];
      rest = λ j le. elim (one_list lists i j c.drop_closed_in.new.list inside) [
        | inl e ↦ absurd (let n : j ≡ i = e.0 in omega (arith, n, le))
        | inr e ↦ e.1 ∙ c.loop-i.invariant.rest j (omega (arith, le))
      ];
    }

pub returns : goal.returns
returns c =
    let lists : List (List Listed) = c.loop-i.lists.items in
    let was : List (List Listed) = c.args.lists.now.items in
    let test : Listed → Bool = λ (one : Listed). is_round_open c.args.moment c.args.places.now one.number in
    λ i. elim (cases_lt i c.loop-i.i) [
      | inl lt ↦ c.loop-i.invariant.dropped i lt
      | inr le ↦ get_or_past lists i [] (omega (arith, le, c.loop-i-test.false, c.loop-i.invariant.many, c.len-i-end.ensures))
          ∙ sym (ap (filter test) (get_or_past was i [] (omega (arith, le, c.loop-i-test.false, c.len-i-end.ensures))))
    ]
