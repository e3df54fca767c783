use Rattle.std.proofs.Common.{◌≡◌, ◌%◌, ◌/◌, ◌∷◌, [], ℕ, List, Some, sym}
use Rattle.std.proofs.lemmas.Result.{IfOk-weaker}
use Rattle.structured_fields.specs.NameNotes.{digits, steps, Extends}
use Rattle.structured_fields.proofs.NameNotes.{first_step, last_step}
use Rattle.structured_fields.proofs.name_notes.below_noting.Goals as goal

pub returns-in_default-further-clause-ok : goal.returns-in_default-further-clause-ok
returns-in_default-further-clause-ok c =
    let first = rw c.as_slice.ensures.value at (sym c.in-Some.ensures) in
    IfOk-weaker c.from_second.result
    (λ n. (more : List ℕ) → Extends c.from_second.new.notes.items more
    → steps more c.in-Some.first (c.args.byte / 16 % 4 ∷ c.args.byte / 4 % 4 ∷ c.args.byte % 4 ∷ []) ≡ Some n)
    (λ n. (more : List ℕ) → Extends c.from_second.new.notes.items more → steps more c.args.node (digits c.args.byte) ≡ Some n)
    (λ n behind more extends. first_step more c.args.node _ c.in-Some.first n _
    (extends _ _ (c.from_second.ensures.extends _ _ first)) (behind more extends))
    c.from_second.ensures.ok

pub returns-in_default-further-2-clause-ok : goal.returns-in_default-further-2-clause-ok
returns-in_default-further-2-clause-ok c =
    let first = rw c.as_slice.ensures.value at (sym c.in-Some.ensures) in
    let second = rw c.as_slice-2.ensures.value at (sym c.in-Some-further.ensures) in
    IfOk-weaker c.from_third.result
    (λ n. (more : List ℕ) → Extends c.from_third.new.notes.items more
    → steps more c.in-Some-further.second (c.args.byte / 4 % 4 ∷ c.args.byte % 4 ∷ []) ≡ Some n)
    (λ n. (more : List ℕ) → Extends c.from_third.new.notes.items more → steps more c.args.node (digits c.args.byte) ≡ Some n)
    (λ n behind more extends. first_step more c.args.node _ c.in-Some.first n _
    (extends _ _ (c.from_third.ensures.extends _ _ first))
    (first_step more c.in-Some.first _ c.in-Some-further.second n _ (extends _ _ (c.from_third.ensures.extends _ _ second)) (behind more extends)))
    c.from_third.ensures.ok

pub returns-clause-ok : goal.returns-clause-ok
returns-clause-ok c more extends =
    let first = rw c.as_slice.ensures.value at (sym c.in-Some.ensures) in
    let second = rw c.as_slice-2.ensures.value at (sym c.in-Some-further.ensures) in
    let third = rw c.as_slice-3.ensures.value at (sym c.in-Some-further-2.ensures) in
    let n = c.in_ok-fourth.fourth in
    let kept = c.in_ok-fourth.ensures.extends in
    first_step more c.args.node _ c.in-Some.first n _ (extends _ _ (kept _ _ first))
    (first_step more c.in-Some.first _ c.in-Some-further.second n _ (extends _ _ (kept _ _ second))
    (first_step more c.in-Some-further.second _ c.in-Some-further-2.third n _ (extends _ _ (kept _ _ third))
    (last_step more c.in-Some-further-2.third _ n (c.in_ok-fourth.ensures.ok more extends))))
