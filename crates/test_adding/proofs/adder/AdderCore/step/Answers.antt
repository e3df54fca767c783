use Rattle.std.proofs.Common.{rules, ◌≡◌, max, refl}
use Rattle.std.specs.Prelude.{Result, Ok, Err, OnErr}
use Rattle.test_adding.specs.Standing.{answers-added, answers-total, lapses-added}
use Rattle.test_adding.proofs.adder.AdderCore.step.Goals as goal

on_err_always : {T E : Type 0} (r : Result T E) {P : Type 0} → P → OnErr r P
on_err_always (Ok x) p = tt
on_err_always (Err e) p = p

pub returns-then-self-eq0-clause-err : goal.returns-then-self-eq0-clause-err
returns-then-self-eq0-clause-err c =
    let s = c.args.self.now in
    let at : c.max-self.result ≡ max s.latest c.args.moment = search rules in
    λ h stands. lapses-added s.start s.amounts.items s.total s.latest h c.args.moment c.args._draw.now s.amounts.items s.total c.max-self.result
    stands c.requires.in_time at refl refl

pub returns-in_err-add-in-Add-clause-err : goal.returns-in_err-add-in-Add-clause-err
returns-in_err-add-in-Add-clause-err c =
    let s = c.args.self.now in
    let at : c.max-self.result ≡ max s.latest c.args.moment = search rules in
    let same = c.in_err-add-in-Add.ensures.err in
    on_err_always c.from_residual.result
    (λ h stands. lapses-added s.start s.amounts.items s.total s.latest h c.args.moment c.args._draw.now c.add.new.amounts.items c.add.new.total
    c.max-self.result stands c.requires.in_time at same.0 same.1)

pub returns-in_ok-add-in-Add-clause-ok : goal.returns-in_ok-add-in-Add-clause-ok
returns-in_ok-add-in-Add-clause-ok c =
    let s = c.args.self.now in
    let at : c.max-self.result ≡ max s.latest c.args.moment = search rules in
    λ h stands. rw c.in-Add.is (answers-added s.start s.amounts.items s.total s.latest h c.args.moment c.args._draw.now c.in-Add.amount
    c.add.new.amounts.items c.add.new.total c.max-self.result stands c.requires.in_time at c.in_ok-add-in-Add.ensures.amounts c.in_ok-add-in-Add.ensures.total)

pub returns-in-Total-clause-ok : goal.returns-in-Total-clause-ok
returns-in-Total-clause-ok c =
    let s = c.args.self.now in
    let at : c.max-self.result ≡ max s.latest c.args.moment = search rules in
    λ h stands. rw c.in-Total.is (answers-total s.start s.amounts.items s.total s.latest h c.args.moment c.args._draw.now c.max-self.result stands
    c.requires.in_time at)
