use Rattle.std.proofs.Common.{◌≡◌, ◌∙◌, ℕ, ◌-◌, ◌≤◌, List, length, take, drop, arith, sym, subst, length-drop}
use Rattle.std.proofs.lemmas.List.{take-append-drop, take_all}
use Rattle.std.proofs.Math.Seq.{take-add}
use Rattle.std.proofs.lemmas.Result.{err_from_is_err_and}
use Rattle.outside.specs.Outside.{Writes}
use Rattle.outside.proofs.Devices.{writes_then}
use Rattle.outside.proofs.device.write_all.Goals as goal

pub returns-in_err-at-clause-sent : goal.returns-in_err-at-clause-sent
returns-in_err-at-clause-sent g c =
    let p = err_from_is_err_and c.from_residual.result c.from_residual.ensures.1 in
    let at = c.loop-at.at in
    let told = g.O.Device.told in
    let S : _ → Type 0 = λ now. Writes (take at c.args.text.now) (told c.args.out.now) now in
    rw p.1 (
      take at c.args.text.now,
      (drop at c.args.text.now, sym (take-append-drop at c.args.text.now)),
      subst S (sym c.in_err-at.ensures.told)
          c.loop-at.invariant.sent,
    )

pub loop-at-preserved : goal.loop-at-preserved
loop-at-preserved g c =
    let inv = c.loop-at.invariant in
    let wrote = c.in_ok-at.ensures in
    let at = c.loop-at.at in
    let n = c.in_ok-at.field-0 in
    let text = c.args.text.now in
    let told = g.O.Device.told in
    let rest : take (length text - at) (drop at text) ≡ drop at text =
    take_all (length text - at) (drop at text) (omega (arith, length-drop at text)) in
    let fits : n ≤ length (drop at text) = let B : List ℕ → Type 0 = λ xs. n ≤ length xs in subst B rest wrote.bound.1 in
    let G : List ℕ → Type 0 = λ xs. Writes (take n xs) (told c.loop-at.out) (told c.write.new.self) in
    let W : List ℕ → Type 0 = λ xs. Writes xs (told c.args.out.now) (told c.write.new.self) in
    let grew = subst G rest wrote.told in
    record {
      within = omega (arith, fits, length-drop at text, inv.within);
      sent = subst W (sym (take-add at n text)) (writes_then (take at text) (take n (drop at text)) _ _ _ inv.sent grew);
      same = wrote.cause.same ∙ inv.same;
    }
