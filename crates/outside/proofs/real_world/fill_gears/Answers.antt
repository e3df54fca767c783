use Rattle.std.proofs.Common.{◌≡◌, ◌∙◌, ℕ, ◌≤◌, List, [], ◌∷◌, ◌++◌, All, length, ap, sym, arith}
use Rattle.std.proofs.lemmas.List.Elements.{All-push, All-same, All-weaker}
use Rattle.outside.specs.Gears.{GearState, new_gear, IsUnused, AreStarted, AreFull}
use Rattle.outside.specs.contracts.real_gear.RealGearCounted.TheImpl as Counted
use Rattle.outside.proofs.real_world.fill_gears.Goals as goal

module _ {Gear : Type 0} (state : Gear → GearState) (quota : ℕ) (gears : List Gear) (each : All (λ gear. state gear ≡ new_gear quota) gears) where
  -- new gears are full
  full : AreFull state quota gears
  full = All-weaker (λ gear. state gear ≡ new_gear quota) (λ gear. (state gear).left ≡ quota) (λ gear is. ap (λ (s : GearState). s.left) is) gears each

  -- and started
  started : (n : ℕ) → length gears ≡ n → AreStarted state n quota gears
  started n many = record {
    many = many;
    unused = All-weaker (λ gear. state gear ≡ new_gear quota) (λ gear. IsUnused (state gear))
        (λ gear is. is ∙ ap new_gear (sym (ap (λ (s : GearState). s.left) is))) gears each;
    within = All-weaker (λ gear. (state gear).left ≡ quota) (λ gear. (state gear).left ≤ quota) (λ gear left. omega (arith, left)) gears full;
  }

  -- and with one more that is new, all are
  with_one_more : (gear : Gear) (gears_now : List Gear) → gears_now ≡ gears ++ gear ∷ [] → state gear ≡ new_gear quota
      → All (λ gear. state gear ≡ new_gear quota) gears_now
  with_one_more gear gears_now pushed is =
      All-same (λ gear. state gear ≡ new_gear quota) gears_now (gears ++ gear ∷ []) pushed (All-push (λ gear. state gear ≡ new_gear quota) gears gear each is)

pub loop-seed-preserved : goal.loop-seed-preserved
loop-seed-preserved g c =
    let more = c.loop-seed-test.true in
    let len = c.len.ensures in
    let longer = c.push_reserved.ensures.len in
    let room = c.loop-seed.invariant.room in
    let same = c.push_reserved.ensures.capacity in
    record {
      long = omega (arith, more, len, longer);
      room = omega (arith, room, same);
      each = with_one_more (Counted.state-value g.row.R g.R.Clock g.R.Clock-dict).it c.args.quota c.loop-seed.gears.items c.loop-seed.invariant.each
          c.new.result c.push_reserved.new.self.items c.push_reserved.ensures.items c.new.ensures;
    }

pub returns-clause-started : goal.returns-clause-started
returns-clause-started g c =
    let i = c.loop-seed.invariant in
    let done = c.loop-seed-test.false in
    let len = c.len.ensures in
    let long = i.long in
    let ok = c.loop-seed.gears.ok in
    started (Counted.state-value g.row.R g.R.Clock g.R.Clock-dict).it c.args.quota c.loop-seed.gears.items i.each c.args.n
    (omega (arith, done, len, long, ok))

pub returns-clause-full : goal.returns-clause-full
returns-clause-full g c =
    full (Counted.state-value g.row.R g.R.Clock g.R.Clock-dict).it c.args.quota c.loop-seed.gears.items c.loop-seed.invariant.each
