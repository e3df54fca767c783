use Rattle.std.proofs.Common.{◌≡◌, ◌∙◌, ◌+◌, ◌*◌, ◌-◌, refl, subst, arith}
use Rattle.desk_load.specs.Loads.{PutsThrough, IsShare, begun}
use Rattle.desk_load.proofs.Growing.{less-room, share-next, share-done}
use Rattle.desk_load.proofs.share.do_share.Goals as goal

pub loop-grant-preserved : goal.loop-grant-preserved
loop-grant-preserved g c =
    let D = g.D.Desk in
    let i = c.loop-grant.invariant in
    let turn = c.loop-grant-test.true in
    let grants = c.args.grants in
    let grant = c.loop-grant.grant in
    let part = c.in_ok-do_part in
    record {
      same_rules = ◌∙◌ {a = D.rules c.do_part.new.desk} c.do_part.ensures.rules i.same_rules;
      same_number = ◌∙◌ {a = D.number c.do_part.new.desk} c.do_part.ensures.number i.same_number;
      same_home = ◌∙◌ {a = D.home c.do_part.new.desk} c.do_part.ensures.home i.same_home;
      room = part.ensures.room refl (7 * (grants - (grant + 1)))
          (less-room _ _ _ (7 * (grants - grant)) (7 * (grants - (grant + 1)) + 7) refl (omega (arith, turn)) i.room);
      most = let a = i.most in let b = c.do_part.ensures.most in omega (arith, a, b);
      shares = λ h s.
          let first = i.shares h s in
          share-next c.args.workers c.args.worker grant _ _ _ _ h (begun c.args.start c.args.worker) c.loop-grant.progress c.do_part.new.progress i.same_number
          first
          (part.ensures.does first.grows.history first.grows.seen_now);
    }

pub returns-clause-shares : goal.returns-clause-shares
returns-clause-shares g c = λ h s.
    let D = g.D.Desk in
    let over = c.loop-grant-test.false in
    let under = c.loop-grant.auto.grant-end in
    let all : c.loop-grant.grant ≡ c.args.grants = omega (arith, over, under) in
    share-done c.args.grants c.args.start c.args.workers c.args.worker _ (D.seen c.loop-grant.desk) h c.loop-grant.progress
    (subst (λ n. PutsThrough (IsShare c.args.workers c.args.worker n) (D.number c.args.desk.now) (D.seen c.loop-grant.desk) h
    (begun c.args.start c.args.worker) c.loop-grant.progress) all (c.loop-grant.invariant.shares h s))
