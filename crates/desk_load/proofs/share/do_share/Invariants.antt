use Rattle.std.proofs.Common.{◌≡◌, ◌-◌, ◌*◌, ◌≤◌}
use Rattle.desk_load.specs.Loads.{HasRoom, PutsThrough, IsShare, begun}
use Rattle.desk_load.specs.Tallies.{counted_in}
use Rattle.desk_load.proofs.share.do_share.Given as goal

abbrev pub invariant-loop-grant : goal.invariant-loop-grant
invariant-loop-grant g l =
    let D = g.D.Desk in
    record {
      same_rules : D.rules l.desk ≡ D.rules l.fn.desk;
      same_number : D.number l.desk ≡ D.number l.fn.desk;
      same_home : D.home l.desk ≡ D.home l.fn.desk;
      room : HasRoom (D.number l.desk) (D.seen l.desk) (7 * (l.grants - l.grant));
      most : counted_in l.progress.tally ≤ 7 * l.grant;
      shares : (h : _) → D.seen l.fn.desk h → PutsThrough (IsShare l.workers l.worker l.grant) (D.number l.fn.desk) (D.seen l.desk) h
          (begun l.start l.worker) l.progress;
    }
