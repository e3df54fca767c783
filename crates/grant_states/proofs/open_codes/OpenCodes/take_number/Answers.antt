use Rattle.std.proofs.Common.{◌/◌, ◌^◌, refl, arith}
use Rattle.grant_states.proofs.CodeLists.{none_in, take_gone, take_kept, take_only}
use Rattle.grant_states.proofs.open_codes.OpenCodes.take_number.Goals as goal

pub returns-then-at-len-clause-kept : goal.returns-then-at-len-clause-kept
returns-then-at-len-clause-kept c =
    take_kept c.args.self.now.lists.items (c.args.listed / 20 ^ 7) c.args.listed c.args.number c.index_mut.result.now c.take.new.self
    (omega (arith, c.if-at-len.true, c.len.ensures)) c.index_mut.ensures.value c.take.ensures.kept

pub returns-then-at-len-clause-only : goal.returns-then-at-len-clause-only
returns-then-at-len-clause-only c =
    take_only c.args.self.now.lists.items (c.args.listed / 20 ^ 7) c.args.listed c.args.number c.index_mut.result.now c.take.new.self
    (omega (arith, c.if-at-len.true, c.len.ensures)) c.index_mut.ensures.value c.take.ensures.only

pub returns-then-at-len-clause-gone : goal.returns-then-at-len-clause-gone
returns-then-at-len-clause-gone c =
    take_gone c.args.self.now.lists.items (c.args.listed / 20 ^ 7) c.args.listed c.args.number c.index_mut.result.now c.take.new.self
    (omega (arith, c.if-at-len.true, c.len.ensures)) c.index_mut.ensures.value refl c.take.ensures.gone

pub returns-else-at-len-clause-gone : goal.returns-else-at-len-clause-gone
returns-else-at-len-clause-gone c = none_in c.args.self.now.lists.items c.args.listed c.args.number (omega (arith, c.if-at-len.false, c.len.ensures))
