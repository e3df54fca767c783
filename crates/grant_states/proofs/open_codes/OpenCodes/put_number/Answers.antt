use Rattle.std.proofs.Common.{◌/◌, ◌^◌, refl, arith}
use Rattle.grant_states.proofs.CodeLists.{put_kept, put_listed, put_only}
use Rattle.grant_states.proofs.open_codes.OpenCodes.put_number.Goals as goal

pub returns-then-at-len-clause-kept : goal.returns-then-at-len-clause-kept
returns-then-at-len-clause-kept c =
    put_kept c.args.self.now.lists.items (c.args.listed / 20 ^ 7) c.args.listed c.args.number c.index_mut.result.now c.put.new.self
    (omega (arith, c.if-at-len.true, c.len.ensures)) c.index_mut.ensures.value c.put.ensures.kept

pub returns-then-at-len-clause-only : goal.returns-then-at-len-clause-only
returns-then-at-len-clause-only c =
    put_only c.args.self.now.lists.items (c.args.listed / 20 ^ 7) c.args.listed c.args.number c.index_mut.result.now c.put.new.self
    (omega (arith, c.if-at-len.true, c.len.ensures)) c.index_mut.ensures.value c.put.ensures.only

pub returns-then-at-len-clause-listed : goal.returns-then-at-len-clause-listed
returns-then-at-len-clause-listed c =
    λ e. put_listed c.args.self.now.lists.items (c.args.listed / 20 ^ 7) c.args.listed c.args.number c.index_mut.result.now c.put.new.self
    (omega (arith, c.if-at-len.true, c.len.ensures)) c.index_mut.ensures.value refl (c.put.ensures.listed e)
