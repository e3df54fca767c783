use Rattle.std.proofs.Common.{◌+◌, ◌≤◌, length, sym, ap, ◌∙◌, arith}
use Rattle.std.proofs.lemmas.Simd.{run_in_chunk_le, run_in_chunk_fails, none_from_empty_mask, trailing_mask_l, length-chunk}
use lib.Count.{count_trailing_zeros}
use lib.Lanes.{chunk}
use Rattle.plain_text.specs.PlainText.{is_stop}
use Rattle.plain_text.proofs.PlainText.{run_more}
use Rattle.plain_text.proofs.plain_len.Goals as goal

pub chunks-preserved : goal.chunks-preserved
chunks-preserved c =
    let bs = c.args.bytes.now in
    let i = c.chunks.len in
    let room : i + 16 ≤ length bs = omega arith in
    (room, run_more bs i 16 room c.chunks.invariant.1 (none_from_empty_mask is_stop bs i 16 0 room (sym c.stops-found.ensures ∙ c.if-found-ne0.false)))

pub returns-then-found-ne0-clause-within : goal.returns-then-found-ne0-clause-within
returns-then-found-ne0-clause-within c =
    let bs = c.args.bytes.now in
    let i = c.chunks.len in
    let room : i + 16 ≤ length bs = omega arith in
    let lanes = chunk i 16 bs in
    let run = ap (count_trailing_zeros 64) c.stops-found.ensures
    ∙ trailing_mask_l is_stop 64 lanes (omega (arith, length-chunk i 16 bs room)) (omega (arith, c.stops-found.ensures)) in
    omega (arith, run_in_chunk_le is_stop bs i 16 _ 0 room run)

pub returns-then-found-ne0-clause-plain : goal.returns-then-found-ne0-clause-plain
returns-then-found-ne0-clause-plain c =
    let bs = c.args.bytes.now in
    let i = c.chunks.len in
    let room : i + 16 ≤ length bs = omega arith in
    let lanes = chunk i 16 bs in
    let run = ap (count_trailing_zeros 64) c.stops-found.ensures
    ∙ trailing_mask_l is_stop 64 lanes (omega (arith, length-chunk i 16 bs room)) (omega (arith, c.stops-found.ensures)) in
    run_more bs i _ (omega (arith, run_in_chunk_le is_stop bs i 16 _ 0 room run)) c.chunks.invariant.1 (run_in_chunk_fails is_stop bs i 16 _ 0 room run)
