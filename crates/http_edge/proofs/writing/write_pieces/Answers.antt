use Rattle.std.proofs.Common.{◌≡◌, ◌∙◌, ℕ, List, take, drop, suc, sym, subst}
use Rattle.std.proofs.lemmas.Result.{err_from_is_err_and}
use Rattle.std.specs.Borrow.{Bor}
use Rattle.std.proofs.lemmas.List.{take_all}
use Rattle.http1.proofs.TextLemmas.{flat_map-take_more}
use Rattle.http_edge.specs.Writes.{bytes_of_pieces, IsUnderWay}
use Rattle.http_edge.proofs.Sending.{Began, began_more, under_way_more, under_way_fails, under_way_ends, pieces_split}
use Rattle.http_edge.proofs.writing.write_pieces.Goals as goal

pub loop-piece-preserved : goal.loop-piece-preserved
loop-piece-preserved g c =
    let i = c.loop-piece.piece-index in
    let pieces = c.args.pieces.now in
    let told = g.S.Device.told in
    let before = c.loop-piece.invariant in
    let more = under_way_more (bytes_of_pieces (take i pieces)) c.loop-piece.outgoing _ _ _ _ _ before.way c.in_ok-put.ensures.put in
    record {
      way = subst (λ (t : List ℕ). IsUnderWay t c.put.new.self (told c.args.sink.now) (told c.put.new.sink))
          (sym (flat_map-take_more (λ (piece : Bor (List ℕ)). piece.now) pieces i _ c.loop-piece-test.true)) more;
      kept = c.in_ok-put.ensures.cause.same ∙ before.kept;
    }

pub returns-in_err-put-clause-sent : goal.returns-in_err-put-clause-sent
returns-in_err-put-clause-sent g c =
    let failed = err_from_is_err_and c.from_residual.result c.from_residual.ensures.1 in
    let i = c.loop-piece.piece-index in
    let pieces = c.args.pieces.now in
    rw failed.1 (subst (λ (t : List ℕ). Began t (g.S.Device.told c.args.sink.now) (g.S.Device.told c.put.new.sink))
    (sym (pieces_split i pieces _ c.loop-piece-test.true))
    (began_more _ (bytes_of_pieces (drop (suc i) pieces)) _ _
    (under_way_fails (bytes_of_pieces (take i pieces)) c.loop-piece.outgoing _ _ _ _ c.loop-piece.invariant.way c.in_err-put.ensures.put)))

pub returns-clause-sent : goal.returns-clause-sent
returns-clause-sent g c =
    let i = c.loop-piece.piece-index in
    let pieces = c.args.pieces.now in
    let told = g.S.Device.told in
    let all : take i pieces ≡ pieces = take_all i pieces c.loop-piece-test.false in
    under_way_ends (bytes_of_pieces pieces) c.loop-piece.outgoing _ _ _ _
    (subst (λ (ps : List (Bor (List ℕ))). IsUnderWay (bytes_of_pieces ps) c.loop-piece.outgoing (told c.args.sink.now) (told c.loop-piece.sink)) all
    c.loop-piece.invariant.way)
    c.flush.ensures.sent
