use Rattle.std.proofs.Common.{◌≡◌, ℕ, List, take, drop, suc, sym, subst}
use Rattle.std.proofs.lemmas.Result.{err_from_is_err_and}
use Rattle.std.specs.Borrow.{Bor}
use Rattle.std.proofs.lemmas.List.{take_all}
use Rattle.bytes_and_lists.specs.Prefixes.{IsPrefix}
use Rattle.outside.specs.Outside.{Writes}
use Rattle.command_words.proofs.ToldTexts.{bytes_of, items_split, began_behind}
use Rattle.command_words.proofs.telling.write_pieces.Goals as goal

pub returns-in_err-write_all-clause-sent : goal.returns-in_err-write_all-clause-sent
returns-in_err-write_all-clause-sent g c =
    let failed = err_from_is_err_and c.from_residual.result c.from_residual.ensures.1 in
    let i = c.loop-piece.piece-index in
    let pieces = c.args.pieces.now in
    let told = g.E.Device.told in
    rw failed.1 (subst (λ (t : List ℕ). (sent : List ℕ) × IsPrefix sent t × Writes sent (told c.args.err.now) (told c.write_all.new.out))
    (sym (items_split (λ (piece : Bor (List ℕ)). piece.now) i pieces _ c.loop-piece-test.true))
    (began_behind _ _ (bytes_of (drop (suc i) pieces)) _ _ _ c.loop-piece.invariant.written c.in_err-write_all.ensures.sent))

pub returns-clause-sent : goal.returns-clause-sent
returns-clause-sent g c =
    let i = c.loop-piece.piece-index in
    let pieces = c.args.pieces.now in
    let told = g.E.Device.told in
    let all : take i pieces ≡ pieces = take_all i pieces c.loop-piece-test.false in
    subst (λ (ps : List (Bor (List ℕ))). Writes (bytes_of ps) (told c.args.err.now) (told c.loop-piece.err)) all c.loop-piece.invariant.written
