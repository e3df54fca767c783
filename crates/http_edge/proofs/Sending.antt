-- Bytes on their way to a sink.
use Rattle.std.proofs.Common.{◌≡◌, ℕ, ◌<◌, suc, List, [], ◌++◌, length, take, drop, get_or, refl, sym, ap, ◌∙◌, subst, append_assoc, append-nil}
use Rattle.std.specs.Prelude.{Result, Ok, Err, codes, decimal}
use Rattle.std.specs.Borrow.{Bor}
use Rattle.std.proofs.Math.Seq.{drop-cons}
use Rattle.std.proofs.lemmas.List.{take-append-drop}
use Rattle.std.proofs.lemmas.Grind.{flat_map-append}
use Rattle.bytes_and_lists.specs.Prefixes.{IsPrefix}
use Rattle.outside.specs.Outside.{Told, Writes, HasSent}
use Rattle.outside.proofs.Devices.{writes_none, writes_then}
use Rattle.http_edge.specs.declared.reply.HttpReply.{HttpReply}
use Rattle.http_edge.specs.Replies.{status_line, type_line, extra_line, close_line, length_line, body_bytes, head_bytes, reply_bytes}
use Rattle.http_edge.specs.Writes.{bytes_of_pieces, IsUnderWay}

-- a beginning of a text was written
abbrev pub Began : List ℕ → Told → Told → Type 0
Began text before after = (sent : List ℕ) × IsPrefix sent text × Writes sent before after

pub began_more : (text more : List ℕ) (a b : Told) → Began text a b → Began (text ++ more) a b
began_more text more a b x =
    (x.0, (x.1.0 ++ more, ap (λ (t : List ℕ). t ++ more) x.1.1 ∙ append_assoc x.0 x.1.0 more), x.2)

pub under_way_none : (a : Told) → IsUnderWay [] [] a a
under_way_none a = record { sent = []; writes = writes_none a; parts = refl }

-- all that was kept was written
pub under_way_flushed : (text piece : List ℕ) (a b : Told) → Writes text a b → IsUnderWay (text ++ piece) piece a b
under_way_flushed text piece a b writes = record { sent = text; writes = writes; parts = refl }

pub under_way_more : (text kept piece kept_now : List ℕ) (a m b : Told) → IsUnderWay text kept a m → IsUnderWay (kept ++ piece) kept_now m b
    → IsUnderWay (text ++ piece) kept_now a b
under_way_more text kept piece kept_now a m b x y = record {
  sent = x.sent ++ y.sent;
  writes = writes_then x.sent y.sent a m b x.writes y.writes;
  parts = ap (λ (t : List ℕ). t ++ piece) x.parts ∙ append_assoc x.sent kept piece ∙ ap (λ (t : List ℕ). x.sent ++ t) y.parts
      ∙ sym (append_assoc x.sent y.sent kept_now);
}

-- of what was kept, and what comes behind it, a beginning was written
pub under_way_fails : (text kept more : List ℕ) (a m b : Told) → IsUnderWay text kept a m → Began (kept ++ more) m b → Began (text ++ more) a b
under_way_fails text kept more a m b x y = (
  x.sent ++ y.0,
  (
    y.1.0,
    ap (λ (t : List ℕ). t ++ more) x.parts ∙ append_assoc x.sent kept more ∙ ap (λ (t : List ℕ). x.sent ++ t) y.1.1
        ∙ sym (append_assoc x.sent y.0 y.1.0),
  ),
  writes_then x.sent y.0 a m b x.writes y.2,
)

-- all that is kept was written in the end, or a beginning of it
pub under_way_ends : {E : Type 0} (text kept : List ℕ) (a m b : Told) (r : Result (Unit {0}) E) → IsUnderWay text kept a m → HasSent kept m b r
    → HasSent text a b r
under_way_ends text kept a m b (Ok u) x sent = subst (λ (t : List ℕ). Writes t a b) (sym x.parts) (writes_then x.sent kept a m b x.writes sent)
under_way_ends text kept a m b (Err e) x sent = (
  x.sent ++ sent.0,
  (sent.1.0, x.parts ∙ ap (λ (t : List ℕ). x.sent ++ t) sent.1.1 ∙ sym (append_assoc x.sent sent.0 sent.1.0)),
  writes_then x.sent sent.0 a
      m b x.writes sent.2,
)

-- the pieces before a place, the piece there, and those behind it
pub pieces_split : (i : ℕ) (ps : List (Bor (List ℕ))) (d : Bor (List ℕ)) → i < length ps
    → bytes_of_pieces ps ≡ (bytes_of_pieces (take i ps) ++ (get_or ps i d).now) ++ bytes_of_pieces (drop (suc i) ps)
pieces_split i ps d inside =
    ap bytes_of_pieces (sym (take-append-drop i ps)) ∙ flat_map-append (λ (x : Bor (List ℕ)). x.now) (take i ps) (drop i ps)
    ∙ ap (λ (l : List (Bor (List ℕ))). bytes_of_pieces (take i ps) ++ bytes_of_pieces l) (drop-cons ps i d inside)
    ∙ sym (append_assoc (bytes_of_pieces (take i ps)) (get_or ps i d).now (bytes_of_pieces (drop (suc i) ps)))

-- the ten pieces of a reply
pub reply_pieces : (s k d f g c i j n b : List ℕ)
    → s ++ (k ++ (d ++ (f ++ (g ++ (c ++ (i ++ (j ++ (n ++ (b ++ []))))))))) ≡ (s ++ (k ++ ((d ++ (f ++ g)) ++ (c ++ (i ++ (j ++ n)))))) ++ b
reply_pieces s k d f g c i j n b = simp (append_assoc, append-nil)

-- the bytes of a reply from its parts
pub reply_parts : (r : HttpReply) (status kind extra close size body : List ℕ) → status ≡ status_line r.status
    → kind ≡ type_line r.body ++ codes "Cache-Control: no-store\r\n" → extra ≡ extra_line r.extra → close ≡ close_line r.last
    → size ≡ length_line r.status (decimal (length (body_bytes r.body))) ++ codes "\r\n" → body ≡ body_bytes r.body
    → (status ++ (kind ++ (extra ++ (close ++ size)))) ++ body ≡ reply_bytes r
unfolding reply_bytes head_bytes
reply_parts r status kind extra close size body status_is kind_is extra_is close_is size_is body_is =
    (λ x. (status_is x ++ (kind_is x ++ (extra_is x ++ (close_is x ++ size_is x)))) ++ body_is x)
    ∙ ap (λ (t : List ℕ). (status_line r.status ++ t) ++ body_bytes r.body) (append_assoc (type_line r.body) (codes "Cache-Control: no-store\r\n") _)
