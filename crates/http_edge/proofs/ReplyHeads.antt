-- The one head at the front of a reply.
use Rattle.std.proofs.Common.{◌≡◌, ◌∙◌, ℕ, ◌<◌, ◌≤◌, ◌-◌, List, length, map, take, drop, Bool, true, false, sym, ap, arith}
use Rattle.std.proofs.lemmas.Bool.{and_parts}
use Rattle.std.specs.Prelude.{nat_le, ◌&&◌, ◌||◌, ◌==◌, not}
use Rattle.std.proofs.lemmas.List.{length-map, length-drop}
use Rattle.std.proofs.lemmas.Bool.Decides.{nat_tests}
use Rattle.httparse.specs.declared.spans.HeaderSpan.{HeaderSpan}
use Rattle.httparse.specs.declared.spans.ResponseSpans.{ResponseSpans}
use Rattle.httparse.specs.Grammar.{ResponseHead, print_response, ReadsResponse, status_code}
use Rattle.httparse.specs.Spans.{IsResponseAt, header_bytes, name_and_value}
use Rattle.httparse.proofs.GrammarLemmas.{response_unique}
use Rattle.http1.specs.Fields.{Header}
use Rattle.http_edge.specs.ReadReplies.{IsNoHttpReply, HasNoRoom, frames, fits_parts, fits_body}
use Rattle.http_edge.specs.Laws.{IsOneReply}

pub one_reply_law : IsOneReply
one_reply_law bytes status other body text x y =
    let same = response_unique bytes x.head y.head body text x.reads y.reads in
    (x.status_is ∙ ap status_code same.0 ∙ sym y.status_is, same.1)

-- the head that is there doesn't fit what follows
pub misfit : (bytes : List ℕ) (h : ResponseHead) (rest : List ℕ) → ReadsResponse bytes h rest → fits_body h rest ≡ false → IsNoHttpReply bytes
misfit bytes h rest reads bad status body x =
    let same = response_unique bytes x.head h body rest x.reads reads in
    let both : fits_body x.head body ≡ fits_body h rest = ap (λ (k : ResponseHead). fits_body k body) same.0 ∙ ap (fits_body h) same.1 in
    let wrong : true ≡ false = sym x.fits ∙ both ∙ bad in
    cc

at_most : (n m : ℕ) → nat_le n m ≡ true → n ≤ m
at_most n m e = grind (arith, nat_tests)

pub no_reply_head : (bytes : List ℕ) → HasNoRoom bytes → IsNoHttpReply bytes
unfolding fits_body
no_reply_head bytes none status body x =
    let more : 64 < length x.head.fields = none x.head body x.reads in
    let headers : List Header = map name_and_value x.head.fields in
    let small : Bool = nat_le (length (print_response x.head)) 16384 in
    let few_fields : Bool = nat_le (length headers) 64 in
    let framed : Bool = frames headers (length body) in
    let fits = and_parts (small && few_fields && framed) (not (status_code x.head == 204) || length body == 0) x.fits in
    let few : length headers ≤ 64 = at_most (length headers) 64 (and_parts small few_fields (and_parts (small && few_fields) framed fits.0).0).1 in
    omega (arith, length-map x.head.fields name_and_value)

-- what the parser says of the head and what the grammar says
pub parts_fit : (bytes : List ℕ) (room : List HeaderSpan) (spans : ResponseSpans) (h : ResponseHead) → IsResponseAt bytes room spans h
    → fits_parts spans.len (map (header_bytes bytes) (take spans.headers room)) spans.code (length bytes - spans.len) ≡ fits_body h (drop spans.len bytes)
unfolding fits_body
parts_fit bytes room spans h at =
    let headers : List Header = map (header_bytes bytes) (take spans.headers room) in
    let rest : length bytes - spans.len ≡ length (drop spans.len bytes) = sym (length-drop spans.len bytes) in
    ap (λ (n : ℕ). fits_parts n headers spans.code (length bytes - spans.len)) at.len
    ∙ ap (λ (fields : List Header). fits_parts (length (print_response h)) fields spans.code (length bytes - spans.len)) at.fields
    ∙ ap (λ (n : ℕ). fits_parts (length (print_response h)) (map name_and_value h.fields) n (length bytes - spans.len)) at.code
    ∙ ap (λ (n : ℕ). fits_parts (length (print_response h)) (map name_and_value h.fields) (status_code h) n) rest
