use Rattle.std.proofs.Common.{◌∙◌, ℕ, List, sym, subst, drop}
use Rattle.std.proofs.lemmas.List.{take_rest}
use Rattle.http_edge.specs.ReadReplies.{IsHttpReply}
use Rattle.http_edge.proofs.ReplyHeads.{no_reply_head, misfit, parts_fit}
use Rattle.http_edge.proofs.reply_reading.read_reply.Goals as goal

pub returns-in-None : goal.returns-in-None
returns-in-None c = no_reply_head c.args.bytes.now c.in-None.ensures.none

pub returns-then-not-fits_body : goal.returns-then-not-fits_body
returns-then-not-fits_body c =
    let found = c.in-Some.ensures.of in
    let fits = parts_fit c.args.bytes.now c.reply_head.new.room c.in-Some.spans found.0 found.1 in
    misfit c.args.bytes.now found.0 (drop c.in-Some.spans.len c.args.bytes.now) found.1.reads (sym fits ∙ sym c.fits_body.ensures ∙ c.if-not-fits_body.true)

pub returns : goal.returns
returns c =
    let found = c.in-Some.ensures.of in
    let fits = parts_fit c.args.bytes.now c.reply_head.new.room c.in-Some.spans found.0 found.1 in
    let body = c.in_ok-body.ensures ∙ take_rest c.args.bytes.now c.in-Some.spans.len in
    subst (λ (b : List ℕ). IsHttpReply c.args.bytes.now c.in-Some.spans.code b) (sym body) (record {
      head = found.0;
      reads = found.1.reads;
      fits = sym fits ∙ sym c.fits_body.ensures ∙ c.if-not-fits_body.false;
      status_is = found.1.code;
    })
