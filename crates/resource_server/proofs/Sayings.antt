-- What bytes say of a token.
use Rattle.std.proofs.Common.{◌≡◌, ◌∙◌, ℕ, List, refl, sym, ap}
use Rattle.std.specs.Prelude.{Option, Some, None}
use Rattle.http_edge.specs.ReadReplies.{IsHttpReply, IsNoHttpReply}
use Rattle.http_edge.proofs.ReplyHeads.{one_reply_law}
use Rattle.reply_readers.specs.declared.judgement.Judgement.{Judgement}
use Rattle.reply_readers.specs.Introspections.{judgement}
use Rattle.resource_server.specs.Guarding.{SaysOfToken, SaysNothing, SaysToken}

pub says_none : (bytes : List ℕ) → IsNoHttpReply bytes → SaysToken bytes None
says_none bytes none says x = none x.status x.body x.reply

-- what two readings of the same bytes say is the same
pub same_saying : (bytes : List ℕ) (says other : Judgement) → SaysOfToken bytes says → SaysOfToken bytes other → says ≡ other
same_saying bytes says other x y =
    let same = one_reply_law bytes x.status y.status x.body y.body x.reply y.reply in
    let here : judgement x.status x.body ≡ judgement y.status y.body =
    ap (λ (n : ℕ). judgement n x.body) same.0 ∙ ap (judgement y.status) same.1 in
    let both : Some says ≡ Some other = sym x.read ∙ here ∙ y.read in
    cc

pub says_by : (bytes : List ℕ) (status : ℕ) (body : List ℕ) (says : Option Judgement) → IsHttpReply bytes status body
    → says ≡ judgement status body → SaysToken bytes says
says_by bytes status body (Some says) reply e = record { status = status; body = body; reply = reply; read = sym e }
says_by bytes status body None reply e = λ says x.
    let same = one_reply_law bytes x.status status x.body body x.reply reply in
    let here : judgement x.status x.body ≡ judgement status body =
    ap (λ (n : ℕ). judgement n x.body) same.0 ∙ ap (judgement status) same.1 in
    let wrong : Some says ≡ None = sym x.read ∙ here ∙ sym e in
    cc
