-- What bytes say to a request, and what a reply that was taken leaves.
use Rattle.std.proofs.Common.{◌≡◌, ◌∙◌, ℕ, List, refl, sym, ap}
use Rattle.std.specs.Prelude.{Option, Some, None, Result, Ok, Err}
use Rattle.http_edge.specs.ReadReplies.{IsHttpReply, IsNoHttpReply}
use Rattle.http_edge.proofs.ReplyHeads.{one_reply_law}
use Rattle.reply_readers.specs.declared.grant_reply.ReplyKind.{ReplyKind}
use Rattle.reply_readers.specs.declared.grant_reply.GrantReply.TheVariants as replies
use Rattle.gnap_client.specs.declared.client.Asked.{Asked}
use Rattle.gnap_client.specs.declared.client.Client.{Client}
use Rattle.gnap_client.specs.declared.client.ClientFault.{ClientFault}
use Rattle.gnap_client.specs.declared.client.Took.{Took}
use Rattle.gnap_client.specs.declared.client.ReadReply.{ReadReply}
use Rattle.gnap_client.specs.declared.client.ReadReply.TheVariants.{Given, Resource}
use Rattle.gnap_client.specs.Received.{after_read}
use Rattle.gnap_client.specs.Taking.{reply_kind, read_by, Reads, ReadsNone, Says, took_of, Takes, HasTaken}

pub says_none : (asked : Asked) (bytes : List ℕ) → IsNoHttpReply bytes → Says asked bytes None
says_none asked bytes none reading x = none x.status x.body x.reply

pub says_by : (asked : Asked) (bytes : List ℕ) (status : ℕ) (body : List ℕ) (says : Option ReadReply) → IsHttpReply bytes status body
    → says ≡ read_by (reply_kind asked) status body → Says asked bytes says
says_by asked bytes status body (Some reading) reply e = record { status = status; body = body; reply = reply; says = sym e }
says_by asked bytes status body None reply e = λ reading x.
    let same = one_reply_law bytes x.status status x.body body x.reply reply in
    let here : read_by (reply_kind asked) x.status x.body ≡ read_by (reply_kind asked) status body =
    ap (λ (n : ℕ). read_by (reply_kind asked) n x.body) same.0 ∙ ap (read_by (reply_kind asked) status) same.1 in
    let wrong : Some reading ≡ None = sym x.says ∙ here ∙ sym e in
    cc

taken : (old new : Client) (bytes : List ℕ) (asked : Asked) (reading : ReadReply) → old.asked ≡ Some asked → Reads asked bytes reading
    → new ≡ record old { received = after_read old.received (asked, reading); asked = None } → Takes old bytes new (took_of reading)
taken old new bytes asked reading outstanding reads leaves =
    record { asked = asked; reading = reading; outstanding = outstanding; reads = reads; answer = refl; leaves = leaves }

answered : (old new : Client) (bytes : List ℕ) (reading : ReadReply) → Takes old bytes new (took_of reading) → HasTaken old bytes new (took_of reading)
answered old new bytes (Given (replies.Granted door tokens subject)) t = t
answered old new bytes (Given (replies.Pending door interaction)) t = t
answered old new bytes (Given (replies.Continuing door)) t = t
answered old new bytes (Given (replies.Rotated token)) t = t
answered old new bytes (Given replies.Done) t = t
answered old new bytes (Given (replies.Refused code)) t = t
answered old new bytes (Resource status body) t = t

pub taken_by : (old new : Client) (bytes : List ℕ) (asked : Asked) (reading : ReadReply) (result : Result Took ClientFault) → old.asked ≡ Some asked
    → Reads asked bytes reading → result ≡ took_of reading → new ≡ record old { received = after_read old.received (asked, reading); asked = None }
    → HasTaken old bytes new result
taken_by old new bytes asked reading result outstanding reads answer leaves =
    rw answer (answered old new bytes reading (taken old new bytes asked reading outstanding reads leaves))
