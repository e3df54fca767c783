use Rattle.std.proofs.Common.{ℕ, List, take, drop, map, ◌≡◌, ◌∙◌, ◌≤◌, sym, ap, arith}
use Rattle.std.specs.Prelude.{◌==◌, ◌||◌}
use Rattle.httparse.specs.Spans.{header_bytes}
use Rattle.http1.specs.Fields.{Header}
use Rattle.http_edge.specs.declared.framing.Framing.TheVariants.{Body}
use Rattle.http_edge.specs.Framing.{framing_of, asks_to_close}
use Rattle.http_edge.specs.Limits.{body_limit}
use Rattle.http_edge.specs.Streams.{BeginsWith, headers_of, field_of, by_head}
use Rattle.http_edge.proofs.Fronts.{no_head_refused, many_refused, head_here, ends_at, whole_message}
use Rattle.http_edge.proofs.Lengths.{none_asks, oldest_version, other_version}
use Rattle.http_edge.proofs.messages.message_by_head.Goals as goal
use Rattle.http_edge.proofs.messages.message_by_head.Goals.{then-spans-eq0, else-spans-eq0+then-connection, else-spans-eq0+else-connection}

pub returns-in-ManyFields : goal.returns-in-ManyFields
returns-in-ManyFields c = (many_refused c.args.b.now c.args.w.now c.requires.window (rw c.in-ManyFields.is at c.requires.head), tt)

pub returns-in-Never : goal.returns-in-Never
returns-in-Never c = (no_head_refused c.args.b.now c.args.w.now c.requires.window (rw c.in-Never.is at c.requires.head), tt)

pub returns-then-b-end : goal.returns-then-b-end
returns-then-b-end c =
    let b : List ℕ = c.args.b.now in
    let found = rw c.in-Head.is at c.requires.head in
    let of = found.1 in
    let begins : BeginsWith b of.0 (drop c.in-Head.spans.len b) =
    head_here b c.args.w.now c.args.room.now c.in-Head.spans c.requires.window of found.0.section.len_fits in
    let framed : framing_of (headers_of of.0) ≡ Body c.in-Body.length =
    sym (ap framing_of of.1.fields) ∙ sym c.request_framing-framing.ensures.value ∙ c.in-Body.is in
    let bound : c.in-Body.length ≤ body_limit = rw c.in-Body.is at c.request_framing-framing.ensures.bound in (
      ends_at b of.0 c.in-Head.spans.len c.in-Body.length begins of.1.len framed,
      c.if-b-end.true,
      omega (arith, begins.short, of.1.len, bound),
    )

pub returns-in-Refused : goal.returns-in-Refused
returns-in-Refused c =
    let b : List ℕ = c.args.b.now in
    let found = rw c.in-Head.is at c.requires.head in
    let of = found.1 in (
      by_head c.in-Refused.fault of.0 (drop c.in-Head.spans.len b)
          (head_here b c.args.w.now c.args.room.now c.in-Head.spans c.requires.window of found.0.section.len_fits)
          (sym (ap framing_of of.1.fields) ∙ sym c.request_framing-framing.ensures.value ∙ c.in-Refused.is),
      rw c.in-Refused.is at c.request_framing-framing.ensures.bound,
    )

pub returns : goal.returns
returns c =
    let b : List ℕ = c.args.b.now in
    let found = rw c.in-Head.is at c.requires.head in
    let of = found.1 in
    let begins : BeginsWith b of.0 (drop c.in-Head.spans.len b) =
    head_here b c.args.w.now c.args.room.now c.in-Head.spans c.requires.window of found.0.section.len_fits in
    let framed : framing_of (headers_of of.0) ≡ Body c.in-Body.length =
    sym (ap framing_of of.1.fields) ∙ sym c.request_framing-framing.ensures.value ∙ c.in-Body.is in
    let headers : List Header = map (header_bytes c.args.w.now) (take c.in-Head.spans.headers c.args.room.now) in
    let last : c.if-spans-eq0.last ≡ (c.in-Head.spans.version == 0 || asks_to_close headers) = elim c.if-spans-eq0.branch [
      | then-spans-eq0 w ↦ oldest_version _ _ _ w.last-is w.if-spans-eq0.true
      | else-spans-eq0+then-connection w ↦ other_version _ _ _ (w.last-is ∙ w.asks_to_close.ensures) w.if-spans-eq0.false
      | else-spans-eq0+else-connection w ↦
          let none = none_asks headers (sym c.request_framing-framing.ensures.connection ∙ w.if-connection.false) in
          other_version _ _ _ (w.last-is ∙ w.if-connection.false ∙ sym none) w.if-spans-eq0.false
    ] in (
      c.if-b-end.false,
      whole_message b of.0 c.in-Head.spans.len c.in-Body.length _ begins framed c.if-b-end.false
          (c.in_ok-method.ensures ∙ c.of.ensures ∙ of.1.method)
          (c.in_ok-target.ensures ∙ c.of-2.ensures ∙ of.1.path)
          (c.in_ok-fields.ensures ∙ ap (map field_of) of.1.fields)
          (c.in_ok-body.ensures)
          (last ∙ ap (λ (n : ℕ). n == 0 || asks_to_close headers)
          of.1.version
          ∙ ap (λ (headers : List Header). of.0.minor == 0 || asks_to_close headers) of.1.fields),
    )
