use Rattle.std.proofs.Common.{append_assoc}
use Rattle.signed_requests.proofs.request_bytes.request_bytes.Goals as goal

pub returns : goal.returns
returns c = rw (
  c.in_ok-extend-5.ensures.ok,
  c.as_slice-3.ensures.value,
  c.in_ok-extend-4.ensures.ok,
  c.in_ok-push_length.ensures,
  c.in_ok-push_lines.ensures,
  c.in_ok-extend-3.ensures.ok,
  c.in_ok-extend-2.ensures.ok,
  c.as_slice-2.ensures.value,
  c.in_ok-extend.ensures.ok,
  c.in_ok-out.ensures,
  c.as_slice.ensures.value,
) (simp append_assoc)
