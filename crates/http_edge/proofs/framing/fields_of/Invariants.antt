use Rattle.std.proofs.Common.{◌≡◌, map, take}
use Rattle.httparse.specs.Spans.{header_bytes}
use Rattle.http_edge.specs.Streams.{field_of}
use Rattle.http_edge.proofs.framing.fields_of.Given as goal

abbrev pub invariant-loop-span : goal.invariant-loop-span
invariant-loop-span l = l.fields.items ≡ map field_of (map (header_bytes l.head) (take l.span-index l.spans))
