use Rattle.std.proofs.Common.{◌≡◌, map, take, codes}
use Rattle.std.specs.List.{list_any}
use Rattle.httparse.specs.Spans.{header_bytes}
use Rattle.http1.specs.Fields.{is_named}
use Rattle.http_edge.specs.Framing.{is_coded, lengths_of}
use Rattle.http_edge.specs.Steps.{HasLengths}
use Rattle.http_edge.proofs.framing.framing_fields.Given as goal

abbrev pub invariant-loop-field : goal.invariant-loop-field
invariant-loop-field l = record {
  coded : l.coded ≡ list_any is_coded (map (header_bytes l.head) (take l.field-index l.fields));
  lengths : HasLengths l.head l.length (lengths_of (map (header_bytes l.head) (take l.field-index l.fields)));
  connection : l.connection ≡ list_any (is_named (codes "connection")) (map (header_bytes l.head) (take l.field-index l.fields));
}
