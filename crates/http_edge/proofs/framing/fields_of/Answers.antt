use Rattle.std.proofs.Common.{◌≡◌, ◌∙◌, ℕ, ◌+◌, ◌<◌, List, [], ◌∷◌, ◌++◌, length, get_or, map, take, ap}
use Rattle.std.specs.Char.{to_ascii_lowercase}
use Rattle.std.proofs.lemmas.List.{take_all, map_more, map-append}
use Rattle.httparse.specs.declared.spans.HeaderSpan.{HeaderSpan}
use Rattle.httparse.specs.Spans.{header_bytes, span_bytes}
use Rattle.bytes_and_lists.specs.declared.message.Field.{Field}
use Rattle.http_edge.specs.Streams.{field_of}
use Rattle.http_edge.proofs.framing.fields_of.Goals as goal

-- the field of one more span
fields_more : (head : List ℕ) (spans : List HeaderSpan) (i : ℕ) (d : HeaderSpan) (fields new : List Field) (name value : List ℕ) → i < length spans
    → fields ≡ map field_of (map (header_bytes head) (take i spans)) → new ≡ fields ++ record { name = name; value = value } ∷ []
    → name ≡ map to_ascii_lowercase (span_bytes head (get_or spans i d).name) → value ≡ span_bytes head (get_or spans i d).value
    → new ≡ map field_of (map (header_bytes head) (take (i + 1) spans))
fields_more head spans i d fields new name value within before pushed name_is value_is =
    let one_more = map_more (header_bytes head) spans i d within in
    let both = map-append field_of (map (header_bytes head) (take i spans)) (header_bytes head (get_or spans i d) ∷ []) in
    cc

pub loop-span-preserved : goal.loop-span-preserved
loop-span-preserved c =
    fields_more c.args.head.now c.args.spans.now c.loop-span.span-index _ c.loop-span.fields.items _ c.in_ok-name.name c.in_ok-value.value
    c.loop-span-test.true c.loop-span.invariant c.in_ok-push.ensures.items (c.in_ok-name.ensures ∙ ap (map to_ascii_lowercase) c.of.ensures)
    (c.in_ok-value.ensures ∙ c.of-in-loop-span.ensures)

pub returns : goal.returns
returns c =
    c.from_vec.ensures ∙ c.loop-span.invariant
    ∙ ap (λ (spans : List HeaderSpan). map field_of (map (header_bytes c.args.head.now) spans))
    (take_all c.loop-span.span-index c.args.spans.now c.loop-span-test.false)
