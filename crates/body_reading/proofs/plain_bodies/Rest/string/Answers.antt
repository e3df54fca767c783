use Rattle.std.proofs.lemmas.Str.{IsUtf8-from_ascii}
use Rattle.body_reading.proofs.plain_bodies.Rest.string.Goals as goal

pub from_utf8_unchecked-requires : goal.from_utf8_unchecked-requires
from_utf8_unchecked-requires c = IsUtf8-from_ascii _ c.plain_len-len.ensures.plain.1
