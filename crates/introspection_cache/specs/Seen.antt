-- How an `lru` cache is seen: its keys as lists of bytes.
use Rattle.std.specs.Prelude.{ℕ, List, map}
use Rattle.std.specs.Global.{Vec}
use Rattle.introspection_cache.specs.declared.kept_reply.KeptReply.{KeptReply}
use Rattle.introspection_cache.specs.Caching.{Kept, Cache}

abbrev pub kept_in : List (Vec ℕ × KeptReply) → Kept
kept_in entries = map (λ (e : Vec ℕ × KeptReply). (e.0.items, e.1)) entries

-- the cache with these entries
abbrev pub cache_of : List (Vec ℕ × KeptReply) → ℕ → Cache
cache_of entries cap = record { capacity = cap; kept = kept_in entries }
