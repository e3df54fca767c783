use Rattle.std.proofs.Common.{◌∙◌, ℕ, sym, ap}
use Rattle.std.specs.Global.{Vec}
use Rattle.std.specs.Map.{lookup}
use Rattle.std.specs.Str.{bytes_eq}
use Rattle.lru.specs.LruCache.{LruCache}
use Rattle.introspection_cache.specs.declared.kept_reply.KeptReply.{KeptReply}
use Rattle.introspection_cache.specs.Seen.{kept_in}
use Rattle.introspection_cache.proofs.SeenKept.{remove_seen, gone_seen}
use Rattle.introspection_cache.proofs.replies.forget.Goals as goal

pub returns-clause-kept : goal.returns-clause-kept
returns-clause-kept c = ap (λ (x : LruCache (Vec ℕ) KeptReply). kept_in x.entries) c.pop.ensures.entries
    ∙ sym (remove_seen c.args.text.now c.args.replies.now.entries)

pub returns-clause-gone : goal.returns-clause-gone
returns-clause-gone c = ap (λ (x : LruCache (Vec ℕ) KeptReply). lookup (bytes_eq c.args.text.now) (kept_in x.entries)) c.pop.ensures.entries
    ∙ gone_seen c.args.text.now c.args.replies.now.entries c.len-many.ensures.valid.0
