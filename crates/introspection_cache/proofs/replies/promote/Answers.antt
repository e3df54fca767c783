use Rattle.std.proofs.Common.{◌∙◌, ℕ, sym, ap}
use Rattle.std.specs.Global.{Vec}
use Rattle.lru.specs.LruCache.{LruCache}
use Rattle.introspection_cache.specs.declared.kept_reply.KeptReply.{KeptReply}
use Rattle.introspection_cache.specs.Seen.{kept_in}
use Rattle.introspection_cache.proofs.SeenKept.{promoted_seen}
use Rattle.introspection_cache.proofs.replies.promote.Goals as goal

pub returns-clause-kept : goal.returns-clause-kept
returns-clause-kept c = ap (λ (x : LruCache (Vec ℕ) KeptReply). kept_in x.entries) c.promote.ensures.entries
    ∙ sym (promoted_seen c.args.text.now c.args.replies.now.entries)
