use Rattle.std.proofs.Common.{◌∙◌, ℕ, sym, ap}
use Rattle.std.specs.Global.{Vec}
use Rattle.lru.specs.LruCache.{LruCache}
use Rattle.introspection_cache.specs.declared.kept_reply.KeptReply.{KeptReply}
use Rattle.introspection_cache.specs.Caching.{may_keep, with_reply}
use Rattle.introspection_cache.specs.Seen.{kept_in}
use Rattle.introspection_cache.proofs.SeenKept.{put_kept}
use Rattle.introspection_cache.proofs.replies.keep.Goals as goal

pub returns-in-Ok-clause-ok : goal.returns-in-Ok-clause-ok
returns-in-Ok-clause-ok c = ap (λ (x : LruCache (Vec ℕ) KeptReply). kept_in x.entries) c.in-Ok.ensures.entries
    ∙ put_kept c.args.replies.now.cap c.in_ok-into_vec.field-0 c.args.text c.fitted-kept.result c.args.replies.now.entries
    (c.in_ok-into_vec.ensures ∙ c.without_spare_room-text.ensures)
    (ap (λ (r : KeptReply). may_keep c.args.text r) c.fitted-kept.ensures ∙ sym c.may_keep.ensures ∙ c.if-may_keep.true) c.requires.new
    ∙ ap (λ (r : KeptReply). with_reply c.args.replies.now.cap c.args.text r (kept_in c.args.replies.now.entries)) c.fitted-kept.ensures
