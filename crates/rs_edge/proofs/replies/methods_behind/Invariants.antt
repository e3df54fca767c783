use Rattle.std.proofs.Common.{◌≡◌, ◌++◌, drop, [], ◌∷◌}
use Rattle.structured_fields.specs.Canonical.{further_text}
use Rattle.rs_edge.specs.RsReplies.{methods_at}
use Rattle.rs_edge.proofs.replies.methods_behind.Given as goal

abbrev pub invariant-loop-route : goal.invariant-loop-route
invariant-loop-route l = l.out ++ further_text (44 ∷ 32 ∷ []) (λ m. m) (methods_at l.path (drop l.route-index l.route-items))
    ≡ further_text (44 ∷ 32 ∷ []) (λ m. m) (methods_at l.path l.route-items)
