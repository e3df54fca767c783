-- A link and a guard as what turns are taken at.
use Rattle.std.specs.Prelude.{◌≡◌, List, [], ◌++◌}
use Rattle.std.proofs.Common.{◌∙◌, refl, sym, subst}
use Rattle.outside.specs.Links.{LinkState}
use Rattle.serving.specs.Backends.{BackendKind}
use Rattle.resource_server.specs.declared.setup.RsSetup.{RsSetup}
use Rattle.resource_server.specs.Fits.{RsSetupFits}
use Rattle.resource_server.specs.Guarding.{AddsExchanges}
use Rattle.rs_edge.specs.declared.guarded_link.GuardedLink.{GuardedLink}
use Rattle.rs_edge.specs.GuardedSteps.{GuardedStep, Chained, exchanges_in}
use Rattle.rs_edge.specs.Exchanges.{adds-none, adds-more, exchanges-append, chained-append}

module _ {L K Kept : Type 0} (link : L → LinkState) (kept : K → Kept) where
  -- Steps were made with the same link and the same guard. The link has their exchanges more, and each began with what the one before it kept.
  pub record MakesSteps (before : GuardedLink L K) (past : LinkState × Kept) (steps : List (GuardedStep Kept)) (after : GuardedLink L K)
      (now : LinkState × Kept) : Type 0 where
    pub link_is : now.0 ≡ link after.link.now
    pub kept_is : now.1 ≡ kept after.guard.now
    pub over : AddsExchanges (exchanges_in steps) past.0 now.0
    pub chained : Chained past.1 steps now.1
    pub same_link : after.link.ghost_name ≡ before.link.ghost_name
    pub same_guard : after.guard.ghost_name ≡ before.guard.ghost_name

  pub steps-none : (b : GuardedLink L K) (p : LinkState × Kept) → p.0 ≡ link b.link.now → p.1 ≡ kept b.guard.now → MakesSteps b p [] b p
  steps-none b p is also = record { link_is = is; kept_is = also; over = adds-none p.0; chained = refl; same_link = refl; same_guard = refl }

  pub steps-more : (b c d : GuardedLink L K) (p q r : LinkState × Kept) (ss ts : List (GuardedStep Kept)) → MakesSteps b p ss c q → MakesSteps c q ts d r
      → MakesSteps b p (ss ++ ts) d r
  steps-more b c d p q r ss ts first second = record {
    link_is = second.link_is;
    kept_is = second.kept_is;
    over = subst (λ es. AddsExchanges es p.0 r.0) (sym (exchanges-append ss ts))
        (adds-more (exchanges_in ss) (exchanges_in ts) p.0 q.0 r.0 first.over second.over);
    chained = chained-append ss ts p.1 q.1 r.1 first.chained second.chained;
    same_link = second.same_link ∙ first.same_link;
    same_guard = second.same_guard ∙ first.same_guard;
  }

  -- Turns draw no words. There is room for any number of turns by a setup that fits.
  abbrev pub guarded_link : RsSetup → BackendKind (GuardedLink L K) (LinkState × Kept) (GuardedStep Kept)
  guarded_link setup = record {
    seen = λ b past. (past.0 ≡ link b.link.now) × (past.1 ≡ kept b.guard.now);
    leads = MakesSteps;
    draws = λ steps. [];
    has_room = λ b turns. RsSetupFits setup;
    none = λ b p is. steps-none b p is.0 is.1;
    more = steps-more;
    sees = λ b c p q steps leads. (leads.link_is, leads.kept_is);
    draws_none = refl;
    draws_more = λ ss ts. refl;
    room_left = λ b c turns left fits made. fits;
  }
