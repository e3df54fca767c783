-- Exchanges after exchanges, and steps after steps.
use Rattle.std.proofs.Common.{◌≡◌, ◌∙◌, ℕ, List, [], ◌∷◌, ◌++◌, refl, ap, sym, subst, append_assoc}
use Rattle.std.proofs.lemmas.List.{append-nil}
use Rattle.outside.specs.Links.{Exchange, LinkState}
use Rattle.resource_server.specs.Guarding.{CountsExchanges, AddsExchanges}
use Rattle.rs_edge.specs.GuardedSteps.{GuardedStep, Chained, exchanges_in}

counts-append : (es fs : List Exchange) (a b c : ℕ) → CountsExchanges es a b → CountsExchanges fs b c → CountsExchanges (es ++ fs) a c
counts-append [] fs a b c first second = subst (λ (n : ℕ). CountsExchanges fs n c) first second
counts-append (e ∷ es) fs a b c first second = (first.0, first.1, counts-append es fs first.0 b c first.2 second)

pub adds-none : (link : LinkState) → AddsExchanges [] link link
adds-none link = record { adds = sym (append-nil link.asked); counts = refl }

pub adds-more : (es fs : List Exchange) (a b c : LinkState) → AddsExchanges es a b → AddsExchanges fs b c → AddsExchanges (es ++ fs) a c
adds-more es fs a b c first second = record {
  adds = second.adds ∙ ap (λ x. x ++ fs) first.adds ∙ append_assoc a.asked es fs;
  counts = counts-append es fs a.faults b.faults c.faults first.counts second.counts;
}

pub exchanges-append : {K : Type 0} (ss ts : List (GuardedStep K)) → exchanges_in (ss ++ ts) ≡ exchanges_in ss ++ exchanges_in ts
exchanges-append [] ts = refl
exchanges-append (s ∷ ss) ts = ap (λ x. s.exchanges ++ x) (exchanges-append ss ts) ∙ sym (append_assoc s.exchanges (exchanges_in ss) (exchanges_in ts))

pub chained-append : {K : Type 0} (ss ts : List (GuardedStep K)) (a b c : K) → Chained a ss b → Chained b ts c → Chained a (ss ++ ts) c
chained-append [] ts a b c first second = subst (λ k. Chained k ts c) first second
chained-append (s ∷ ss) ts a b c first second = (first.0, chained-append ss ts s.after b c first.1 second)
