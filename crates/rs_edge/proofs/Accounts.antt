-- The account of a gear, a link and a guard after one more connection.
use Rattle.std.proofs.Common.{◌≡◌, ◌∙◌, ◌+◌, ◌-◌, ◌<◌, List, [], ◌∷◌, ◌++◌, length, refl, ap, sym, subst, arith, append_assoc, length-append}
use Rattle.std.proofs.lemmas.List.{append-nil}
use Rattle.outside.specs.Gears.{GearState, IsUnused, with_served, empty_log}
use Rattle.outside.specs.Links.{Exchange, LinkState}
use Rattle.outside.specs.Outside.{Served}
use Rattle.serving.specs.Logs.{joined}
use Rattle.histories.specs.Turns.{moments_in, entries_in}
use Rattle.histories.proofs.TurnLemmas.{moments_in-append, entries_in-append}
use Rattle.http_edge.specs.declared.fault.EdgeFault.{EdgeFault}
use Rattle.serving.specs.Workers.{HasServedOne}
use Rattle.serving.specs.declared.ends.ConnectionEnd.{ConnectionEnd}
use Rattle.resource_server.specs.declared.setup.RsSetup.{RsSetup}
use Rattle.rs_edge.specs.GuardedSteps.{GuardsKeeping, Chained, exchanges_in}
use Rattle.rs_edge.specs.Exchanges.{exchanges-append, chained-append}
use Rattle.rs_edge.specs.RsTurns.{RsTurn}
use Rattle.rs_edge.specs.RsSessions.{ServesResources, IsRsSession, RsSessions, IsRsAccount}

joined-next : {K : Type 0} (tss : List (List (RsTurn K))) (ts : List (RsTurn K)) → joined (tss ++ ts ∷ []) ≡ joined tss ++ ts
joined-next [] ts = append-nil ts
joined-next (us ∷ tss) ts = ap (λ x. us ++ x) (joined-next tss ts) ∙ sym (append_assoc us (joined tss) ts)

-- the steps of one more connection come after those before
steps-next : {K : Type 0} (tss : List (List (RsTurn K))) (ts : List (RsTurn K))
    → entries_in (joined (tss ++ ts ∷ [])) ≡ entries_in (joined tss) ++ entries_in ts
steps-next tss ts = ap entries_in (joined-next tss ts) ∙ entries_in-append (joined tss) ts

sessions-next : {K : Type 0} (guards : GuardsKeeping K) (setup : RsSetup) (conns : List Served) (tss : List (List (RsTurn K))) (conn : Served)
    (ts : List (RsTurn K))
    → RsSessions guards setup conns tss → IsRsSession guards setup conn ts → RsSessions guards setup (conns ++ conn ∷ []) (tss ++ ts ∷ [])
sessions-next guards setup [] [] conn ts are is = (is, tt)
sessions-next guards setup [] (us ∷ tss) conn ts are is = absurd are
sessions-next guards setup (c ∷ conns) [] conn ts are is = absurd are
sessions-next guards setup (c ∷ conns) (us ∷ tss) conn ts are is = (are.0, sessions-next guards setup conns tss conn ts are.1 is)

-- nothing was done yet
pub account_start : {K : Type 0} (guards : GuardsKeeping K) (setup : RsSetup) (first : K) (gear : GearState) (asked : List Exchange) → IsUnused gear
    → asked ≡ []
    → IsRsAccount guards setup first gear.log asked first
account_start guards setup first gear asked unused none =
    let log : gear.log ≡ empty_log = ap (λ (g : GearState). g.log) unused in
    rw (log, none) record {
      turns = [];
      sessions = tt;
      moments = refl;
      draws = refl;
      asked_is = refl;
      chained = refl;
    }

module _ {K : Type 0} (guards : GuardsKeeping K) (setup : RsSetup) (gear gear1 gear2 gear3 : GearState) (link link1 : LinkState) (kept kept1 : K)
    (conn : Served)
    (ended : ConnectionEnd EdgeFault) (gave : gear1 ≡ record gear { out = gear.out + 1; left = gear.left - 1 }) (some : 0 < gear.left)
    (serves : ServesResources guards setup link link1 kept kept1 gear1 gear2 conn ended) where
  pub one_out : 0 < gear2.out
  one_out =
      let used = ap (λ (g : GearState). g.out) serves.used in
      let out = ap (λ (g : GearState). g.out) gave in
      omega (arith, used, out)

  module _ (back : gear3 ≡ with_served conn gear2) where
    served_now : gear3.log.served ≡ gear.log.served ++ conn ∷ []
    served_now = ap (λ (g : GearState). g.log.served) back ∙ ap (λ (g : GearState). g.log.served ++ conn ∷ []) serves.used
        ∙ ap (λ (g : GearState). g.log.served ++ conn ∷ []) gave

    moments_now : gear3.log.moments ≡ gear.log.moments ++ moments_in serves.turns
    moments_now = ap (λ (g : GearState). g.log.moments) back ∙ ap (λ (g : GearState). g.log.moments) serves.used
        ∙ ap (λ (g : GearState). g.log.moments ++ moments_in serves.turns) gave

    draws_now : gear3.log.draws ≡ gear.log.draws ++ []
    draws_now = ap (λ (g : GearState). g.log.draws) back ∙ ap (λ (g : GearState). g.log.draws) serves.used
        ∙ ap (λ (g : GearState). g.log.draws ++ []) gave

    pub account_next : (first : K) → IsRsAccount guards setup first gear.log link.asked kept → IsRsAccount guards setup first gear3.log link1.asked kept1
    account_next first account = record {
      turns = account.turns ++ serves.turns ∷ [];
      sessions = subst (λ conns. RsSessions guards setup conns (account.turns ++ serves.turns ∷ [])) (sym served_now)
          (sessions-next guards setup gear.log.served account.turns conn serves.turns account.sessions (ended, serves.session));
      moments = moments_now ∙ ap (λ ms. ms ++ moments_in serves.turns) account.moments
          ∙ sym (moments_in-append (joined account.turns) serves.turns) ∙ ap moments_in (sym (joined-next account.turns serves.turns));
      draws = draws_now ∙ append-nil gear.log.draws ∙ account.draws;
      asked_is = serves.over.adds ∙ ap (λ es. es ++ exchanges_in (entries_in serves.turns)) account.asked_is
          ∙ sym (exchanges-append (entries_in (joined account.turns)) (entries_in serves.turns))
          ∙ ap exchanges_in (sym (steps-next account.turns serves.turns));
      chained = subst (λ steps. Chained first steps kept1) (sym (steps-next account.turns serves.turns))
          (chained-append (entries_in (joined account.turns)) (entries_in serves.turns) first kept kept1 account.chained serves.chained);
    }

    pub served_one : HasServedOne gear gear3
    served_one = record {
      served = ap length served_now ∙ length-append gear.log.served (conn ∷ []);
      left = (
          let left3 = ap (λ (g : GearState). g.left) back in
          let left2 = ap (λ (g : GearState). g.left) serves.used in
          let left1 = ap (λ (g : GearState). g.left) gave in
          omega (arith, left3, left2, left1, some));
      faults = ap (λ (g : GearState). g.faults) back ∙ ap (λ (g : GearState). g.faults) serves.used ∙ ap (λ (g : GearState). g.faults) gave;
    }

    pub same_out : gear3.out ≡ gear.out
    same_out =
        let out3 = ap (λ (g : GearState). g.out) back in
        let out2 = ap (λ (g : GearState). g.out) serves.used in
        let out1 = ap (λ (g : GearState). g.out) gave in
        omega (arith, out3, out2, out1)
