use Rattle.std.proofs.Common.{◌≡◌, ℕ, List, ◌∷◌, [], ap, subst, inl, inr, refl}
use Rattle.std.specs.Prelude.{Option}
use Rattle.outside.specs.declared.world.Opening.TheVariants.{File}
use Rattle.world_uses.proofs.Uses.{unopened_used, fault_ends}
use Rattle.script_runs.specs.Scripts.{RunsScript}
use Rattle.world_uses.specs.Uses.{Over, Unopened}
use Rattle.world_uses.proofs.Linked.{uses_around, over_back}
use Rattle.gnap_tool.proofs.commands.script_linked.Goals as goal

pub returns-in-Err-clause-world : goal.returns-in-Err-clause-world
returns-in-Err-clause-world g c = unopened_used _ _ _ _ c.in-Err.fault _ c.ended_by_fault.ensures c.in-Err.ensures.state c.in-Err.ensures.link

pub returns-in-Err-clause-linked : goal.returns-in-Err-clause-linked
returns-in-Err-clause-linked g c = inl
    (ap (λ s. s.files) c.in-Err.ensures.state, (refl, fault_ends c.in-Err.fault c.ended_by_fault.result c.ended_by_fault.ensures))

pub returns-in-Ok-clause-world : goal.returns-in-Ok-clause-world
returns-in-Ok-clause-world g c =
    uses_around c.args.address.now _ (File c.args.script.now ∷ []) _ _ _ _ _ _ c.in-Ok.ensures.state c.script_over-ended.ensures.world
    c.close_link.ensures.state

pub returns-in-Ok-clause-linked : goal.returns-in-Ok-clause-linked
returns-in-Ok-clause-linked g c =
    let link = g.W.Link.Link.link c.script_over-ended.new.link in
    let opened = g.W.World.state c.open_link.new.self in
    let out = g.O.Device.told c.args.out.now in
    let out_now = g.O.Device.told c.script_over-ended.new.out in
    let ended = c.script_over-ended.result in
    let P : List ℕ → List ℕ → Type 0 = λ taken rest. RunsScript c.args.client.now taken rest link.asked out out_now ended in
    let U : Type 0 = Unopened out out_now ended × (link.asked ≡ []) in
    let T : (List ℕ → Option (List ℕ)) → Type 0 = λ text. Over (text c.args.script.now) opened (g.W.World.state c.script_over-ended.new.world) U P in
    let over = subst T c.in-Ok.ensures.text c.script_over-ended.ensures.over in
    inr (
      link,
      opened,
      ap (λ s. s.files) c.in-Ok.ensures.state,
      ap (λ s. s.link) c.close_link.ensures.state,
      over_back _ link opened (g.W.World.state c.script_over-ended.new.world) (g.W.World.state c.close_link.new.self) U P c.close_link.ensures.state over,
    )
