use Rattle.std.proofs.Common.{◌≡◌, ℕ, List, ◌∷◌, [], ap, subst, refl, inl}
use Rattle.std.specs.Prelude.{Option, Some}
use Rattle.outside.specs.Worlds.{WorldState}
use Rattle.outside.specs.declared.world.Opening.TheVariants.{File, Link}
use Rattle.gnap_client.specs.Configs.{Parts, parts_of}
use Rattle.gnap_tool.specs.Configs.{client_config_in}
use Rattle.script_runs.specs.Scripts.{IsNewClient, RunsScript, RunsClient}
use Rattle.world_uses.specs.Uses.{Over, Unopened, Linked}
use Rattle.world_uses.proofs.AfterConfig.{by_setup_on, by_setup_off, unread_used, unread_writes, uses_then}
use Rattle.gnap_tool.proofs.ClientRuns.{client_carried}
use Rattle.gnap_tool.proofs.commands.run_client.Goals as goal

pub returns-in-Ok-clause-world : goal.returns-in-Ok-clause-world
returns-in-Ok-clause-world g c =
    uses_then c.args.config.now _ _ _ c.in-Ok.ensures.world (Link c.args.address.now ∷ File c.args.script.now ∷ []) (Some 0) _
    c.script_linked-ended.ensures.world

pub returns-in-Err-clause-world : goal.returns-in-Err-clause-world
returns-in-Err-clause-world g c =
    unread_used parts_of client_config_in (g.W.World.text c.args.world.now c.args.config.now) (g.W.World.state c.args.world.now)
    (g.W.World.state c.open_config.new.world) c.in-Err.ended
    c.in-Err.ensures.config (File c.args.config.now ∷ []) (Link c.args.address.now ∷ File c.args.script.now ∷ []) (Some 1) c.in-Err.ensures.world

pub returns-in-Err-clause-writes : goal.returns-in-Err-clause-writes
returns-in-Err-clause-writes g c =
    unread_writes parts_of client_config_in (g.W.World.text c.args.world.now c.args.config.now) (g.W.World.state c.args.world.now)
    (g.W.World.state c.open_config.new.world) c.in-Err.ended
    c.in-Err.ensures.config _

pub returns-in-Ok-clause-carried : goal.returns-in-Ok-clause-carried
returns-in-Ok-clause-carried g c =
    let text = g.W.World.text c.args.world.now in
    let before = g.W.World.state c.args.world.now in
    let between = g.W.World.state c.open_config.new.world in
    let after = g.W.World.state c.script_linked-ended.new.world in
    let out = g.O.Device.told c.args.out.now in
    let out_now = g.O.Device.told c.script_linked-ended.new.out in
    let ended = c.script_linked-ended.result in
    let client = c.new-client.result in
    let new : IsNewClient (parts_of c.in-Ok.config) client = record {
      config = ap parts_of c.new-client.ensures.config;
      received = c.new-client.ensures.received;
      asked = c.new-client.ensures.asked;
    } in
    let Then : WorldState → Parts → Type 0 = λ b parts. Linked b after (Unopened out out_now ended) (λ link opened.
    Over (text c.args.script.now) opened after (Unopened out out_now ended × (link.asked ≡ []))
    (λ taken rest. RunsClient parts taken rest link.asked out out_now ended)) in
    let T : (List ℕ → Option (List ℕ)) → Type 0 = λ t. Linked between after (Unopened out out_now ended) (λ link opened.
    Over (t c.args.script.now) opened after (Unopened out out_now ended × (link.asked ≡ []))
    (λ taken rest. RunsScript client taken rest link.asked out out_now ended)) in
    by_setup_on parts_of client_config_in (text c.args.config.now) before between Then c.in-Ok.config after out out_now ended c.in-Ok.ensures.config
    (client_carried (parts_of c.in-Ok.config) client new (text c.args.script.now) after out out_now ended between
    (subst T c.in-Ok.ensures.text c.script_linked-ended.ensures.linked))

pub returns-in-Err-clause-carried : goal.returns-in-Err-clause-carried
returns-in-Err-clause-carried g c =
    let text = g.W.World.text c.args.world.now in
    let after = g.W.World.state c.open_config.new.world in
    let out = g.O.Device.told c.args.out.now in
    let ended = c.in-Err.ended in
    let Then : WorldState → Parts → Type 0 = λ b parts. Linked b after (Unopened out out ended) (λ link opened.
    Over (text c.args.script.now) opened after (Unopened out out ended × (link.asked ≡ []))
    (λ taken rest. RunsClient parts taken rest link.asked out out ended)) in
    by_setup_off parts_of client_config_in (text c.args.config.now) (g.W.World.state c.args.world.now) after Then out ended (λ is parts. inl (refl, (refl, is)))
    c.in-Err.ensures.config
