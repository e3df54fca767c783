use Rattle.std.proofs.Common.{◌≡◌, [], ◌∷◌, Ok, sym, ap, ◌∙◌, subst, arith}
use Rattle.serde_json.specs.View.{members_view}
use Rattle.serde_json.proofs.Views.{view-Object}
use Rattle.json_objects.specs.Bodies.{IsBody}
use Rattle.body_reading.proofs.PlainBodies.{plain_body, plain_is_body}
use Rattle.body_reading.proofs.plain_bodies.read_plain.Goals as goal

pub returns-clause-value : goal.returns-clause-value
returns-clause-value c =
    let m = c.in_ok-members.members in
    let opened : c.args.text.now ≡ 123 ∷ c.take.new.self = grind arith in
    let over : c.read_members.new.rest ≡ [] = grind arith in
    plain_body (members_view m.entries) c.args.text.now c.take.new.self c.read_members.new.rest opened c.in_ok-members.ensures over
    ∙ ap Ok (sym (view-Object m))

pub returns-clause-body : goal.returns-clause-body
returns-clause-body c =
    let m = c.in_ok-members.members in
    let opened : c.args.text.now ≡ 123 ∷ c.take.new.self = grind arith in
    let over : c.read_members.new.rest ≡ [] = grind arith in
    subst IsBody (sym (view-Object m))
    (plain_is_body (members_view m.entries) c.args.text.now c.take.new.self c.read_members.new.rest opened c.in_ok-members.ensures over)
