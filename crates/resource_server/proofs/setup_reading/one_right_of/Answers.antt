use Rattle.std.specs.Prelude.{codes}
use Rattle.std.proofs.Common.{refl}
use Rattle.serde_json.specs.View.{view}
use Rattle.resource_server.proofs.Depths.{alone_body}
use Rattle.resource_server.proofs.setup_reading.one_right_of.Goals as goal

pub rights_alone-requires : goal.rights_alone-requires
rights_alone-requires c = alone_body (codes "right") (view c.args.value.now) (view c.in_ok-member.member.now) _ c.requires
    c.in_ok-member.ensures.value
    (c.in_ok-member.ensures.body c.requires).whole refl
