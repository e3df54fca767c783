use Rattle.std.proofs.Common.{◌∙◌, ap}
use Rattle.std.specs.List.{list_all}
use Rattle.http_edge.specs.Replies.{is_method_byte}
use Rattle.rs_edge.proofs.Methods.{allow_letters}
use Rattle.rs_edge.proofs.replies.allow_reply.Goals as goal

pub not_allowed-requires : goal.not_allowed-requires
not_allowed-requires c = ap (list_all is_method_byte) c.in_ok-allow_text.ensures
    ∙ allow_letters c.target_path-path.result.now c.args.setup.now.routes c.requires.routes
