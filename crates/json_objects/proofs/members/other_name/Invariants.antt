use Rattle.std.proofs.Common.{◌≡◌, map}
use Rattle.serde_json.specs.View.{members_view}
use Rattle.json_objects.specs.Members.{other_name}
use Rattle.json_objects.proofs.members.other_name.Given as goal

abbrev pub invariant-loop-key : goal.invariant-loop-key
invariant-loop-key l = other_name (map (λ n. n.now) l.names) (members_view l.key-iterator)
    ≡ other_name (map (λ n. n.now) l.names) (members_view l.members.entries)
