use Rattle.std.proofs.Common.{Option, Some, None, option_map, subst, sym, Bor}
use Rattle.std.specs.Prelude.{IfSome}
use Rattle.serde_json.specs.Data.{Data}
use Rattle.serde_json.specs.View.{view}
use Rattle.serde_json.specs.declared.value.Value.{Value}
use Rattle.json_objects.specs.Bodies.{IsBody}
use Rattle.json_objects.proofs.Parts.{member_body}
use Rattle.json_objects.proofs.members.member.Goals as goal

seen : (r : Option (Bor Value)) → IfSome (option_map (λ v. view v.now) r) IsBody → IfSome r (λ v. IsBody (view v.now))
seen None h = tt
seen (Some v) h = h

pub returns-clause-body : goal.returns-clause-body
returns-clause-body c = λ body. seen c.get.result
    (subst (λ (o : Option Data). IfSome o IsBody) (sym c.get.ensures) (member_body c.args.name.now (view c.args.value.now) body))
