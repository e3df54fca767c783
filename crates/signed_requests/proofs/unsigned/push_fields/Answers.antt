use Rattle.std.proofs.Common.{◌≡◌, ◌++◌, ◌∙◌, append_assoc}
use Rattle.std.proofs.lemmas.Result.{on_ok_weaker}
use Rattle.signed_requests.specs.Requests.{type_fields, unsigned_message}
use Rattle.signed_requests.proofs.unsigned.push_fields.Goals as goal

pub returns : goal.returns
returns c =
    let joined : c.push_authorization.new.fields ++ type_fields c.args.request.now.body
    ≡ c.args.fields.now ++ (unsigned_message c.args.base.now c.args.request.now).fields = rw (
      c.in_ok-push_authorization.ensures,
      c.in_ok-push_field-2.ensures,
      c.in_ok-push_field.ensures,
      c.authority_of.ensures,
      c.as_slice.ensures.value,
    ) (simp append_assoc) in
    on_ok_weaker c.push_type.result (λ e. e ∙ joined) c.push_type.ensures
