use Rattle.std.proofs.Common.{◌≡◌, ◌∙◌, ℕ, List, [], ◌++◌, ap, append_assoc}
use Rattle.std.specs.Prelude.{codes}
use Rattle.std.specs.List.{flat_map}
use Rattle.signed_files.specs.SignedText.{request_line, field_line}
use Rattle.signed_files.proofs.message_text.message_text.Goals as goal

joined : (a b c d s t u v w : List ℕ) → s ≡ [] → t ≡ s ++ a → u ≡ t ++ b → v ≡ u ++ c → w ≡ v ++ d → w ≡ a ++ (b ++ (c ++ d))
joined a b c d s t u v w none first second third fourth =
    fourth ∙ ap (λ x. x ++ d) (third ∙ ap (λ x. x ++ c) (second ∙ ap (λ x. x ++ b) (first ∙ ap (λ x. x ++ a) none)))
    ∙ append_assoc (a ++ b) c d ∙ append_assoc a b (c ++ d)

pub returns : goal.returns
returns c =
    let m = c.args.message.now in
    joined _ _ _ _ _ _ _ _ _ c.new-text.ensures c.in_ok-push_request_line.ensures c.in_ok-push_fields.ensures c.in_ok-extend.ensures.ok
    c.in_ok-extend-2.ensures.ok
    ∙ ap (λ b. request_line m ++ (flat_map field_line m.fields ++ (codes "\r\n" ++ b))) c.as_slice.ensures.value
