use Rattle.std.proofs.Common.{◌≡◌, ◌++◌, ◌∙◌, List, ℕ, ap, append_assoc, rules}
use Rattle.std.specs.List.{flat_map}
use Rattle.std.proofs.lemmas.Result.{on_ok_weaker}
use Rattle.structured_fields.specs.Letters.{is_unquoted}
use Rattle.structured_fields.specs.Grammar.{in_string}
use Rattle.structured_fields.specs.Reading.{front, behind}
use Rattle.structured_fields.proofs.Runs.{unquoted_front}
use Rattle.structured_fields.proofs.writing.put_escaped.Goals as goal

pub returns : goal.returns
returns c =
    let held : c.extend.new.self ≡ c.args.out.now ++ front is_unquoted c.args.s.now = search rules in
    let rest : c.split_at.result.1.now ≡ behind is_unquoted c.args.s.now = search rules in
    on_ok_weaker c.put_each_escaped.result
    (λ put. put ∙ rw (held, rest) (append_assoc c.args.out.now (front is_unquoted c.args.s.now) (flat_map in_string (behind is_unquoted c.args.s.now))
    ∙ ap (λ (text : List ℕ). c.args.out.now ++ text) (unquoted_front c.args.s.now)))
    c.put_each_escaped.ensures
