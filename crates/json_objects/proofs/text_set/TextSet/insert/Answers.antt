use Rattle.std.proofs.Common.{◌≡◌, ◌∙◌, ◌||◌, Bool, true, false, cond, refl, string_bytes}
use Rattle.std.specs.Str.{bytes_eq}
use Rattle.std.proofs.lemmas.Map.Text.{btree_set_updates_text}
use Rattle.std.proofs.lemmas.Result.{IfOk-at_ok}
use Rattle.json_objects.specs.TextSets.{has_text}
use Rattle.json_objects.proofs.text_set.TextSet.insert.Goals as goal

cond-true : (b c : Bool) → cond b true c ≡ (b || c)
cond-true true c = refl
cond-true false c = refl

-- what was inserted has the text's bytes
pub returns-clause-added : goal.returns-clause-added
returns-clause-added c =
    let is_text = IfOk-at_ok (λ s. string_bytes s ≡ c.args.text.now) c.in_ok-text.was c.from_str.ensures.ok in
    let added = btree_set_updates_text (string_bytes c.in_ok-text.text) c.args.self.now.texts c.insert.new.self true c.in_ok-insert.ensures.updates in
    λ other. (rw is_text at added) other ∙ cond-true (bytes_eq c.args.text.now other) (has_text c.args.self.now other)
