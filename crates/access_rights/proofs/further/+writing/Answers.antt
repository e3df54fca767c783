use Rattle.std.proofs.Common.{◌≡◌, ◌+◌, [], ◌∷◌, ◌++◌, drop, Some, option_map, string_bytes, refl, sym, ap, ◌∙◌, subst, arith, rules}
use Rattle.std.proofs.lemmas.List.{drop_more, drop_all}
use Rattle.std.proofs.lemmas.Result.{on_ok_weaker}
use Rattle.json.specs.Token.{begin_array, begin_object, key}
use Rattle.json.specs.Json as json
use Rattle.serde_json.specs.Data.{null, boolean, number, string}
use Rattle.serde_json.specs.View.{view, number_view, items_view}
use Rattle.serde_json.specs.Written.{outline, WritesItems}
use Rattle.serde_json.specs.declared.value.Value.{the_lemmas}
use Rattle.serde_json.proofs.Views.{Entry, view-Array, view-Object, put_last}
use Rattle.access_rights.proofs.WrittenParts.{array_written, object_written, item_written, member_written, members_written}
use Rattle.access_rights.proofs.further.+writing.Goals as goal

pub write_value-returns-in-Null-clause-ok : goal.write_value-returns-in-Null-clause-ok
write_value-returns-in-Null-clause-ok t c =
    let seen : null ≡ view c.args.value.now = rw c.in-Null.is (search (rules, the_lemmas)) in
    on_ok_weaker c.null.result (λ e. (json.null, e, ap Some seen, omega arith, ap outline seen)) c.null.ensures.ok

pub write_value-returns-in-Bool-clause-ok : goal.write_value-returns-in-Bool-clause-ok
write_value-returns-in-Bool-clause-ok t c =
    let seen : boolean c.in-Bool.b ≡ view c.args.value.now = rw c.in-Bool.is (search (rules, the_lemmas)) in
    on_ok_weaker c.boolean.result (λ e. (json.boolean c.in-Bool.b, e, ap Some seen, omega arith, ap outline seen)) c.boolean.ensures.ok

pub write_value-returns-in-String-clause-ok : goal.write_value-returns-in-String-clause-ok
write_value-returns-in-String-clause-ok t c =
    let seen : string c.as_str.result.now ≡ view c.args.value.now = rw c.in-String.is (search (rules, the_lemmas)) in
    on_ok_weaker c.string.result (λ e. (json.string c.as_str.result.now, e, ap Some seen, omega arith, ap outline seen)) c.string.ensures.ok

pub write_value-returns-in-Number-clause-ok : goal.write_value-returns-in-Number-clause-ok
write_value-returns-in-Number-clause-ok t c =
    let seen : number (number_view c.in-Number.n) ≡ view c.args.value.now = rw c.in-Number.is (search (rules, the_lemmas)) in
    on_ok_weaker c.write_number.result
    (λ w. (json.number w.0, w.1, ap (option_map number) w.2 ∙ ap Some seen, omega arith, ap json.number w.3 ∙ ap outline seen)) c.write_number.ensures.ok

pub write_value-returns-in_ok-begin_array-in-Array-clause-ok : goal.write_value-returns-in_ok-begin_array-in-Array-clause-ok
write_value-returns-in_ok-begin_array-in-Array-clause-ok t c =
    let seen = ap view c.in-Array.is ∙ view-Array c.in-Array.items in
    let opened : c.begin_array.new.self.tokens ≡ c.args.out.now.tokens ++ begin_array ∷ [] = search rules in
    on_ok_weaker c.write_items.result (array_written _ _ _ _ _ seen opened) c.write_items.ensures.ok

pub write_value-returns-in_ok-begin_object-in-Object-clause-ok : goal.write_value-returns-in_ok-begin_object-in-Object-clause-ok
write_value-returns-in_ok-begin_object-in-Object-clause-ok t c =
    let seen = ap view c.in-Object.is ∙ view-Object c.in-Object.members in
    let opened : c.begin_object.new.self.tokens ≡ c.args.out.now.tokens ++ begin_object ∷ [] = search rules in
    on_ok_weaker c.write_members.result (object_written _ _ _ _ _ seen opened) c.write_members.ensures.ok

pub write_items-loop-item-preserved : goal.write_items-loop-item-preserved
write_items-loop-item-preserved t c =
    let l = c.loop-item in
    let xs = c.deref-item-items.result.now in
    let x = c.item-item.result in
    let here : drop l.item-index xs ≡ x ∷ drop (l.item-index + 1) xs = drop_more xs l.item-index x (omega arith)
    ∙ ap (λ y. y ∷ drop (l.item-index + 1) xs) (sym c.item-item.is) in (
      c.write_value.ensures.before ∙ l.invariant.0,
      λ end rest. l.invariant.1 end (subst (λ ys. WritesItems (items_view ys) l.out.tokens end) (sym here)
          (item_written _ _ l.out.tokens _ end c.in_ok-write_value.ensures.ok rest)),
    )

pub write_items-returns-clause-ok : goal.write_items-returns-clause-ok
write_items-returns-clause-ok t c =
    let l = c.loop-item in
    let xs = c.deref-item-items.result.now in
    let end = c.end_array.new.self.tokens in
    let none : drop l.item-index xs ≡ [] = drop_all l.item-index xs (omega arith) in
    on_ok_weaker c.end_array.result (λ e.
    subst (λ ys. WritesItems (items_view ys) c.args.out.now.tokens end) c.deref-item-items.ensures.value
    (l.invariant.1 end (subst (λ ys. WritesItems (items_view ys) l.out.tokens end) (sym none) (json.no_items, e, refl, omega arith, refl))))
    c.end_array.ensures.ok

pub write_members-loop-key-preserved : goal.write_members-loop-key-preserved
write_members-loop-key-preserved t c =
    let l = c.loop-key in
    let e : Entry = (c.in-Some.key.now, c.in-Some.member.now) in
    let left = c.next.new.self in
    let named : c.key.new.self.tokens ≡ l.out.tokens ++ key (string_bytes e.0) ∷ [] = search rules in (
      search rules,
      member_written (λ ms. ms) _ _ _ _ l.invariant.1 e left _ _ c.in-Some.ensures.steps c.iter-key-items.ensures.ordered refl
          (λ done. put_last done e left) named c.in_ok-write_value.ensures.ok,
    )

pub write_members-returns-clause-ok : goal.write_members-returns-clause-ok
write_members-returns-clause-ok t c =
    on_ok_weaker c.end_object.result (members_written (λ ms. ms) _ _ _ _ c.loop-key.invariant.1 _ c.in-None.ensures.steps.0 refl) c.end_object.ensures.ok
