use Rattle.std.proofs.Common.{◌≡◌, ℕ, List, [], ◌∷◌, ◌++◌, string_bytes, refl, sym, ap, ◌∙◌, subst, arith, rules}
use Rattle.json.specs.Lex.{fresh, after_value, after_comma}
use Rattle.json.specs.Print.{quoted}
use Rattle.serde_json.specs.Data.{string, put}
use Rattle.serde_json.specs.View.{view, items_view, members_view}
use Rattle.serde_json.specs.declared.value.Value.{String, the_lemmas}
use Rattle.serde_json.proofs.Views.{view-Array, view-Object, members_view-insert_entry}
use Rattle.body_reading.specs.PlainBodies.{SpacePassed, BeginsWith, HasItems, HasMembers}
use Rattle.body_reading.proofs.PlainBodies.{ItemsLeft, MembersLeft, string_begins, array_begins, object_begins, begins_behind, comma_and_space_passed, items_begun, item_passed, items_over_at, push_whole, members_begun, member_passed, members_over_at, put_whole, no_colon-comma, no_colon-brace, no_colon-bracket}
use Rattle.body_reading.proofs.plain_bodies.+plain.Goals as goal

pub read_value-returns-then-take : goal.read_value-returns-then-take
read_value-returns-then-take t c =
    let m = c.in_ok-read_members.field-0 in
    let opened : c.args.rest.now ≡ 123 ∷ c.take.new.self = grind arith in
    subst (λ d. BeginsWith c.args.depth d c.args.rest.now c.read_members.new.rest) (sym (view-Object m))
    (object_begins c.args.depth (members_view m.entries) c.args.rest.now c.take.new.self c.read_members.new.rest (omega arith) opened
    c.in_ok-read_members.ensures)

pub read_value-returns-then-take-2 : goal.read_value-returns-then-take-2
read_value-returns-then-take-2 t c =
    let v = c.in_ok-read_items.field-0 in
    let opened : c.args.rest.now ≡ 91 ∷ c.take-2.new.self = grind arith in
    subst (λ d. BeginsWith c.args.depth d c.args.rest.now c.read_items.new.rest) (sym (view-Array v))
    (array_begins c.args.depth (items_view v.items) c.args.rest.now c.take-2.new.self c.read_items.new.rest (omega arith) opened c.in_ok-read_items.ensures)

pub read_value-returns : goal.read_value-returns
read_value-returns t c =
    let text = c.in_ok-text.text.now in
    let seen : view (String c.in_ok-ok.field-0) ≡ string text = search (rules, the_lemmas) in
    let is : c.args.rest.now ≡ quoted text ++ c.string.new.self = grind arith in
    subst (λ d. BeginsWith c.args.depth d c.args.rest.now c.string.new.self) (sym seen)
    (string_begins c.args.depth text c.args.rest.now c.string.new.self is c.in_ok-text.ensures.plain)

pub read_items-returns-then-take : goal.read_items-returns-then-take
read_items-returns-then-take t c =
    let start = c.args.rest.now in
    let vs = c.new-found.result.items in
    let closed : start ≡ 93 ∷ c.take.new.self = grind arith in
    items_over_at c.args.depth start fresh vs start c.take.new.self refl (items_begun c.args.depth start vs c.new-found.ensures.items) closed
    (rw c.new-found.ensures.items)

pub read_items-returns-then-take-2 : goal.read_items-returns-then-take-2
read_items-returns-then-take-2 t c =
    let depth = c.args.depth in
    let start = c.args.rest.now in
    let l = c.items in
    let vs = l.found.items in
    let v = c.in_ok-item.item in
    let r = c.read_value.new.rest in
    let new = c.take-in-items.new.self in
    let closed : r ≡ 93 ∷ new = grind arith in
    let passed = item_passed depth start l.invariant.0 vs v l.rest r l.invariant.1 l.invariant.2 c.in_ok-item.ensures (no_colon-bracket r new closed) in
    let pushed : c.push.new.self.items ≡ vs ++ v ∷ [] = search rules in
    subst (λ ws. HasItems depth (items_view ws) start new) (sym pushed)
    (items_over_at depth start after_value (vs ++ v ∷ []) r new refl passed closed (push_whole vs v c.in_ok-item.ensures.whole l.invariant.3))

pub read_items-items-preserved : goal.read_items-items-preserved
read_items-items-preserved t c =
    let depth = c.args.depth in
    let start = c.args.rest.now in
    let l = c.items in
    let vs = l.found.items in
    let v = c.in_ok-item.item in
    let r = c.read_value.new.rest in
    let new = c.take_mark.new.self in
    let mark : (mid : List ℕ) × (c.take-in-items.new.self ≡ 44 ∷ mid) × SpacePassed mid new = grind arith in
    let comma : r ≡ 44 ∷ mark.0 = grind arith in
    let passed = item_passed depth start l.invariant.0 vs v l.rest r l.invariant.1 l.invariant.2 c.in_ok-item.ensures (no_colon-comma r mark.0 comma) in
    let pushed : c.push.new.self.items ≡ vs ++ v ∷ [] = search rules in
    rw pushed (
      after_comma,
      refl,
      comma_and_space_passed (ItemsLeft depth start (vs ++ v ∷ [])) start r mark.0 new passed comma mark.2,
      push_whole vs v c.in_ok-item.ensures.whole l.invariant.3,
    )

pub read_members-returns-then-take : goal.read_members-returns-then-take
read_members-returns-then-take t c =
    let start = c.args.rest.now in
    let none = ap members_view c.new-found.ensures.empty in
    let closed : start ≡ 125 ∷ c.take.new.self = grind arith in
    members_over_at c.args.depth start fresh (members_view c.new-found.result.entries) start c.take.new.self refl
    (members_begun c.args.depth start _ none) closed (rw none)

pub read_members-returns-then-take-2 : goal.read_members-returns-then-take-2
read_members-returns-then-take-2 t c =
    let depth = c.args.depth in
    let start = c.args.rest.now in
    let l = c.members in
    let old = members_view l.found.entries in
    let k = c.in_ok-name.name.now in
    let s = c.take_mark.new.self in
    let d = view c.in_ok-member.member in
    let r = c.read_value.new.rest in
    let new = c.take-in-members.new.self in
    let colon : (mid : List ℕ) × (c.string.new.self ≡ 58 ∷ mid) × SpacePassed mid c.take_mark.new.self = grind arith in
    let closed : r ≡ 125 ∷ new = grind arith in
    let named : l.rest ≡ quoted k ++ 58 ∷ colon.0 = c.in_ok-name.ensures.value ∙ ap (λ t. quoted k ++ t) colon.1 in
    let passed = member_passed depth start l.invariant.0 old k d l.rest colon.0 r l.invariant.1 l.invariant.2 named
    c.in_ok-name.ensures.plain (begins_behind depth d colon.0 s r colon.2 c.in_ok-member.ensures) (no_colon-brace r new closed) in
    let copied : string_bytes c.in_ok-key.key ≡ k = search rules in
    let inserted : members_view c.insert.new.self.entries ≡ put k d old =
    ap members_view (search rules) ∙ members_view-insert_entry l.found.entries c.in_ok-key.key c.in_ok-member.member ∙ ap (λ name. put name d old) copied in
    subst (λ ms. HasMembers depth ms start new) (sym inserted)
    (members_over_at depth start after_value (put k d old) r new refl passed closed (put_whole k d old c.in_ok-member.ensures.whole l.invariant.3))

pub read_members-members-preserved : goal.read_members-members-preserved
read_members-members-preserved t c =
    let depth = c.args.depth in
    let start = c.args.rest.now in
    let l = c.members in
    let old = members_view l.found.entries in
    let k = c.in_ok-name.name.now in
    let s = c.take_mark.new.self in
    let d = view c.in_ok-member.member in
    let r = c.read_value.new.rest in
    let new = c.take_mark-in-members.new.self in
    let colon : (mid : List ℕ) × (c.string.new.self ≡ 58 ∷ mid) × SpacePassed mid c.take_mark.new.self = grind arith in
    let mark : (mid : List ℕ) × (c.take-in-members.new.self ≡ 44 ∷ mid) × SpacePassed mid new = grind arith in
    let comma : r ≡ 44 ∷ mark.0 = grind arith in
    let named : l.rest ≡ quoted k ++ 58 ∷ colon.0 = c.in_ok-name.ensures.value ∙ ap (λ t. quoted k ++ t) colon.1 in
    let passed = member_passed depth start l.invariant.0 old k d l.rest colon.0 r l.invariant.1 l.invariant.2 named
    c.in_ok-name.ensures.plain (begins_behind depth d colon.0 s r colon.2 c.in_ok-member.ensures) (no_colon-comma r mark.0 comma) in
    let copied : string_bytes c.in_ok-key.key ≡ k = search rules in
    let inserted : members_view c.insert.new.self.entries ≡ put k d old =
    ap members_view (search rules) ∙ members_view-insert_entry l.found.entries c.in_ok-key.key c.in_ok-member.member ∙ ap (λ name. put name d old) copied in
    rw inserted (
      after_comma,
      refl,
      comma_and_space_passed (MembersLeft depth start (put k d old)) start r mark.0 new passed comma mark.2,
      put_whole k d old c.in_ok-member.ensures.whole l.invariant.3,
    )
