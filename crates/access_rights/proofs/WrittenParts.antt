-- What is written for an array or an object, from what is written for its parts.
use Rattle.std.proofs.Common.{◌≡◌, ◌≤◌, List, [], ◌∷◌, ◌++◌, Some, option_map, option_and_then, string_bytes, string_cmp, sym, ap, ap₂, ◌∙◌, subst, arith, append_assoc, append-nil}
use Rattle.std.specs.List.Sorted.{IsStrictlySortedBy}
use Rattle.std.specs.Map.{keys_of}
use Rattle.json.specs.Token.{Token, begin_array, begin_object, end_object, key}
use Rattle.json.specs.Json as json
use Rattle.json.specs.Tree as tree
use Rattle.serde_json.specs.Data.{Data, array, object, Items, item, Members, no_members, member, put, members_depth}
use Rattle.serde_json.specs.Read.{of_items, of_members}
use Rattle.serde_json.specs.View.{view, members_view}
use Rattle.serde_json.specs.Written.{blank_members, members_outline, WritesValue, WritesItems, WritesMembers}
use Rattle.serde_json.proofs.Views.{Entry}

behind : (first : Token) (old begun inner new : List Token) → begun ≡ old ++ first ∷ [] → new ≡ begun ++ inner → new ≡ old ++ first ∷ inner
behind first old begun inner new opened rest = rest ∙ ap (λ ts. ts ++ inner) opened ∙ append_assoc old (first ∷ []) inner

pub array_written : (ds : Items) (d : Data) (old begun new : List Token) → d ≡ array ds → begun ≡ old ++ begin_array ∷ []
    → WritesItems ds begun new → WritesValue d old new
array_written ds d old begun new seen opened w = subst (λ e. WritesValue e old new) (sym seen)
    (json.array w.0, behind begin_array old begun (tree.items_tokens w.0) new opened w.1, ap (option_map array) w.2, omega (arith, w.3), ap json.array w.4)

pub object_written : (ms : Members) (d : Data) (old begun new : List Token) → d ≡ object ms → begun ≡ old ++ begin_object ∷ []
    → WritesMembers ms begun new → WritesValue d old new
object_written ms d old begun new seen opened w = subst (λ e. WritesValue e old new) (sym seen) (
  json.object w.0,
  behind begin_object old begun (tree.members_tokens w.0) new opened w.1,
  ap (option_map object) w.2,
  omega (arith, w.3),
  ap json.object
      w.4,
)

pub item_written : (d : Data) (ds : Items) (old mid new : List Token) → WritesValue d old mid → WritesItems ds mid new → WritesItems (item d ds) old new
item_written d ds old mid new w rest = (
  json.item w.0 rest.0,
  rest.1 ∙ ap (λ ts. ts ++ tree.items_tokens rest.0) w.1 ∙ append_assoc old _ _,
  ap (option_and_then (λ e. option_map (item e) (of_items rest.0))) w.2 ∙ ap (option_map (item d)) rest.2,
  omega (arith, w.3, rest.3),
  ap₂ json.item w.4 rest.4,
)

-- of the members those that are kept are written: whatever writes the ones that are left writes all of them from the start
abbrev pub EndsMembers : (Members → Members) → List Entry → List Entry → List Token → List Token → Type 0
EndsMembers kept all left begun now = (done : List Entry) × (all ≡ done ++ left)
    × ((ms : json.Members) → of_members ms (kept (members_view done)) ≡ Some (kept (members_view all))
    → tree.members_depth ms ≤ members_depth (kept (members_view left))
    → blank_members ms ≡ members_outline (kept (members_view left))
    → WritesMembers (kept (members_view all)) begun (now ++ tree.members_tokens ms))

module _ (kept : Members → Members) (all left : List Entry) (begun now : List Token) (ends : EndsMembers kept all left begun now) where
  pub member_written : (e : Entry) (rest : List Entry) (named new : List Token) → left ≡ e ∷ rest → IsStrictlySortedBy string_cmp (keys_of all)
      → kept (members_view (e ∷ rest)) ≡ member (string_bytes e.0) (view e.1) (kept (members_view rest))
      → ((done : List Entry) → IsStrictlySortedBy string_cmp (keys_of (done ++ e ∷ rest))
      → put (string_bytes e.0) (view e.1) (kept (members_view done)) ≡ kept (members_view (done ++ e ∷ [])))
      → named ≡ now ++ key (string_bytes e.0) ∷ [] → WritesValue (view e.1) named new → EndsMembers kept all rest begun new
  member_written e rest named new step sorted first last opened w =
      let done = ends.0 in
      let k = string_bytes e.0 in
      let here : all ≡ done ++ e ∷ rest = ends.1 ∙ ap (λ es. done ++ es) step in
      let put_here = last done (subst (λ es. IsStrictlySortedBy string_cmp (keys_of es)) here sorted) in
      let ahead : kept (members_view left) ≡ member k (view e.1) (kept (members_view rest)) = ap (λ es. kept (members_view es)) step ∙ first in (
        done ++ e ∷ [],
        here ∙ sym (append_assoc done (e ∷ []) rest),
        λ ms reads shallow same.
            let tokens : now ++ tree.members_tokens (json.member k w.0 ms) ≡ new ++ tree.members_tokens ms =
            sym (ap (λ ts. ts ++ tree.members_tokens ms) (w.1 ∙ ap (λ ts. ts ++ tree.json_tokens w.0) opened)
            ∙ append_assoc _ (tree.json_tokens w.0) _ ∙ append_assoc now (key k ∷ []) _) in
            subst (WritesMembers (kept (members_view all)) begun) tokens
            (ends.2 (json.member k w.0 ms)
            (ap (option_and_then (λ d. of_members ms (put k d (kept (members_view done))))) w.2 ∙ ap (of_members ms) put_here ∙ reads)
            (omega (arith, w.3, shallow, ap members_depth ahead))
            (ap₂ (json.member k) w.4 same ∙ ap members_outline (sym ahead))),
      )

  pub members_written : (new : List Token) → left ≡ [] → kept no_members ≡ no_members → new ≡ now ++ end_object ∷ []
      → WritesMembers (kept (members_view all)) begun new
  members_written new none nothing closed =
      let done : all ≡ ends.0 = ends.1 ∙ ap (λ es. ends.0 ++ es) none ∙ append-nil ends.0 in
      let ahead : kept (members_view left) ≡ no_members = ap (λ es. kept (members_view es)) none ∙ nothing in
      subst (WritesMembers (kept (members_view all)) begun) (sym closed)
      (ends.2 json.no_members (ap (λ es. Some (kept (members_view es))) (sym done)) (omega arith) (ap members_outline (sym ahead)))
