-- The length of a right in full.
use Rattle.std.proofs.Common.{◌≡◌, ◌∙◌, ℕ, ◌+◌, ◌-◌, ◌<◌, List, [], ◌∷◌, length, map, sum, Bool, true, false, true≢false, Option, Some, None, option_map, Ordering, Less, Equal, Greater, nat_cmp, is_eq, codes, refl, ap, sym, arith}
use Rattle.std.specs.Cmp.Lexicographic.{slice_cmp}
use Rattle.std.specs.Ordering.{match_ordering}
use Rattle.std.specs.Str.{bytes_eq}
use Rattle.std.proofs.lemmas.Bool.Decides.{nat_tests}
use Rattle.std.proofs.lemmas.Map.Text.{is_eq-slice_cmp}
use Rattle.std.proofs.lemmas.Slice.Eq.{bytes_eq-Decides}
use Rattle.json_objects.proofs.Fields.{field_of, get_member-members_onto}
use Rattle.json_objects.proofs.Lengths.{AreNew, members_size-members_onto, capped-sum, capped-enclosed_size, length-object, length-quoted}
use Rattle.json_objects.specs.Objects.{texts_data}
use Rattle.json_objects.specs.Sizes.{capped, enclosed_size, members_size, field_size}
use Rattle.serde_json.specs.Data.{Data, string, object, Members, no_members, member}
use Rattle.serde_json.specs.Find.{get_member}
use Rattle.serde_json.specs.Read.{read}
use Rattle.serde_json.specs.Written.{compact_text}
use Rattle.gnap_model.specs.declared.rights.RightObject.{RightObject}
use Rattle.access_rights.specs.Fits.{is_own, HasOthersOnly, FitsObject}
use Rattle.access_rights.specs.Printing.{members_read, right_fields, right_members}

-- ---- no further member has the name of a field

at_other : (o : Ordering) (x : Option Data) (e : Data) → is_eq o ≡ false → x ≡ None → match_ordering o x (Some e) x ≡ None
at_other Less x e h n = n
at_other Equal x e h n = absurd (true≢false h)
at_other Greater x e h n = n

differ : (k l : List ℕ) (b : Bool) → bytes_eq k l ≡ b → is_own k ≡ true → is_own l ≡ false → b ≡ false
differ k l true e p q = absurd (true≢false (sym p ∙ ap is_own ((bytes_eq-Decides k l).0 e) ∙ q))
differ k l false e p q = refl

pub get_member-others : (k : List ℕ) (ms : Members) → is_own k ≡ true → HasOthersOnly ms → get_member k ms ≡ None
get_member-others k no_members own h = refl
get_member-others k (member l e ms) own h = at_other (slice_cmp nat_cmp k l) _ e (is_eq-slice_cmp k l ∙ differ k l _ refl own h.0)
    (get_member-others k ms own h.1)

-- ---- the object of further members

pub two_or_more : (ms : Members) (f : List ℕ) → length f ≡ enclosed_size (members_size ms)
    → (length f ≡ 2 → members_size ms ≡ 0) × ((length f ≡ 2 → ⊥) → members_size ms ≡ length f - 1)
two_or_more no_members f is = (λ two. refl, λ more. absurd (more is))
two_or_more (member k d ms) f is =
    let q = length-quoted k in
    let pos : 3 < members_size (member k d ms) = omega (arith, q) in
    let size : length f ≡ members_size (member k d ms) + 1 = is ∙ grind (arith, nat_tests, pos) in
    (λ two. absurd (omega arith), λ more. omega arith)

-- ---- a right in full

-- the names are a right's own, and none stands twice
abbrev AreDistinctOwn : List (List ℕ × Option Data) → Type 0
AreDistinctOwn [] = Unit {0}
AreDistinctOwn (f ∷ fs) = (is_own f.0 ≡ true) × (field_of f.0 fs ≡ None) × AreDistinctOwn fs

new_names : (ms : Members) → HasOthersOnly ms → (fs : List (List ℕ × Option Data)) → AreDistinctOwn fs → AreNew ms fs
new_names ms only [] h = tt
new_names ms only (f ∷ fs) h = (get_member-members_onto f.0 ms fs (get_member-others f.0 ms h.0 only) ∙ h.1, new_names ms only fs h.2)

own_fields : (r : RightObject) → AreDistinctOwn (right_fields r)
unfolding is_own
own_fields r = (refl, refl, (refl, refl, (refl, refl, (refl, refl, (refl, refl, (refl, refl, tt))))))

-- the sizes of the fields, and that of the further members
abbrev pub sizes_of : RightObject → List ℕ
sizes_of r =
    field_size (codes "type") (Some (string r.kind)) ∷
    field_size (codes "actions") (option_map texts_data r.actions) ∷
    field_size (codes "locations") (option_map texts_data r.locations) ∷
    field_size (codes "datatypes") (option_map texts_data r.datatypes) ∷
    field_size (codes "privileges") (option_map texts_data r.privileges) ∷
    field_size (codes "identifier") (option_map string r.identifier) ∷
    members_size (members_read (read r.further)) ∷ []

sum_of_seven : (a b c d e f g : ℕ) → sum (a ∷ b ∷ c ∷ d ∷ e ∷ f ∷ g ∷ []) ≡ a + (b + (c + (d + (e + (f + 0))))) + g
sum_of_seven a b c d e f g = omega arith

pub told_object : (r : RightObject) → FitsObject r
    → capped (enclosed_size (capped (sum (map capped (sizes_of r))))) ≡ capped (length (compact_text (object (right_members r))))
unfolding right_members
told_object r fits =
    let ms = members_read (read r.further) in
    let only : HasOthersOnly ms = rw fits.further.read_as fits.further.others_only in
    let onto = members_size-members_onto ms (right_fields r) (new_names ms only (right_fields r) (own_fields r)) in
    let all : sum (sizes_of r) ≡ members_size (right_members r) = sum_of_seven _ _ _ _ _ _ _ ∙ sym onto in
    ap (λ n. capped (enclosed_size n)) (capped-sum (sizes_of r) ∙ ap capped all)
    ∙ capped-enclosed_size (members_size (right_members r)) ∙ ap capped (sym (length-object (right_members r)))
