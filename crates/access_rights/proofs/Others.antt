-- The other members of a right, gathered one after the other.
use Rattle.std.proofs.Common.{◌≡◌, ◌≤◌, ℕ, max, arith, List, [], ◌∷◌, ◌++◌, Bool, true, false, cond, Less, Greater, string_bytes, string_cmp, nat_cmp, refl, ap, ◌∙◌}
use Rattle.std.proofs.lemmas.Bool.{or_parts}
use Rattle.std.proofs.lemmas.Cmp.{nat_list_cmp_total}
use Rattle.std.specs.Cmp.Lexicographic.{slice_cmp}
use Rattle.std.specs.List.{AllByRecursion}
use Rattle.std.specs.List.Sorted.{IsStrictlySortedBy}
use Rattle.std.specs.Map.{keys_of}
use Rattle.std.specs.Ordering.{ordering_reverse}
use Rattle.serde_json.specs.Data.{Data, depth, members_depth, Members, no_members, member, put}
use Rattle.serde_json.specs.View.{view, members_view}
use Rattle.serde_json.specs.Written.{has_float, members_have_float}
use Rattle.serde_json.proofs.Views.{Entry}
use Rattle.access_rights.specs.Fits.{is_own, HasOthersOnly}
use Rattle.access_rights.specs.Reading.{others}

whole_at : (b : Bool) (k : List ℕ) (d : Data) (ms : Members) → has_float d ≡ false → members_have_float ms ≡ false
    → members_have_float (cond b ms (member k d ms)) ≡ false
whole_at true k d ms p q = q
whole_at false k d ms p q = rw (p, q)

pub others_whole : (ms : Members) → members_have_float ms ≡ false → members_have_float (others ms) ≡ false
others_whole no_members h = refl
others_whole (member k d ms) h = let p = or_parts (has_float d) _ h in whole_at (is_own k) k d (others ms) p.0 (others_whole ms p.1)

pub others_skip : (done : List Entry) (e : Entry) → is_own (string_bytes e.0) ≡ true → others (members_view (done ++ e ∷ [])) ≡ others (members_view done)
others_skip [] e own = rw own
others_skip (x ∷ done) e own = ap (λ ms. cond (is_own (string_bytes x.0)) ms (member (string_bytes x.0) (view x.1) ms)) (others_skip done e own)

below_middle : (first : Entry) (es : List Entry) (e : Entry) (more : List Entry) → AllByRecursion (λ y. string_cmp first.0 y ≡ Less) (keys_of (es ++ e ∷ more))
    → string_cmp first.0 e.0 ≡ Less
below_middle first [] e more h = h.0
below_middle first (x ∷ es) e more h = below_middle first es e more h.1

put_over : (b : Bool) (k l : List ℕ) (d e : Data) (old new : Members) → slice_cmp nat_cmp k l ≡ Greater → put k d old ≡ new
    → put k d (cond b old (member l e old)) ≡ cond b new (member l e new)
put_over true k l d e old new above h = h
put_over false k l d e old new above h = rw above (ap (member l e) h)

pub others_put : (done : List Entry) (e : Entry) (more : List Entry) → IsStrictlySortedBy string_cmp (keys_of (done ++ e ∷ more))
    → is_own (string_bytes e.0) ≡ false
    → put (string_bytes e.0) (view e.1) (others (members_view done)) ≡ others (members_view (done ++ e ∷ []))
unfolding IsStrictlySortedBy
others_put [] e more h other = rw other
others_put (x ∷ done) e more h other =
    let above : slice_cmp nat_cmp (string_bytes e.0) (string_bytes x.0) ≡ Greater = nat_list_cmp_total.antisymm (string_bytes e.0) (string_bytes x.0)
    ∙ ap ordering_reverse (below_middle x done e more h.0) in
    put_over (is_own (string_bytes x.0)) (string_bytes e.0) (string_bytes x.0) (view e.1) (view x.1) _ _ above (others_put done e more h.1 other)

depth_at : (b : Bool) (k : List ℕ) (d : Data) (ms : Members) (n : ℕ) → members_depth ms ≤ n → members_depth (cond b ms (member k d ms)) ≤ max (depth d) n
depth_at true k d ms n h = omega arith
depth_at false k d ms n h = omega arith

pub others_depth : (ms : Members) → members_depth (others ms) ≤ members_depth ms
others_depth no_members = omega arith
others_depth (member k d ms) = depth_at (is_own k) k d (others ms) (members_depth ms) (others_depth ms)

only_at : (b : Bool) (k : List ℕ) (d : Data) (ms : Members) → is_own k ≡ b → HasOthersOnly ms → HasOthersOnly (cond b ms (member k d ms))
only_at true k d ms e h = h
only_at false k d ms e h = (e, h)

pub others_only : (ms : Members) → HasOthersOnly (others ms)
others_only no_members = tt
others_only (member k d ms) = only_at (is_own k) k d (others ms) refl (others_only ms)
