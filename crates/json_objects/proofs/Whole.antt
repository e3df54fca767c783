-- What is printed has no float.
use Rattle.std.proofs.Common.{◌≡◌, ℕ, List, [], ◌∷◌, map, false, Option, Some, None, option_map, Ordering, Less, Equal, Greater, nat_cmp, refl}
use Rattle.std.specs.Cmp.Lexicographic.{slice_cmp}
use Rattle.std.specs.List.{AllByRecursion}
use Rattle.std.specs.Ordering.{match_ordering}
use Rattle.std.proofs.lemmas.Bool.{or_parts}
use Rattle.serde_json.specs.Data.{Data, string, Members, no_members, member, put}
use Rattle.serde_json.specs.Written.{has_float, items_have_float, members_have_float}
use Rattle.json_objects.specs.Objects.{members_onto, items, texts_data}

placed : (o : Ordering) (a b c : Members) → members_have_float a ≡ false → members_have_float b ≡ false → members_have_float c ≡ false
    → members_have_float (match_ordering o a b c) ≡ false
placed Less a b c p q r = p
placed Equal a b c p q r = q
placed Greater a b c p q r = r

pub put_whole : (k : List ℕ) (d : Data) (ms : Members) → has_float d ≡ false → members_have_float ms ≡ false → members_have_float (put k d ms) ≡ false
put_whole k d no_members p q = rw p
put_whole k d (member l e ms) p q =
    let h = or_parts (has_float e) _ q in
    placed (slice_cmp nat_cmp k l) _ _ _ (rw (p, h.0, h.1)) (rw (p, h.1)) (rw (h.0, put_whole k d ms p h.1))

abbrev pub IsWhole : Option Data → Type 0
IsWhole None = Unit {0}
IsWhole (Some d) = has_float d ≡ false

pub onto_whole : (ms : Members) (fs : List (List ℕ × Option Data)) → members_have_float ms ≡ false → AllByRecursion (λ f. IsWhole f.1) fs
    → members_have_float (members_onto ms fs) ≡ false
onto_whole ms [] whole h = whole
onto_whole ms ((k, None) ∷ fs) whole h = onto_whole ms fs whole h.1
onto_whole ms ((k, Some d) ∷ fs) whole h = put_whole k d _ h.0 (onto_whole ms fs whole h.1)

strings_whole : (ss : List (List ℕ)) → items_have_float (items (map string ss)) ≡ false
strings_whole [] = refl
strings_whole (s ∷ ss) = strings_whole ss

pub texts_whole : (o : Option (List (List ℕ))) → IsWhole (option_map texts_data o)
texts_whole None = tt
texts_whole (Some ss) = strings_whole ss

pub text_whole : (o : Option (List ℕ)) → IsWhole (option_map string o)
text_whole None = tt
text_whole (Some s) = refl
