-- Rights that were read and printed are read again.
use Rattle.std.proofs.Common.{◌≡◌, ◌∙◌, ℕ, List, [], ◌∷◌, length, map, true, cond, Option, Some, None, option_map, Result, Ok, Ordering, Less, Equal, Greater, nat_cmp, nat_lt, codes, is_eq, refl, sym, ap, subst}
use Rattle.std.specs.Prelude.{◌==◌}
use Rattle.std.specs.Cmp.Lexicographic.{slice_cmp}
use Rattle.std.specs.List.{AllByRecursion}
use Rattle.std.specs.Ordering.{match_ordering}
use Rattle.std.proofs.lemmas.Slice.Eq.{bytes_eq-Decides}
use Rattle.std.proofs.lemmas.Map.Text.{is_eq-slice_cmp}
use Rattle.serde_json.specs.Data.{Data, string, object, Items, no_items, item, Members, no_members, member, put}
use Rattle.serde_json.specs.Find.{get, as_str, as_array, as_object}
use Rattle.serde_json.specs.Read as json
use Rattle.serde_json.specs.Written.{compact_text}
use Rattle.json_objects.specs.Objects.{members_onto, items, texts_data}
use Rattle.json_objects.specs.Reading.{◌>>=◌, or_fault, each}
use Rattle.json_objects.proofs.Fields.{get_member-members_onto}
use Rattle.access_rights.specs.declared.reading.RightsFault.{RightsFault}
use Rattle.access_rights.specs.declared.reading.RightsFault.TheVariants as faults
use Rattle.access_rights.specs.Fits.{is_own, HasOthersOnly, FitsObject, Fits}
use Rattle.access_rights.specs.Printing.{members_read, right_fields, right_members, right_data, rights_data}
use Rattle.access_rights.specs.Reading.{any_text, sized, type_of, counted, dimension_in, dimension_of, identifier_in, identifier_of, others, further_of, few_atoms, atom_count, right_object_of, object_in, right_in, right_of, rights_of}
use Rattle.access_rights.proofs.Lengths.{get_member-others}
use Rattle.gnap_model.specs.declared.rights.RightObject.{RightObject}
use Rattle.gnap_model.specs.declared.rights.Right.{Right}
use Rattle.gnap_model.specs.declared.rights.Right.TheVariants as rights
use Rattle.grant_values.proofs.Readings.{bind_ok, same_ok, refused_not, twice_not, or_none}

-- ---- other members

others_same : (ms : Members) → HasOthersOnly ms → others ms ≡ ms
others_same no_members only = refl
others_same (member k d ms) only = rw only.0 (ap (member k d) (others_same ms only.1))

own_put_at : (o : Ordering) (k l : List ℕ) (d e : Data) (ms : Members) → slice_cmp nat_cmp k l ≡ o → is_own k ≡ true → others (put k d ms) ≡ others ms
    → others (match_ordering o (member k d (member l e ms)) (member l d ms) (member l e (put k d ms))) ≡ others (member l e ms)
own_put_at Less k l d e ms is own h = rw own
own_put_at Equal k l d e ms is own h =
    let same : k ≡ l = (bytes_eq-Decides k l).0 (sym (is_eq-slice_cmp k l) ∙ ap is_eq is) in
    let other_own : is_own l ≡ true = ap is_own (sym same) ∙ own in
    rw other_own
own_put_at Greater k l d e ms is own h = ap (λ ns. cond (is_own l) ns (member l e ns)) h

own_put : (k : List ℕ) (d : Data) (ms : Members) → is_own k ≡ true → others (put k d ms) ≡ others ms
own_put k d no_members own = rw own
own_put k d (member l e ms) own = own_put_at (slice_cmp nat_cmp k l) k l d e ms refl own (own_put k d ms own)

others_onto : (ms : Members) (fs : List (List ℕ × Option Data)) → AllByRecursion (λ f. is_own f.0 ≡ true) fs → others (members_onto ms fs) ≡ others ms
others_onto ms [] own = refl
others_onto ms ((k, None) ∷ fs) own = others_onto ms fs own.1
others_onto ms ((k, Some d) ∷ fs) own = own_put k d (members_onto ms fs) own.0 ∙ others_onto ms fs own.1

-- ---- what a right has passed

abbrev IsSized : List ℕ → Type 0
IsSized s = sized s ≡ Ok s

abbrev IsCounted : Option (List (List ℕ)) → Type 0
IsCounted None = Unit {0}
IsCounted (Some ss) = counted ss ≡ Ok ss

-- the tests on the parts of a right in full
record IsInBounds (r : RightObject) : Type 0 where
  kind : IsSized r.kind
  actions : IsCounted r.actions
  locations : IsCounted r.locations
  datatypes : IsCounted r.datatypes
  privileges : IsCounted r.privileges
  few : few_atoms r ≡ Ok r

abbrev HasPassed : Right → Type 0
HasPassed (rights.Reference s) = IsSized s
HasPassed (rights.Object r) = IsInBounds r

read_sized : (s t : List ℕ) → sized s ≡ Ok t → IsSized t
read_sized s t is =
    let parts = twice_not (length s == 0) (nat_lt 256 (length s)) faults.Wrong faults.TooMany s t is in
    subst IsSized parts.2 (rw (parts.0, parts.1) refl)

read_counted : (ss ts : List (List ℕ)) → counted ss ≡ Ok ts → counted ts ≡ Ok ts
read_counted ss ts is =
    let parts = twice_not (length ss == 0) (nat_lt 16 (length ss)) faults.Wrong faults.TooMany ss ts is in
    subst (λ x. counted x ≡ Ok x) parts.2 (rw (parts.0, parts.1) refl)

read_type : (d : Data) (kind : List ℕ) → type_of d ≡ Ok kind → IsSized kind
unfolding type_of
read_type d kind is =
    let text = bind_ok (or_fault faults.Wrong (get (codes "type") d) >>= any_text) sized kind is in
    read_sized text.0 kind text.2

read_dimension_in : (o : Option Data) (texts : Option (List (List ℕ))) → dimension_in o ≡ Ok texts → IsCounted texts
read_dimension_in None texts is = let same = same_ok None texts is in subst IsCounted same tt
read_dimension_in (Some d) texts is =
    let some = bind_ok (or_fault faults.Wrong (as_array d) >>= each any_text >>= counted) _ texts is in
    let all = bind_ok (or_fault faults.Wrong (as_array d) >>= each any_text) counted some.0 some.1 in
    let same = same_ok (Some some.0) texts some.2 in
    subst IsCounted same (read_counted all.0 some.0 all.2)

read_dimension : (name : List ℕ) (d : Data) (texts : Option (List (List ℕ))) → dimension_of name d ≡ Ok texts → IsCounted texts
unfolding dimension_of
read_dimension name d texts is = read_dimension_in (get name d) texts is

few_again : (r s : RightObject) → few_atoms r ≡ Ok s → (r ≡ s) × (few_atoms s ≡ Ok s)
few_again r s is =
    let parts = refused_not (nat_lt 1024 (atom_count r)) faults.TooMany r s is in
    (parts.1, subst (λ x. few_atoms x ≡ Ok x) parts.1 (rw parts.0 refl))

read_object : (d : Data) (ms : Members) (r : RightObject) → right_object_of d ms ≡ Ok r → IsInBounds r
unfolding right_object_of
read_object d ms r is =
    let kind = bind_ok (type_of d) _ r is in
    let actions = bind_ok (dimension_of (codes "actions") d) _ r kind.2 in
    let locations = bind_ok (dimension_of (codes "locations") d) _ r actions.2 in
    let datatypes = bind_ok (dimension_of (codes "datatypes") d) _ r locations.2 in
    let privileges = bind_ok (dimension_of (codes "privileges") d) _ r datatypes.2 in
    let identifier = bind_ok (identifier_of d) _ r privileges.2 in
    let made : RightObject = record {
      kind = kind.0;
      actions = actions.0;
      locations = locations.0;
      datatypes = datatypes.0;
      privileges = privileges.0;
      identifier = identifier.0;
      further = further_of ms;
    } in
    let passed = few_again made r identifier.2 in
    record {
      kind = read_type d r.kind (kind.1 ∙ ap (λ (x : RightObject). Ok x.kind) passed.0);
      actions = read_dimension (codes "actions") d r.actions (actions.1 ∙ ap (λ (x : RightObject). Ok x.actions) passed.0);
      locations = read_dimension (codes "locations") d r.locations (locations.1 ∙ ap (λ (x : RightObject). Ok x.locations) passed.0);
      datatypes = read_dimension (codes "datatypes") d r.datatypes (datatypes.1 ∙ ap (λ (x : RightObject). Ok x.datatypes) passed.0);
      privileges = read_dimension (codes "privileges") d r.privileges (privileges.1 ∙ ap (λ (x : RightObject). Ok x.privileges) passed.0);
      few = passed.1;
    }

read_object_in : (d : Data) (o : Option Members) (r : Right) → object_in d o ≡ Ok r → HasPassed r
read_object_in d None r is = absurd cc
read_object_in d (Some ms) r is =
    let read = bind_ok (right_object_of d ms) _ r is in
    subst HasPassed (same_ok (rights.Object read.0) r read.2) (read_object d ms read.0 read.1)

read_right_in : (d : Data) (o : Option (List ℕ)) (r : Right) → right_in d o ≡ Ok r → HasPassed r
read_right_in d None r is = read_object_in d (as_object d) r is
read_right_in d (Some s) r is =
    let read = bind_ok (sized s) _ r is in
    subst HasPassed (same_ok (rights.Reference read.0) r read.2) (read_sized s read.0 read.1)

read_right : (d : Data) (r : Right) → right_of d ≡ Ok r → HasPassed r
unfolding right_of
read_right d r is = read_right_in d (as_str d) r is

read_each : (ds : Items) (rs : List Right) → each right_of ds ≡ Ok rs → AllByRecursion HasPassed rs
read_each no_items rs is = subst (AllByRecursion HasPassed) (same_ok [] rs is) tt
read_each (item d ds) rs is =
    let first = bind_ok (right_of d) _ rs is in
    let rest = bind_ok (each right_of ds) _ rs first.2 in
    subst (AllByRecursion HasPassed) (same_ok (first.0 ∷ rest.0) rs rest.2) (read_right d first.0 first.1, read_each ds rest.0 rest.1)

read_rights : (d : Data) (rs : List Right) → rights_of d ≡ Ok rs → AllByRecursion HasPassed rs
unfolding rights_of
read_rights d rs is =
    let ds = bind_ok (or_fault faults.Wrong (as_array d)) (each right_of) rs is in
    read_each ds.0 rs ds.2

-- ---- what is printed

each_text : (ss : List (List ℕ)) → each any_text (items (map string ss)) ≡ Ok ss
each_text [] = refl
each_text (s ∷ ss) = rw (each_text ss) refl

dimension_again : (o : Option (List (List ℕ))) → IsCounted o → dimension_in (option_map texts_data o) ≡ Ok o
dimension_again None few = refl
dimension_again (Some ss) few = rw (each_text ss, few) refl

identifier_again : (o : Option (List ℕ)) → identifier_in (option_map string o) ≡ Ok o
identifier_again None = refl
identifier_again (Some s) = refl

abbrev type_in : Option Data → Result (List ℕ) RightsFault
type_in o = or_fault faults.Wrong o >>= any_text >>= sized

object_parts : (r : RightObject) (d : Data) (ms : Members) → type_of d ≡ Ok r.kind → dimension_of (codes "actions") d ≡ Ok r.actions
    → dimension_of (codes "locations") d ≡ Ok r.locations
    → dimension_of (codes "datatypes") d ≡ Ok r.datatypes → dimension_of (codes "privileges") d ≡ Ok r.privileges → identifier_of d ≡ Ok r.identifier
    → further_of ms ≡ r.further → few_atoms r ≡ Ok r
    → right_object_of d ms ≡ Ok r
unfolding right_object_of
object_parts r d ms e0 e1 e2 e3 e4 e5 e6 e7 = rw (e0, e1, e2, e3, e4, e5, e6) e7

object_again : (r : RightObject) → FitsObject r → IsInBounds r → right_object_of (object (right_members r)) (right_members r) ≡ Ok r
unfolding right_members type_of dimension_of identifier_of is_own
object_again r fits read =
    let f = fits.further in
    let ms = members_read (json.read r.further) in
    let only : HasOthersOnly ms = rw f.read_as f.others_only in
    let look = λ (k : List ℕ) (own : is_own k ≡ true). get_member-members_onto k ms (right_fields r) (get_member-others k ms own only) in
    let rest : others (right_members r) ≡ f.members = others_onto ms (right_fields r) (refl, (refl, (refl, (refl, (refl, (refl, tt)))))) ∙ others_same ms only
    ∙ ap members_read f.read_as in
    object_parts r (object (right_members r)) (right_members r)
    (ap type_in (look (codes "type") refl) ∙ read.kind)
    (ap dimension_in (look (codes "actions") refl ∙ or_none _) ∙ dimension_again r.actions read.actions)
    (ap dimension_in (look (codes "locations") refl ∙ or_none _) ∙ dimension_again r.locations read.locations)
    (ap dimension_in (look (codes "datatypes") refl ∙ or_none _) ∙ dimension_again r.datatypes read.datatypes)
    (ap dimension_in (look (codes "privileges") refl ∙ or_none _) ∙ dimension_again r.privileges read.privileges)
    (ap identifier_in (look (codes "identifier") refl ∙ or_none _) ∙ identifier_again r.identifier)
    (ap (λ ns. compact_text (object ns)) rest ∙ f.compact)
    read.few

right_again : (r : Right) → Fits r → HasPassed r → right_of (right_data r) ≡ Ok r
unfolding right_of
right_again (rights.Reference s) fits read = rw read refl
right_again (rights.Object r) fits read = rw (object_again r fits read) refl

each_again : (rs : List Right) → AllByRecursion Fits rs → AllByRecursion HasPassed rs → each right_of (items (map right_data rs)) ≡ Ok rs
each_again [] fits read = refl
each_again (r ∷ rs) fits read = rw (right_again r fits.0 read.0, each_again rs fits.1 read.1) refl

pub rights_again : (d : Data) (rs : List Right) → rights_of d ≡ Ok rs → AllByRecursion Fits rs → rights_of (rights_data rs) ≡ Ok rs
unfolding rights_of
rights_again d rs is fits = each_again rs fits (read_rights d rs is)
