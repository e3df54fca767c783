-- A look-up among the fields of an object that was made.
use Rattle.std.proofs.Common.{◌≡◌, ◌∙◌, ℕ, List, [], ◌∷◌, Bool, true, false, cond, true≢false, Option, Some, None, refl, sym}
use Rattle.std.specs.Str.{bytes_eq}
use Rattle.std.proofs.lemmas.Slice.Eq.{bytes_eq-Decides}
use Rattle.serde_json.specs.Data.{Data, Members, put}
use Rattle.serde_json.specs.Find.{get_member}
use Rattle.serde_json.proofs.Views.{get_member-put, get_member-put_other}
use Rattle.json_objects.specs.Objects.{members_onto}

abbrev pub first_there : Option Data → Option Data → Option Data
first_there None o = o
first_there (Some d) o = Some d

-- the value of the field with this name
abbrev pub field_of : List ℕ → List (List ℕ × Option Data) → Option Data
field_of k [] = None
field_of k (f ∷ fs) = cond (bytes_eq k f.0) (first_there f.1 (field_of k fs)) (field_of k fs)

either : (b : Bool) (x : Option Data) → x ≡ cond b x x
either true x = refl
either false x = refl

get_member-put_at : (b : Bool) (k l : List ℕ) (d : Data) (ms : Members) (x : Option Data) → bytes_eq k l ≡ b → get_member k ms ≡ x
    → get_member k (put l d ms) ≡ cond b (Some d) x
get_member-put_at true k l d ms x e h = let same : k ≡ l = (bytes_eq-Decides k l).0 e in rw same (get_member-put l d ms)
get_member-put_at false k l d ms x e h = get_member-put_other k l d ms (λ same. true≢false (sym ((bytes_eq-Decides k l).1 same) ∙ e)) ∙ h

-- a name that the members before don't have is that of a field
pub get_member-members_onto : (k : List ℕ) (ms : Members) (fs : List (List ℕ × Option Data)) → get_member k ms ≡ None
    → get_member k (members_onto ms fs) ≡ field_of k fs
get_member-members_onto k ms [] h = h
get_member-members_onto k ms ((l, None) ∷ fs) h = get_member-members_onto k ms fs h ∙ either (bytes_eq k l) (field_of k fs)
get_member-members_onto k ms ((l, Some d) ∷ fs) h = get_member-put_at (bytes_eq k l) k l d (members_onto ms fs) (field_of k fs) refl
    (get_member-members_onto k ms fs h)
