-- A member of a value with no float has none, and nests no deeper.
use Rattle.std.proofs.Common.{◌≡◌, ◌≤◌, ℕ, List, false, Option, Some, None, Ordering, Less, Equal, Greater, nat_cmp, arith}
use Rattle.std.specs.Prelude.{IfSome}
use Rattle.std.specs.Cmp.Lexicographic.{slice_cmp}
use Rattle.std.specs.Ordering.{match_ordering}
use Rattle.std.proofs.lemmas.Bool.{or_parts}
use Rattle.serde_json.specs.Data.{Data, null, boolean, number, string, array, object, Members, no_members, member, depth, members_depth}
use Rattle.serde_json.specs.Find.{get, get_member}
use Rattle.serde_json.specs.Written.{has_float, members_have_float}
use Rattle.json_objects.specs.Bodies.{IsBody}
use Rattle.serde_json.specs.Read.{max_depth}

-- it has no float, and nests no deeper than n
abbrev IsSmall : ℕ → Data → Type 0
IsSmall n d = (has_float d ≡ false) × (depth d ≤ n)

picked : (P : Data → Type 0) (o : Ordering) (x : Option Data) (e : Data) → IfSome x P → P e → IfSome (match_ordering o x (Some e) x) P
picked P Less x e h p = h
picked P Equal x e h p = p
picked P Greater x e h p = h

in_members : (k : List ℕ) (ms : Members) (n : ℕ) → members_have_float ms ≡ false → members_depth ms ≤ n → IfSome (get_member k ms) (IsSmall n)
in_members k no_members n p q = tt
in_members k (member l e ms) n p q =
    let h = or_parts (has_float e) _ p in
    picked (IsSmall n) (slice_cmp nat_cmp k l) (get_member k ms) e (in_members k ms n h.1 (omega arith)) (h.0, omega arith)

member_small : (k : List ℕ) (d : Data) (n : ℕ) → has_float d ≡ false → depth d ≤ n → IfSome (get k d) (IsSmall n)
member_small k null n p q = tt
member_small k (boolean b) n p q = tt
member_small k (number x) n p q = tt
member_small k (string s) n p q = tt
member_small k (array ds) n p q = tt
member_small k (object ms) n p q = in_members k ms n p (omega arith)

as_body : (o : Option Data) → IfSome o (IsSmall max_depth) → IfSome o IsBody
as_body None h = tt
as_body (Some d) h = record { whole = h.0; shallow = h.1 }

pub member_body : (k : List ℕ) (d : Data) → IsBody d → IfSome (get k d) IsBody
member_body k d h = as_body (get k d) (member_small k d max_depth h.whole h.shallow)
