-- A member has no more levels than its object.
use Rattle.std.proofs.Common.{◌≡◌, ◌≤◌, ◌+◌, ℕ, List, Option, Some, None, option_map, Bor, Ordering, Less, Equal, Greater, nat_cmp, arith, subst, sym}
use Rattle.std.specs.Prelude.{IfSome}
use Rattle.std.specs.Cmp.Lexicographic.{slice_cmp}
use Rattle.std.specs.Ordering.{match_ordering}
use Rattle.serde_json.specs.Data.{Data, null, boolean, number, string, array, object, Members, no_members, member, depth, members_depth}
use Rattle.serde_json.specs.Find.{get, get_member}
use Rattle.serde_json.specs.View.{view}
use Rattle.serde_json.specs.declared.value.Value.{Value}

picked : (n : ℕ) (o : Ordering) (x : Option Data) (e : Data) → IfSome x (λ d. depth d ≤ n) → depth e ≤ n
    → IfSome (match_ordering o x (Some e) x) (λ d. depth d ≤ n)
picked n Less x e h p = h
picked n Equal x e h p = p
picked n Greater x e h p = h

in_members : (k : List ℕ) (ms : Members) (n : ℕ) → members_depth ms ≤ n → IfSome (get_member k ms) (λ d. depth d ≤ n)
in_members k no_members n q = tt
in_members k (member l e ms) n q = picked n (slice_cmp nat_cmp k l) (get_member k ms) e (in_members k ms n (omega arith)) (omega arith)

-- one level fewer, at least
pub member_deeper : (k : List ℕ) (d : Data) → IfSome (get k d) (λ e. depth e + 1 ≤ depth d)
member_deeper k null = tt
member_deeper k (boolean b) = tt
member_deeper k (number x) = tt
member_deeper k (string s) = tt
member_deeper k (array ds) = tt
member_deeper k (object ms) = lifted (get_member k ms) (in_members k ms (members_depth ms) (omega arith))
  where
    lifted : (o : Option Data) → IfSome o (λ e. depth e ≤ members_depth ms) → IfSome o (λ e. depth e + 1 ≤ depth (object ms))
    lifted None h = tt
    lifted (Some e) h = omega arith

within : (o : Option Data) (m n : ℕ) → m ≤ n → IfSome o (λ e. depth e + 1 ≤ m) → IfSome o (λ e. depth e ≤ n)
within None m n q h = tt
within (Some e) m n q h = omega arith

seen : (r : Option (Bor Value)) (n : ℕ) → IfSome (option_map (λ v. view v.now) r) (λ d. depth d ≤ n) → IfSome r (λ v. depth (view v.now) ≤ n)
seen None n h = tt
seen (Some v) n h = h

-- a member that a search gave
pub member_seen : (r : Option (Bor Value)) (k : List ℕ) (d : Data) (n : ℕ) → depth d ≤ n → option_map (λ v. view v.now) r ≡ get k d
    → IfSome r (λ v. depth (view v.now) ≤ n)
member_seen r k d n q e = seen r n (subst (λ (o : Option Data). IfSome o (λ d. depth d ≤ n)) (sym e) (within (get k d) (depth d) n q (member_deeper k d)))
