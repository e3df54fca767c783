-- What devices tell over several calls.
use Rattle.std.proofs.Common.{◌∙◌, ℕ, List, [], ◌++◌, ◌≡◌, refl, sym, ap, append_assoc}
use Rattle.std.specs.Prelude.{Option, Some, None, IfSome}
use Rattle.std.proofs.lemmas.List.{append-nil}
use Rattle.outside.specs.Outside.{Told, Takes, Writes, Leaves, IsRest}

pub leaves_none : (left : Option (List ℕ)) → Leaves [] left left
leaves_none None = tt
leaves_none (Some rest) = refl

pub leaves_then : (first second : List ℕ) (x y z : Option (List ℕ)) → Leaves first x y → Leaves second y z → Leaves (first ++ second) x z
leaves_then first second None y z p q = tt
leaves_then first second (Some x) None z p q = absurd p
leaves_then first second (Some x) (Some y) None p q = absurd q
leaves_then first second (Some x) (Some y) (Some z) p q = p ∙ ap (λ w. first ++ w) q ∙ sym (append_assoc first second z)

pub writes_none : (x : Told) → Writes [] x x
writes_none x = record { taken = refl; left = refl; written = sym (append-nil x.written) }

pub takes_none : (x : Told) → Takes [] x x
takes_none x = record { taken = sym (append-nil x.taken); left = leaves_none x.left; written = refl }

pub writes_then : (first second : List ℕ) (x y z : Told) → Writes first x y → Writes second y z → Writes (first ++ second) x z
writes_then first second x y z p q = record {
  taken = q.taken ∙ p.taken;
  left = q.left ∙ p.left;
  written = q.written ∙ ap (λ w. w ++ second) p.written ∙ append_assoc x.written first second;
}

pub takes_then : (first second : List ℕ) (x y z : Told) → Takes first x y → Takes second y z → Takes (first ++ second) x z
takes_then first second x y z p q = record {
  taken = q.taken ∙ ap (λ w. w ++ second) p.taken ∙ append_assoc x.taken first second;
  left = leaves_then first second x.left y.left z.left p.left q.left;
  written = q.written ∙ p.written;
}

-- What may be left after some bytes were read may, with those before it, be what was left before.
rest_over : (bytes rest : List ℕ) (l m : Option (List ℕ)) → Leaves bytes l m → IfSome m (λ left. rest ≡ left) → IfSome l (λ left. bytes ++ rest ≡ left)
rest_over bytes rest None m leaves known = tt
rest_over bytes rest (Some left) None leaves known = absurd leaves
rest_over bytes rest (Some left) (Some now) leaves known = ap (λ w. bytes ++ w) known ∙ sym leaves

pub rest_before : (bytes rest : List ℕ) (x y : Told) → Takes bytes x y → IsRest y rest → IsRest x (bytes ++ rest)
rest_before bytes rest x y p known = rest_over bytes rest x.left y.left p.left known
