-- Where a request target ends, byte by byte.
use Rattle.std.proofs.Common.{get_or, ◌≡◌, ℕ, ◌∙◌, ◌++◌, List, [], ◌∷◌, refl, sym, ap, subst, arith, append_assoc, append-nil, inl, inr, Bool, true, false, cond}
use Rattle.std.proofs.lemmas.Bool.{or_parts}
use Rattle.std.specs.Prelude.{IsTrue, fold, ◌==◌}
use Rattle.std.proofs.lemmas.List.Elements.{All-nil, All-cons, All-head, All-tail}
use Rattle.std.proofs.lemmas.Bool.Decides.{nat_tests}
use Rattle.std.proofs.lemmas.List.Sums.{fold-append}
use Rattle.httparse.specs.Pieces.{is_newline}
use Rattle.httparse.proofs.PieceLemmas.{token_is_no_newline, space_ends_token}
use Rattle.httparse.specs.Grammar.{LineEnd, lf, crlf, print_end, print_blank, IsToken, AllPass, is_uri_byte, is_token_byte, HasNoRequest, NeverHasRequest, ReadsRequest, EndsInTarget, MayBecomeRequest}
use Rattle.http_edge.specs.declared.places.RequestPlace.{RequestPlace}
use Rattle.http_edge.specs.declared.places.RequestPlace.TheVariants.{BlankLines, BehindCr, Method, Target, Elsewhere}
use Rattle.http_edge.specs.Streams.{is_inner, InTarget, IsUndecided}
use Rattle.http_edge.specs.Steps.{next_place, is_target}

gone : (t : List ℕ) → fold next_place Elsewhere t ≡ Elsewhere
gone [] = refl
gone (c ∷ t) = gone t

in_path : (t : List ℕ) → AllPass is_inner t → fold next_place Target t ≡ Target
in_path [] all = refl
in_path (c ∷ t) all =
    let here : is_inner c ≡ true = All-head (λ (x : ℕ). IsTrue (is_inner x)) c t all in
    ap (λ (k : Bool). fold next_place (cond k Target Elsewhere) t) here ∙ in_path t (All-tail (λ (x : ℕ). IsTrue (is_inner x)) c t all)

elsewhere_is_no_target : (t : List ℕ) → fold next_place Elsewhere t ≡ Target → ⊥
elsewhere_is_no_target t e = let f : ◌≡◌ {A = RequestPlace} Elsewhere Target = sym (gone t) ∙ e in cc

pub eqb-eq : (a b : ℕ) → (a == b) ≡ true → a ≡ b
eqb-eq a b h = grind (arith, nat_tests)

path_step : (c : ℕ) (t : List ℕ) (b : Bool) → is_inner c ≡ b → fold next_place (cond b Target Elsewhere) t ≡ Target
    → (fold next_place Target t ≡ Target → AllPass is_inner t) → AllPass is_inner (c ∷ t)
path_step c t true h e ih = All-cons (λ (x : ℕ). IsTrue (is_inner x)) c t h (ih e)
path_step c t false h e ih = absurd (elsewhere_is_no_target t e)

path_in : (t : List ℕ) → fold next_place Target t ≡ Target → AllPass is_inner t
path_in [] e = All-nil _
path_in (c ∷ t) e = path_step c t (is_inner c) refl e (path_in t)

-- the rest of a method, a space, and bytes of a target
record RestOfMethod (t : List ℕ) : Type 0 where
  method : List ℕ
  target : List ℕ
  token : AllPass is_token_byte method
  inner : AllPass is_inner target
  whole : t ≡ method ++ 32 ∷ target

method_step : (c : ℕ) (t : List ℕ) (a b : Bool) → is_token_byte c ≡ a → (c == 32) ≡ b
    → fold next_place (cond a Method (cond b Target Elsewhere)) t ≡ Target → (fold next_place Method t ≡ Target → RestOfMethod t) → RestOfMethod (c ∷ t)
method_step c t true b h k e ih =
    let r : RestOfMethod t = ih e in
    record {
      method = c ∷ r.method;
      target = r.target;
      token = All-cons (λ (x : ℕ). IsTrue (is_token_byte x)) c r.method h r.token;
      inner = r.inner;
      whole = ap (λ (l : List ℕ). c ∷ l) r.whole;
    }
method_step c t false true h k e ih = record {
  method = [];
  target = t;
  token = All-nil _;
  inner = path_in t e;
  whole = ap (λ (x : ℕ). x ∷ t) (eqb-eq c 32 k);
}
method_step c t false false h k e ih = absurd (elsewhere_is_no_target t e)

method_in : (t : List ℕ) → fold next_place Method t ≡ Target → RestOfMethod t
method_in [] e = absurd (cc)
method_in (c ∷ t) e = method_step c t (is_token_byte c) (c == 32) refl refl e (method_in t)

add_end : (end : LineEnd) (t : List ℕ) → InTarget t → InTarget (print_end end ++ t)
add_end end t r = record {
  blank = end ∷ r.blank;
  method = r.method;
  target = r.target;
  token = r.token;
  inner = r.inner;
  whole = ap (λ (l : List ℕ). print_end end ++ l) r.whole ∙ grouped (print_end end) (print_blank r.blank) r.method (32 ∷ r.target);
}
  where
    grouped : (a b c d : List ℕ) → a ++ (b ++ c ++ d) ≡ (a ++ b) ++ c ++ d
    grouped a b c d = simp append_assoc

first_step : (c : ℕ) (t : List ℕ) (x y z : Bool) → (c == 10) ≡ x → (c == 13) ≡ y → is_token_byte c ≡ z
    → fold next_place (cond x BlankLines (cond y BehindCr (cond z Method Elsewhere))) t ≡ Target
    → (fold next_place BlankLines t ≡ Target → InTarget t) → (fold next_place BehindCr t ≡ Target → InTarget (13 ∷ t)) → InTarget (c ∷ t)
first_step c t true y z h k l e lfs crs =
    subst (λ (x : ℕ). InTarget (x ∷ t)) (sym (eqb-eq c 10 h)) (add_end lf t (lfs e))
first_step c t false true z h k l e lfs crs = subst (λ (x : ℕ). InTarget (x ∷ t)) (sym (eqb-eq c 13 k)) (crs e)
first_step c t false false true h k l e lfs crs =
    let r : RestOfMethod t = method_in t e in
    record {
      blank = [];
      method = c ∷ r.method;
      target = r.target;
      token = (omega arith, All-cons (λ (x : ℕ). IsTrue (is_token_byte x)) c r.method l r.token);
      inner = r.inner;
      whole = ap (λ (u : List ℕ). c ∷ u) r.whole;
    }
first_step c t false false false h k l e lfs crs = absurd (elsewhere_is_no_target t e)

cr_step : (d : ℕ) (t : List ℕ) (x : Bool) → (d == 10) ≡ x → fold next_place (cond x BlankLines Elsewhere) t ≡ Target
    → (fold next_place BlankLines t ≡ Target → InTarget t) → InTarget (13 ∷ d ∷ t)
cr_step d t true h e lfs = subst (λ (x : ℕ). InTarget (13 ∷ x ∷ t)) (sym (eqb-eq d 10 h)) (add_end crlf t (lfs e))
cr_step d t false h e lfs = absurd (elsewhere_is_no_target t e)

pub in_target_only : (w : List ℕ) → fold next_place BlankLines w ≡ Target → InTarget w
in_target_only [] e = absurd (cc)
in_target_only (c ∷ []) e =
    first_step c [] (c == 10) (c == 13) (is_token_byte c) refl refl refl e (λ f. absurd (cc)) (λ f. absurd (cc))
in_target_only (c ∷ d ∷ t) e =
    first_step c (d ∷ t) (c == 10) (c == 13) (is_token_byte c) refl refl refl e (in_target_only (d ∷ t))
    (λ f. cr_step d t (d == 10) refl f (in_target_only t))

blank_place : (ends : List LineEnd) → fold next_place BlankLines (print_blank ends) ≡ BlankLines
blank_place [] = refl
blank_place (crlf ∷ ends) = blank_place ends
blank_place (lf ∷ ends) = blank_place ends

method_place : (m : List ℕ) → AllPass is_token_byte m → fold next_place Method m ≡ Method
method_place [] all = refl
method_place (c ∷ m) all =
    let here : is_token_byte c ≡ true = All-head (λ (x : ℕ). IsTrue (is_token_byte x)) c m all in
    ap (λ (k : Bool). fold next_place (cond k Method (cond (c == 32) Target Elsewhere)) m) here
    ∙ method_place m (All-tail (λ (x : ℕ). IsTrue (is_token_byte x)) c m all)

first_place : (c : ℕ) → is_token_byte c ≡ true → next_place BlankLines c ≡ Method
first_place c token =
    let no : is_newline c ≡ false = token_is_no_newline c token in
    let cr : (c == 13) ≡ false = (or_parts _ _ no).0 in
    let nl : (c == 10) ≡ false = (or_parts _ _ no).1 in
    ap (λ (k : Bool). cond k BlankLines (cond (c == 13) BehindCr (cond (is_token_byte c) Method Elsewhere))) nl
    ∙ ap (λ (k : Bool). cond k BehindCr (cond (is_token_byte c) Method Elsewhere)) cr ∙ ap (λ (k : Bool). cond k Method Elsewhere) token

token_place : (m : List ℕ) → IsToken m → fold next_place BlankLines m ≡ Method
token_place [] token = absurd (omega (arith, token.0))
token_place (c ∷ m) token =
    let here : is_token_byte c ≡ true = All-head (λ (x : ℕ). IsTrue (is_token_byte x)) c m token.1 in
    ap (λ (k : RequestPlace). fold next_place k m) (first_place c here) ∙ method_place m (All-tail (λ (x : ℕ). IsTrue (is_token_byte x)) c m token.1)

pub in_target_true : (w : List ℕ) → InTarget w → fold next_place BlankLines w ≡ Target
in_target_true w t =
    let front : fold next_place BlankLines (print_blank t.blank ++ t.method) ≡ Method =
    fold-append next_place BlankLines (print_blank t.blank) t.method ∙ ap (λ (k : RequestPlace). fold next_place k t.method) (blank_place t.blank)
    ∙ token_place t.method t.token in
    ap (fold next_place BlankLines) t.whole ∙ fold-append next_place BlankLines (print_blank t.blank ++ t.method) (32 ∷ t.target)
    ∙ ap (λ (k : RequestPlace). fold next_place k (32 ∷ t.target)) front
    ∙ ap (λ (k : Bool). fold next_place (cond k Method Target) t.target) space_ends_token ∙ in_path t.target t.inner

inner_from_uri : (c : ℕ) → is_uri_byte c ≡ true → is_inner c ≡ true
inner_from_uri c h = grind (arith, nat_tests)

-- a target that the parser reads is one
pub in_target_from : (w : List ℕ) → EndsInTarget w → InTarget w
in_target_from w t = record {
  blank = t.0;
  method = t.1;
  target = t.2;
  token = t.3;
  inner = λ k d below. inner_from_uri (get_or t.2 k d) (t.4 k d below);
  whole = t.5;
}

pub never_now : (w : List ℕ) → NeverHasRequest w → HasNoRequest w
never_now w never = λ h rest r. never [] h rest (subst (λ (t : List ℕ). ReadsRequest t h rest) (sym (append-nil w)) r)

pub undecided_from : (w : List ℕ) → HasNoRequest w → MayBecomeRequest w → IsUndecided w
undecided_from w none (inl m) = record { none = none; may = inl (record { more = m.0; head = m.1; reads = m.2 }) }
undecided_from w none (inr t) = record { none = none; may = inr (in_target_from w t) }

pub target_only : (place : RequestPlace) → is_target place ≡ true → place ≡ Target
target_only BlankLines h = absurd (cc)
target_only BehindCr h = absurd (cc)
target_only Method h = absurd (cc)
target_only Target h = refl
target_only Elsewhere h = absurd (cc)

pub false_at : (w : List ℕ) → is_target (fold next_place BlankLines w) ≡ false → fold next_place BlankLines w ≡ Target → ⊥
false_at w h e = let f : true ≡ false = ap is_target (sym e) ∙ h in cc
