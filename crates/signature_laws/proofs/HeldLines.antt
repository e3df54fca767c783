-- A member that is covered stands in the base, as a line of its own.
use Rattle.std.proofs.Common.{◌≡◌, ◌∙◌, inl, inr, ℕ, Bool, true, false, ◌||◌, if◌then◌else◌, List, [], ◌∷◌, ◌++◌, Option, Some, None, refl, sym, ap, subst, append_assoc, append-nil, length, ◌==◌, arith}
use Rattle.std.specs.Prelude.{codes, option_map}
use Rattle.std.specs.List.{list_any}
use Rattle.std.specs.Str.{bytes_eq}
use Rattle.std.proofs.lemmas.Bool.{and_parts, or_cases}
use Rattle.std.proofs.lemmas.Bool.Decides.{Decides-eqb}
use Rattle.std.proofs.lemmas.Slice.Eq.{bytes_eq-Decides}
use Rattle.bytes_and_lists.specs.declared.message.Message.{Message}
use Rattle.structured_fields.specs.declared.bare.Bare.{Bare}
use Rattle.structured_fields.specs.declared.bare.Bare.TheVariants.{Integer, Decimal, Str, Token, Binary, Boolean, Date, Display}
use Rattle.structured_fields.specs.declared.item.Item.{Item}
use Rattle.structured_fields.specs.declared.item.InnerList.{InnerList}
use Rattle.structured_fields.specs.declared.item.Member.{Member}
use Rattle.structured_fields.specs.Canonical.{item_text, member_text}
use Rattle.structured_fields.specs.Named.{value_at}
use Rattle.structured_fields.specs.Reading.{◌>>=◌}
use Rattle.structured_fields.proofs.Fronts.{some_is}
use Rattle.structured_fields.specs.Strings.{string_in}
use Rattle.message_signature.specs.declared.tags.SignatureFields.{SignatureFields}
use Rattle.message_signature.specs.Base.{params_line}
use Rattle.rotation_checks.specs.RotationBase.{key_in, label_in, is_same_label, is_component, value_of, line_with, rotation_line, rotation_lines, base_with, signature_members, members_of}
use Rattle.rotation_checks.specs.SecondSignature.{covers_member}
use Rattle.signature_laws.specs.Rotation.{member_line, AreLines, HoldsMember, CoveredIsHeld}

-- ---- steps that give a value

record Behind {A B : Type 0} (o : Option A) (f : A → Option B) (y : B) : Type 0 where
  value : A
  is : o ≡ Some value
  rest : f value ≡ Some y

behind : {A B : Type 0} (o : Option A) (f : A → Option B) (y : B) → (o >>= f) ≡ Some y → Behind o f y
behind (Some x) f y e = record { value = x; is = refl; rest = e }
behind None f y e = absurd cc

unless : {A : Type 0} (b : Bool) (o : Option A) (y : A) → (if b then None else o) ≡ Some y → o ≡ Some y
unless true o y e = absurd cc
unless false o y e = e

only_where : {A : Type 0} (b : Bool) (o : Option A) (y : A) → (if b then o else None) ≡ Some y → (b ≡ true) × (o ≡ Some y)
only_where true o y e = (refl, e)
only_where false o y e = absurd cc

-- ---- the item that names a member

string_is : (bare : Bare) (text : List ℕ) → string_in bare ≡ Some text → bare ≡ Str text
string_is (Str t) text e = ap (λ (s : List ℕ). Str s) (some_is t text e)
string_is (Integer n) text e = absurd cc
string_is (Decimal n) text e = absurd cc
string_is (Token t) text e = absurd cc
string_is (Binary b) text e = absurd cc
string_is (Boolean b) text e = absurd cc
string_is (Date n) text e = absurd cc
string_is (Display t) text e = absurd cc

abbrev key_param : List ℕ → List (List ℕ × Bare)
key_param label = (codes "key", Str label) ∷ []

key_params : (params : List (List ℕ × Bare)) (label : List ℕ) → key_in params ≡ Some label → params ≡ key_param label
key_params [] label h = absurd cc
key_params ((name, bare) ∷ []) label h =
    let found = behind (if bytes_eq (codes "key") name then Some bare else None) string_in label h in
    let named = only_where (bytes_eq (codes "key") name) (Some bare) found.value found.is in
    let name_is : codes "key" ≡ name = (bytes_eq-Decides (codes "key") name).0 named.0 in
    let bare_is : bare ≡ Str label = some_is bare found.value named.1 ∙ string_is found.value label found.rest in
    rw (sym name_is, bare_is) refl
key_params (p ∷ q ∷ params) label h =
    let one = only_where (length (p ∷ q ∷ params) == 1) (value_at (p ∷ q ∷ params) (codes "key") >>= string_in) label h in
    absurd (omega (arith, (Decides-eqb (length (p ∷ q ∷ params)) 1).0 one.0))

same_label : (label : List ℕ) (other : Option (List ℕ)) → is_same_label (Some label) other ≡ true → other ≡ Some label
same_label label (Some text) h = ap (λ (t : List ℕ). Some t) (sym ((bytes_eq-Decides label text).0 h))
same_label label None h = absurd cc

abbrev named : List ℕ → List ℕ → Item
named name label = record { bare = Str name; params = key_param label }

item_is : (name label : List ℕ) (bare : Bare) (params : List (List ℕ × Bare)) → is_component name (Some label) (record { bare = bare; params = params }) ≡ true
    → record { bare = bare; params = params } ≡ named name label
item_is name label (Str n) params h =
    let both = and_parts (bytes_eq n name) (is_same_label (Some label) (label_in name params)) h in
    let label_is : label_in name params ≡ Some label = same_label label (label_in name params) both.1 in
    let params_are : params ≡ key_param label = key_params params label
    (only_where (bytes_eq name (codes "signature") || bytes_eq name (codes "signature-input")) (key_in params) label label_is).1 in
    rw ((bytes_eq-Decides n name).0 both.0, params_are) refl
item_is name label (Integer n) params h = absurd cc
item_is name label (Decimal n) params h = absurd cc
item_is name label (Token t) params h = absurd cc
item_is name label (Binary b) params h = absurd cc
item_is name label (Boolean b) params h = absurd cc
item_is name label (Date n) params h = absurd cc
item_is name label (Display t) params h = absurd cc

-- ---- lines

more_lines : (line text : List ℕ) → AreLines line → AreLines text → AreLines (line ++ text)
more_lines line text (inl none) lines = subst (λ (l : List ℕ). AreLines (l ++ text)) (sym none) lines
more_lines line text ends (inl none) = subst (λ (t : List ℕ). AreLines (line ++ t)) (sym none) (subst AreLines (sym (append-nil line)) ends)
more_lines line text ends (inr (front, is)) = inr (line ++ front, ap (λ (t : List ℕ). line ++ t) is ∙ sym (append_assoc line front (10 ∷ [])))

is_line : (item : Item) (value : Option (List ℕ)) (line : List ℕ) → line_with item value ≡ Some line → AreLines line
is_line item (Some value) line e =
    inr (
      item_text item ++ (codes ": " ++ value),
      sym (some_is _ line e) ∙ sym (append_assoc (item_text item) (codes ": " ++ value) (10 ∷ [])),
    )
is_line item None line e = absurd cc

module _ (m : Message) (base : List ℕ) (fields : SignatureFields) where
  whole_line : (item : Item) (others : List Item) (line : List ℕ) → rotation_line m base fields item others ≡ Some line → AreLines line
  whole_line item others line e =
      let name = behind (string_in item.bare) _ line e in
      is_line item _ line (unless (list_any (is_component name.value (label_in name.value item.params)) others) _ line name.rest)

  module _ (name label : List ℕ) (members : List (List ℕ × Member))
      (names : (bytes_eq name (codes "signature") || bytes_eq name (codes "signature-input")) ≡ true)
      (picks : (if bytes_eq name (codes "signature") then fields.signatures else fields.inputs) ≡ members) where
    record IsLineOf (line : List ℕ) : Type 0 where
      member : Member
      is : value_at members label ≡ Some member
      line_is : line ≡ member_line name label member

    member_found : (found : Option Member) (line : List ℕ) → value_at members label ≡ found
        → line_with (named name label) (option_map member_text found) ≡ Some line → IsLineOf line
    member_found (Some member) line is e = record { member = member; is = is; line_is = sym (some_is _ line e) }
    member_found None line is e = absurd cc

    line_found : (others : List Item) (line : List ℕ) → rotation_line m base fields (named name label) others ≡ Some line → IsLineOf line
    line_found others line e =
        let value_is : value_of m base fields name (key_param label) ≡ option_map member_text (value_at members label) = rw (names, picks) refl in
        member_found (value_at members label) line refl (sym (ap (line_with (named name label)) value_is) ∙ unless _ _ line e)

    record IsHeldIn (text : List ℕ) : Type 0 where
      member : Member
      is : value_at members label ≡ Some member
      before : List ℕ
      after : List ℕ
      lines : AreLines before
      split : text ≡ before ++ (member_line name label member ++ after)

    held_behind : (line text : List ℕ) → AreLines line → IsHeldIn text → IsHeldIn (line ++ text)
    held_behind line text ends h = record {
      member = h.member;
      is = h.is;
      before = line ++ h.before;
      after = h.after;
      lines = more_lines line h.before ends h.lines;
      split = ap (λ (t : List ℕ). line ++ t) h.split ∙ sym (append_assoc line h.before (member_line name label h.member ++ h.after));
    }

    held_before : (text more : List ℕ) → IsHeldIn text → IsHeldIn (text ++ more)
    held_before text more h = record {
      member = h.member;
      is = h.is;
      before = h.before;
      after = h.after ++ more;
      lines = h.lines;
      split = ap (λ (t : List ℕ). t ++ more) h.split
          ∙ append_assoc h.before (member_line name label h.member ++ h.after) more
          ∙ ap (λ (t : List ℕ). h.before ++ t) (append_assoc (member_line name label h.member) h.after more);
    }

    held_first : (line more : List ℕ) → IsLineOf line → IsHeldIn (line ++ more)
    held_first line more l = record {
      member = l.member;
      is = l.is;
      before = [];
      after = more;
      lines = inl refl;
      split = ap (λ (t : List ℕ). t ++ more) l.line_is;
    }

    lines_hold : (items : List Item) (text : List ℕ) → list_any (is_component name (Some label)) items ≡ true → rotation_lines m base fields items ≡ Some text
        → IsHeldIn text
    unfolding rotation_lines
    lines_hold [] text c e = absurd cc
    lines_hold (item ∷ items) text c e =
        let line = behind (rotation_line m base fields item items) _ text e in
        let lines = behind (rotation_lines m base fields items) _ text line.rest in
        subst IsHeldIn (some_is _ text lines.rest) (elim (or_cases (is_component name (Some label) item) (list_any (is_component name (Some label)) items) c) [
          | inl here ↦ held_first line.value lines.value (line_found items line.value
              (subst (λ (i : Item). rotation_line m base fields i items ≡ Some line.value) (item_is name label item.bare item.params here) line.is))
          | inr later ↦ held_behind line.value lines.value (whole_line item items line.value line.is) (lines_hold items lines.value later lines.is)
        ])

-- ---- the whole base

in_base : (m : Message) (base : List ℕ) (list : InnerList) (name label text : List ℕ)
    → (bytes_eq name (codes "signature") || bytes_eq name (codes "signature-input")) ≡ true
    → (if bytes_eq name (codes "signature") then (signature_members m).signatures else (signature_members m).inputs) ≡ members_of m name
    → covers_member name label list ≡ true → base_with m base (signature_members m) list ≡ Some text → HoldsMember m name label text
unfolding base_with
in_base m base list name label text names picks covers e =
    let fields = signature_members m in
    let lines = behind (rotation_lines m base fields list.items) _ text e in
    let held = held_before m base fields name label (members_of m name) names picks lines.value (params_line list)
    (lines_hold m base fields name label (members_of m name) names picks list.items lines.value covers lines.is) in
    subst (HoldsMember m name label) (some_is _ text lines.rest)
    (record { member = held.member; is = held.is; before = held.before; after = held.after; lines = held.lines; split = held.split })

pub covered_is_held : CoveredIsHeld
covered_is_held m base list label text covers e =
    let both = and_parts (covers_member (codes "signature") label list) (covers_member (codes "signature-input") label list) covers in
    (in_base m base list (codes "signature") label text refl refl both.0 e, in_base m base list (codes "signature-input") label text refl refl both.1 e)
