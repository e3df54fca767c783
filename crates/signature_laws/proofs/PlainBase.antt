-- Where no covered component has parameters, the base is that of any signature.
use Rattle.std.proofs.Common.{◌≡◌, ◌∙◌, ℕ, Bool, true, false, ◌&&◌, ◌||◌, if◌then◌else◌, List, [], ◌∷◌, ◌++◌, Option, Some, None, refl, sym, ap, append_assoc, append-nil}
use Rattle.std.specs.Prelude.{codes}
use Rattle.std.specs.List.{list_any, AllByRecursion}
use Rattle.std.specs.Str.{bytes_eq}
use Rattle.bytes_and_lists.specs.declared.message.Message.{Message}
use Rattle.structured_fields.specs.declared.bare.Bare.{Bare}
use Rattle.structured_fields.specs.declared.bare.Bare.TheVariants.{Integer, Decimal, Str, Token, Binary, Boolean, Date, Display}
use Rattle.structured_fields.specs.declared.item.Item.{Item}
use Rattle.structured_fields.specs.Canonical.{bare_text}
use Rattle.structured_fields.specs.Reading.{◌>>=◌}
use Rattle.structured_fields.specs.Strings.{is_string}
use Rattle.message_signature.specs.declared.tags.SignatureFields.{SignatureFields}
use Rattle.message_signature.specs.Base.{is_named, line_of, base_lines, base_line, params_line, signature_base}
use Rattle.message_signature.specs.Components.{component}
use Rattle.rotation_checks.specs.RotationBase.{label_in, is_same_label, is_component, line_with, rotation_line, rotation_lines, base_with, signature_members}
use Rattle.signature_laws.specs.Rotation.{PlainBaseIsSame}

abbrev IsPlain : Item → Type 0
IsPlain item = item.params ≡ []

either : {A : Type 0} (b : Bool) (x : A) → (if b then x else x) ≡ x
either true x = refl
either false x = refl

no_label : (name : List ℕ) → label_in name [] ≡ None
no_label name = either (bytes_eq name (codes "signature") || bytes_eq name (codes "signature-input")) None

with_true : (b : Bool) → (b && true) ≡ b
with_true true = refl
with_true false = refl

-- a component is named by its name alone
named_alone : (name : List ℕ) (items : List Item) → AllByRecursion IsPlain items → list_any (is_component name None) items ≡ is_named name items
named_alone name [] plain = refl
named_alone name (item ∷ items) plain =
    ap (λ (b : Bool). b || list_any (is_component name None) items)
    (ap (λ (label : Option (List ℕ)). is_string name item.bare && is_same_label None label) (ap (label_in name) plain.0 ∙ no_label name)
    ∙ with_true (is_string name item.bare))
    ∙ ap (λ (b : Bool). is_string name item.bare || b) (named_alone name items plain.1)

string_line : (m : Message) (base : List ℕ) (fields : SignatureFields) (name : List ℕ) (others : List Item) → AllByRecursion IsPlain others
    → rotation_line m base fields (record { bare = Str name; params = [] }) others ≡ line_of m base (record { bare = Str name; params = [] }) others
string_line m base fields name others plain =
    rw (no_label name, named_alone name others plain) (by (is_named name others) (component m base name))
  where
    item : Item
    item = record { bare = Str name; params = [] }

    line : (value : List ℕ) → (bare_text (Str name) ++ []) ++ (codes ": " ++ (value ++ 10 ∷ [])) ≡ base_line name value ++ 10 ∷ []
    line value =
        ap (λ (t : List ℕ). t ++ (codes ": " ++ (value ++ 10 ∷ []))) (append-nil (bare_text (Str name)))
        ∙ sym (append_assoc (bare_text (Str name)) (codes ": " ++ value) (10 ∷ []))

    by : (again : Bool) (value : Option (List ℕ))
        → (if again then None else line_with item value) ≡ ((if again then None else value) >>= λ v. Some (base_line name v ++ 10 ∷ []))
    by true value = refl
    by false None = refl
    by false (Some value) = ap (λ (t : List ℕ). Some t) (line value)

plain_line : (m : Message) (base : List ℕ) (fields : SignatureFields) (bare : Bare) (others : List Item) → AllByRecursion IsPlain others
    → rotation_line m base fields (record { bare = bare; params = [] }) others ≡ line_of m base (record { bare = bare; params = [] }) others
plain_line m base fields (Str name) others plain = string_line m base fields name others plain
plain_line m base fields (Integer n) others plain = refl
plain_line m base fields (Decimal n) others plain = refl
plain_line m base fields (Token t) others plain = refl
plain_line m base fields (Binary b) others plain = refl
plain_line m base fields (Boolean b) others plain = refl
plain_line m base fields (Date n) others plain = refl
plain_line m base fields (Display t) others plain = refl

plain_lines : (m : Message) (base : List ℕ) (fields : SignatureFields) (items : List Item) → AllByRecursion IsPlain items
    → rotation_lines m base fields items ≡ base_lines m base items
unfolding rotation_lines base_lines
plain_lines m base fields [] plain = refl
plain_lines m base fields (item ∷ items) plain =
    let line : rotation_line m base fields item items ≡ line_of m base item items = rw plain.0 (plain_line m base fields item.bare items plain.1) in
    rw (line, plain_lines m base fields items plain.1) refl

pub plain_base : PlainBaseIsSame
unfolding base_with signature_base
plain_base m base list plain = ap (λ (lines : Option (List ℕ)). lines >>= λ ls. Some (ls ++ params_line list))
    (plain_lines m base (signature_members m) list.items plain)
