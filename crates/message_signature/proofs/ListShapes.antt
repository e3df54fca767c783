-- The shape of a list in canonical text.
use Rattle.std.proofs.Common.{◌≡◌, ℕ, ◌+◌, ◌≤◌, true, List, [], ◌∷◌, ◌++◌, length, drop, Option, Some, None, refl, sym, ap, ◌∙◌, arith}
use Rattle.std.specs.Prelude.{codes, Ok}
use Rattle.std.specs.Option.{IfSome, option_map}
use Rattle.std.specs.List.{AllByRecursion}
use Rattle.std.proofs.lemmas.List.{length-append}
use Rattle.std.proofs.Math.Seq.{drop-append-add}
use Rattle.structured_fields.specs.declared.bare.Bare.{Bare}
use Rattle.structured_fields.specs.declared.bare.Bare.TheVariants.{Integer, Decimal, Str, Token, Binary, Boolean, Date, Display}
use Rattle.structured_fields.specs.declared.item.Item.{Item}
use Rattle.structured_fields.specs.declared.item.InnerList.{InnerList}
use Rattle.structured_fields.specs.declared.item.Member.{Member}
use Rattle.structured_fields.specs.declared.item.Member.TheVariants.{Inner}
use Rattle.structured_fields.specs.Canonical.{params_text, inner_text, AreInRange}
use Rattle.structured_fields.specs.Letters.{is_key}
use Rattle.structured_fields.specs.Named.{value_at, IsDistinct}
use Rattle.structured_fields.specs.PlainLists.{front_text, IsPlainString, IsPlainItem, one_list}
use Rattle.structured_fields.specs.Reading.{dictionary_of}
use Rattle.structured_fields.specs.Strings.{is_any_string, are_strings, holds_string}
use Rattle.structured_fields.proofs.PlainLists.{plain_list_is_read, shown_behind}
use Rattle.dictionary_lookup.specs.Skipping.{up_to_parameters, matches_among, strings_in}
use Rattle.message_signature.specs.declared.base_template.BaseTemplate.{BaseTemplate}
use Rattle.message_signature.specs.declared.demands.Covering.{Covering}
use Rattle.message_signature.specs.BaseTemplates.{template_of}
use Rattle.message_signature.specs.Demands.{covering_of}
use Rattle.message_signature.specs.declared.fault.SigFault.{SigFault}
use Rattle.message_signature.specs.declared.fault.SigFault.TheVariants.{NotAField}
use Rattle.message_signature.specs.declared.lone.LoneSignature.{LoneSignature}
use Rattle.message_signature.specs.Faults.{need, Fails}
use Rattle.message_signature.specs.ListShapes.{IsShapeOf}
use Rattle.message_signature.specs.Lone.{read_tagged, formed, lone_seen, IsLone}
use Rattle.message_signature.specs.Verified.{signature_under}
use Rattle.message_signature.proofs.LoneSteps.{signature_fails, once_lone, once_refused}

is_string_if_plain : (b : Bare) → IsPlainString b → is_any_string b ≡ true
is_string_if_plain (Str s) plain = refl
is_string_if_plain (Integer n) plain = absurd plain
is_string_if_plain (Decimal n) plain = absurd plain
is_string_if_plain (Token s) plain = absurd plain
is_string_if_plain (Binary s) plain = absurd plain
is_string_if_plain (Boolean b) plain = absurd plain
is_string_if_plain (Date n) plain = absurd plain
is_string_if_plain (Display s) plain = absurd plain

strings : (items : List Item) → AllByRecursion IsPlainItem items → are_strings items ≡ true
strings [] plain = refl
strings (item ∷ items) plain = rw (is_string_if_plain item.bare plain.0.0, strings items plain.1) refl

uncut : (items : List Item) → AllByRecursion IsPlainItem items → up_to_parameters items ≡ items
uncut [] plain = refl
uncut (item ∷ items) plain = rw (plain.0.1, uncut items plain.1) refl

pub shape_of_plain : (front label : List ℕ) (items : List Item) (template : BaseTemplate) (covering : Covering) → front ≡ front_text label items
    → is_key label ≡ true → AllByRecursion IsPlainItem items → template_of items ≡ Some template → covering ≡ covering_of items
    → IsShapeOf front label template covering items
shape_of_plain front label items template covering is key plain templates covers = (
  is,
  λ params range distinct. rw is (plain_list_is_read label items params key plain range distinct),
  strings items plain,
  uncut items plain,
  templates,
  covers,
)

-- ---- the text of the list

-- the text of such a list is its label, `=`, and the canonical text of the list
abbrev pub ShownBehind : List ℕ → InnerList → List ℕ → Type 0
ShownBehind label list text = (length label + 1 ≤ length text) × (drop (length label + 1) text ≡ inner_text list)

pub text_behind : (label text front : List ℕ) (list : InnerList) → front ≡ front_text label list.items → text ≡ front ++ params_text list.params
    → ShownBehind label list text
text_behind label text front list is whole = (
  (let size = length-append label (61 ∷ inner_text list) in let long = ap length parts in omega (arith, size, long)),
  ap (drop (length label + 1)) parts ∙ drop-append-add label (61 ∷ inner_text list) 1,
)
  where
    parts : text ≡ label ++ (61 ∷ inner_text list)
    parts = whole ∙ ap (λ (f : List ℕ). f ++ params_text list.params) is ∙ shown_behind label list.items list.params

pub behind_front : (input front rest : List ℕ) (o : Option (List (List ℕ × Bare))) → input ≡ front ++ rest
    → IfSome o (λ params. (rest ≡ params_text params) × AreInRange params × IsDistinct params) → IfSome o (λ params. input ≡ front ++ params_text params)
behind_front input front rest None parts h = tt
behind_front input front rest (Some params) parts h = parts ∙ ap (λ (t : List ℕ). front ++ t) h.0

pub shape_reads : (front label text : List ℕ) (template : BaseTemplate) (covering : Covering) (items : List Item) (params : List (List ℕ × Bare))
    → IsShapeOf front label template covering items → text ≡ front ++ params_text params → AreInRange params → IsDistinct params
    → dictionary_of text ≡ Some (one_list label items params)
shape_reads front label text template covering items params shape is range distinct = ap dictionary_of is ∙ shape.1 params range distinct

-- ---- the signature of a list with a tag

module _ (input signature tag label : List ℕ) (list : InnerList) (reads : dictionary_of input ≡ Some (one_list label list.items list.params))
    (strings : are_strings list.items ≡ true) (uncut : up_to_parameters list.items ≡ list.items)
    (tagged : holds_string tag (value_at list.params (codes "tag")) ≡ true) where
  abbrev dictionary : List (List ℕ × Member)
  dictionary = one_list label list.items list.params

  once : matches_among (codes "tag") tag dictionary ≡ (label, Inner list) ∷ []
  once = rw tagged refl

  held : Some list ≡ strings_in (Inner list)
  held = rw (strings, uncut) refl

  pub no_bytes_of_shaped : (e : SigFault) → Fails e (need NotAField (option_map (signature_under label) (dictionary_of signature)))
      → Fails e (read_tagged input signature tag)
  no_bytes_of_shaped = signature_fails input signature tag dictionary reads label

  module _ (o : Option (List ℕ)) (bytes : need NotAField (option_map (signature_under label) (dictionary_of signature)) ≡ Ok o) where
    pub shaped_refused : (e : SigFault) → Fails e (formed label list o) → Fails e (read_tagged input signature tag)
    shaped_refused = once_refused input signature tag dictionary reads label (Inner list) list o bytes once held

    pub shaped_lone : (one : LoneSignature) → formed label list o ≡ Ok (lone_seen label one) → IsLone (read_tagged input signature tag) one
    shaped_lone = once_lone input signature tag dictionary reads label (Inner list) list o bytes once held
