use Rattle.std.proofs.Common.{◌≡◌, ℕ, List, sym, subst, rules}
use Rattle.std.specs.Prelude.{Some, Result, Err}
use Rattle.structured_fields.specs.declared.fault.FieldFault.{FieldFault}
use Rattle.structured_fields.specs.declared.fault.FieldFault.TheVariants.{NotInGrammar, OutOfMemory}
use Rattle.structured_fields.specs.Grammar.{IsItemText, IsListText, IsDictionaryText}
use Rattle.structured_fields.specs.Reading.{Fails}
use Rattle.printed_answers.specs.declared.fields.Kind.{Kind}
use Rattle.printed_answers.specs.declared.fields.Kind.TheVariants.{Item as AnItem, List as AList, Dictionary as ADictionary}
use Rattle.printed_answers.specs.Fields.{HasNoValue, IsCanonical}
use Rattle.printed_answers.proofs.fields.canonical_text.Goals as goal

-- a reader that fails fails as the canonical text does
fails : {V : Type 0} (kind : Kind) (text : List ℕ) (Is : V → Type 0) (fault : FieldFault) (result : Result (List ℕ) FieldFault)
    → (((v : V) → ¬ Is v) → HasNoValue kind text)
    → ((v : V) → Is v → Fails fault (Some v)) → result ≡ Err fault → IsCanonical kind text result
fails kind text Is NotInGrammar result none only is =
    let C : Result (List ℕ) FieldFault → Type 0 = λ r. IsCanonical kind text r in
    subst C (sym is) (none (λ v holds. let no = only v holds in absurd cc))
fails kind text Is OutOfMemory result none only is =
    let C : Result (List ℕ) FieldFault → Type 0 = λ r. IsCanonical kind text r in
    subst C (sym is) tt

pub returns-in_err-read_item-in-Item : goal.returns-in_err-read_item-in-Item
returns-in_err-read_item-in-Item c =
    let K : Kind → Type 0 = λ kind. IsCanonical kind c.args.text.now c.from_residual.result in
    subst K (sym c.in-Item.is) (fails AnItem _ (IsItemText c.args.text.now) _ _ (λ no. no) c.in_err-read_item-in-Item.ensures.only (search rules))

pub returns-in_err-read_list-in-List : goal.returns-in_err-read_list-in-List
returns-in_err-read_list-in-List c =
    let K : Kind → Type 0 = λ kind. IsCanonical kind c.args.text.now c.from_residual-in_err-read_list-in-List.result in
    subst K (sym c.in-List.is) (fails AList _ (IsListText c.args.text.now) _ _ (λ no. no) c.in_err-read_list-in-List.ensures.only (search rules))

pub returns-in_err-read_dictionary-in-Dictionary : goal.returns-in_err-read_dictionary-in-Dictionary
returns-in_err-read_dictionary-in-Dictionary c =
    let K : Kind → Type 0 = λ kind. IsCanonical kind c.args.text.now c.from_residual-in_err-read_dictionary-in-Dictionary.result in
    subst K (sym c.in-Dictionary.is)
    (fails ADictionary _ (IsDictionaryText c.args.text.now) _ _ (λ no. no) c.in_err-read_dictionary-in-Dictionary.ensures.only (search rules))
