-- What is printed for the text of a structured field (RFC 9651).
use Rattle.std.specs.Prelude.{◌≡◌, ℕ, List, [], ◌∷◌, ◌++◌, codes, Result, Ok, Err}
use Rattle.outside.specs.Outside.{Told}
use Rattle.structured_fields.specs.declared.fault.FieldFault.{FieldFault}
use Rattle.structured_fields.specs.declared.fault.FieldFault.TheVariants.{NotInGrammar as NoField, OutOfMemory}
use Rattle.structured_fields.specs.declared.item.Item.{Item}
use Rattle.structured_fields.specs.declared.item.Member.{Member}
use Rattle.structured_fields.specs.Grammar.{IsItemText, IsListText, IsDictionaryText}
use Rattle.structured_fields.specs.Canonical.{item_text, list_text, dictionary_text}
use Rattle.command_inputs.specs.declared.ended.Ended.{Ended}
use Rattle.printed_answers.specs.declared.fields.Kind.{Kind}
use Rattle.command_inputs.specs.Printing.{PrintsAnswer}
use Rattle.printed_answers.specs.declared.fields.Kind.TheVariants.{Item as AnItem, List as AList, Dictionary as ADictionary}

-- the text is a text of a value of the kind, and the other one is this value's canonical text
abbrev pub HasCanonical : Kind → List ℕ → List ℕ → Type 0
HasCanonical AnItem text canonical = (v : Item) × IsItemText text v × (canonical ≡ item_text v)
HasCanonical AList text canonical = (v : List Member) × IsListText text v × (canonical ≡ list_text v)
HasCanonical ADictionary text canonical = (v : List (List ℕ × Member)) × IsDictionaryText text v × (canonical ≡ dictionary_text v)

-- the text is a text of no value of the kind
abbrev pub HasNoValue : Kind → List ℕ → Type 0
HasNoValue AnItem text = (v : Item) → ¬ IsItemText text v
HasNoValue AList text = (v : List Member) → ¬ IsListText text v
HasNoValue ADictionary text = (v : List (List ℕ × Member)) → ¬ IsDictionaryText text v

-- the canonical text, or that there is none, unless memory ran out
abbrev pub IsCanonical : Kind → List ℕ → Result (List ℕ) FieldFault → Type 0
IsCanonical kind text (Ok canonical) = HasCanonical kind text canonical
IsCanonical kind text (Err NoField) = HasNoValue kind text
IsCanonical kind text (Err OutOfMemory) = Unit {0}

-- the line for a text that has a value: the canonical text
abbrev pub IsFound : Kind → List ℕ → List ℕ → Type 0
IsFound kind text line = (canonical : List ℕ) × HasCanonical kind text canonical × (line ≡ canonical ++ 10 ∷ [])

-- the line for a text that has none
abbrev pub IsRefused : Kind → List ℕ → List ℕ → Type 0
IsRefused kind text line = HasNoValue kind text × (line ≡ codes "not in the grammar" ++ 10 ∷ [])

-- The answer to a text of a field was printed, as far as that went.
abbrev pub PrintsField : Kind → List ℕ → Told → Told → Ended → Type 0
PrintsField kind text before after ended = PrintsAnswer (IsFound kind text) (IsRefused kind text) before after ended
