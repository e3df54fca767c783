-- JSON as it is printed, piece by piece.
use Rattle.std.specs.Prelude.{◌≡◌, ℕ, ◌&&◌, List, [], ◌∷◌, ◌++◌, Bool, true, false, Option, Some, None, IfOk}
use Rattle.std.specs.Ordering.{nat_cmp, is_lt}
use Rattle.std.specs.List.{list_all}
use Rattle.std.specs.Cmp.Lexicographic.{slice_cmp}
use Rattle.json.specs.Print.{quoted}
use Rattle.serde_json.specs.Data.{Data}
use Rattle.serde_json.specs.Written.{comma_if, compact_text}
use Rattle.gnap_model.specs.declared.rights.Right.{Right}
use Rattle.gnap_model.specs.declared.rights.Right.TheVariants as rights
use Rattle.gnap_replies.specs.declared.printer.Printer.{Printer}

-- the text so far, and whether a value has just ended, so that a comma stands before the next
abbrev pub Printed : Type 0
Printed = List ℕ × Bool

abbrev pub then_value : Printed → List ℕ → Printed
then_value p text = (p.0 ++ (comma_if p.1 ++ text), true)

-- a name, or a bracket that opens
abbrev pub then_begin : Printed → List ℕ → Printed
then_begin p text = (p.0 ++ (comma_if p.1 ++ text), false)

-- a bracket that closes
abbrev pub then_end : Printed → List ℕ → Printed
then_end p text = (p.0 ++ text, true)

abbrev pub then_name : Printed → List ℕ → Printed
then_name p name = then_begin p (quoted name ++ 58 ∷ [])

-- a member, where there is a value for it
abbrev pub then_field : Printed → List ℕ → Option Data → Printed
then_field p name None = p
then_field p name (Some d) = then_value (then_name p name) (compact_text d)

abbrev pub then_fields : Printed → List (List ℕ × Option Data) → Printed
then_fields p [] = p
then_fields p (f ∷ fs) = then_fields (then_field p f.0 f.1) fs

abbrev pub then_object : Printed → List (List ℕ × Option Data) → Printed
then_object p fields = then_end (then_fields (then_begin p (123 ∷ [])) fields) (125 ∷ [])

-- the items of an array behind its bracket
abbrev pub then_items : Printed → List Data → Printed
then_items p [] = p
then_items p (d ∷ ds) = then_items (then_value p (compact_text d)) ds

abbrev pub is_reference : Right → Bool
is_reference (rights.Reference name) = true
is_reference (rights.Object r) = false

-- each name stands before all that follow, in the order of their bytes
abbrev pub is_ascending : List (List ℕ × Option Data) → Bool
is_ascending [] = true
is_ascending (f ∷ fs) = list_all (λ g. is_lt (slice_cmp nat_cmp f.0 g.0)) fs && is_ascending fs

-- this is printed so far, if memory hasn't run out
abbrev pub HasPrinted : Printer → Printed → Type 0
HasPrinted printer p = IfOk printer.text (λ text. (text.items, printer.after_value) ≡ p)
