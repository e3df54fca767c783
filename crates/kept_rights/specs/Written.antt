-- Rights and asks as one run of bytes.
use Rattle.std.specs.Prelude.{ℕ, ◌/◌, ◌%◌, Bool, true, false, List, [], ◌∷◌, ◌++◌, length, replicate, Option, Some, None}
use Rattle.std.specs.List.{flat_map}
use Rattle.gnap_model.specs.Common.{Text}
use Rattle.gnap_model.specs.declared.rights.Right.{Right}
use Rattle.gnap_model.specs.declared.rights.Right.TheVariants.{Reference, Object}
use Rattle.gnap_model.specs.declared.rights.RightObject.{RightObject}
use Rattle.gnap_model.specs.declared.objects.Ask.{Ask}

-- a length: a byte of 255 for each 255 in it, and a byte for the rest
unfoldable pub written_length : ℕ → List ℕ
written_length n = replicate (n / 255) 255 ++ (n % 255) ∷ []

-- a text: its length and its bytes
abbrev pub written_text : Text → List ℕ
written_text text = written_length (length text) ++ text

-- what may be absent: a byte 0, or a byte 1 and what there is
abbrev pub written_option : {X : Type 0} → (X → List ℕ) → Option X → List ℕ
written_option written None = 0 ∷ []
written_option written (Some x) = 1 ∷ written x

-- a list: its length and its items one after another
abbrev pub written_list : {X : Type 0} → (X → List ℕ) → List X → List ℕ
written_list written xs = written_length (length xs) ++ flat_map written xs

-- two, one after the other
abbrev pub written_two : {X Y : Type 0} → (X → List ℕ) → (Y → List ℕ) → X × Y → List ℕ
written_two one other xy = one xy.0 ++ other xy.1

abbrev pub written_bool : Bool → List ℕ
written_bool false = 0 ∷ []
written_bool true = 1 ∷ []

abbrev pub written_texts : List Text → List ℕ
written_texts = written_list written_text

-- a right in full: its members in order
unfoldable pub written_object : RightObject → List ℕ
written_object object =
    written_text object.kind ++ written_option written_texts object.actions ++ written_option written_texts object.locations
    ++ written_option written_texts object.datatypes ++ written_option written_texts object.privileges
    ++ written_option written_text object.identifier ++ written_text object.further

-- a right: a byte 0 and the reference, or a byte 1 and the right in full
abbrev pub written_right : Right → List ℕ
written_right (Reference name) = 0 ∷ written_text name
written_right (Object object) = 1 ∷ written_object object

abbrev pub written_rights : List Right → List ℕ
written_rights = written_list written_right

-- an ask: its label, its rights, and whether it is for a bearer token
unfoldable pub written_ask : Ask → List ℕ
written_ask ask = written_option written_text ask.label ++ written_rights ask.rights ++ written_bool ask.bearer

abbrev pub written_asks : List Ask → List ℕ
written_asks = written_list written_ask
