-- The lines of a signature base, one after the other.
use Rattle.std.proofs.Common.{◌≡◌, ℕ, ◌+◌, List, [], ◌++◌, drop, slice_get, Option, Some, None, refl, sym, ap, ◌∙◌, append_assoc}
use Rattle.std.proofs.lemmas.List.{append-nil}
use Rattle.std.specs.Option.{option_map}
use Rattle.bytes_and_lists.specs.declared.message.Message.{Message}
use Rattle.structured_fields.specs.declared.item.Item.{Item}
use Rattle.structured_fields.specs.Reading.{◌>>=◌}
use Rattle.content_digest.proofs.Steps.{opened}
use Rattle.message_signature.specs.declared.fault.BaseFault.{BaseFault}
use Rattle.message_signature.specs.declared.fault.BaseFault.TheVariants.{Unsupported, OutOfMemory}
use Rattle.message_signature.specs.Faults.{FailsBase}
use Rattle.message_signature.specs.Base.{line_of, base_lines}

module _ {X : Type 0} where
  abbrev pub behind : List X → Option (List X) → Option (List X)
  behind text o = option_map (λ t. text ++ t) o

  -- the text, then a line, then the lines
  joined : (text : List X) (line lines : Option (List X)) (out : List X) → behind text line ≡ Some out
      → behind text (line >>= λ l. lines >>= λ ls. Some (l ++ ls)) ≡ behind out lines
  joined text None lines out h = absurd cc
  joined text (Some l) None out h = refl
  joined text (Some l) (Some ls) out h =
      let e : text ++ l ≡ out = cc in
      ap (λ (t : List X). Some t) (sym (append_assoc text l ls) ∙ ap (λ (t : List X). t ++ ls) e)

  none : (text : List X) (o : Option (List X)) → behind text o ≡ None → o ≡ None
  none text None h = refl
  none text (Some l) h = absurd cc

  -- the whole is the text with what is left behind it, of which the line is the first
  module _ (text : List X) (line lines left whole : Option (List X)) (first : left ≡ (line >>= λ l. lines >>= λ ls. Some (l ++ ls)))
      (so_far : behind text left ≡ whole) where
    pub one_more : (out : List X) → behind text line ≡ Some out → behind out lines ≡ whole
    one_more out h = sym (ap (behind text) first ∙ joined text line lines out h) ∙ so_far

    pub one_fails : (e : BaseFault) → FailsBase e (behind text line) → FailsBase e whole
    one_fails OutOfMemory h = tt
    one_fails Unsupported h =
        let no : left ≡ None = rw (first, none text line h) refl in
        sym so_far ∙ ap (behind text) no

  pub lines_start : (lines : Option (List X)) → behind [] lines ≡ lines
  lines_start None = refl
  lines_start (Some ls) = refl

module _ (m : Message) (base : List ℕ) (items : List Item) (i : ℕ) (item : Item) (text : List ℕ) (at : slice_get items i ≡ Some item)
    (so_far : behind text (base_lines m base (drop i items)) ≡ base_lines m base items) where
  first : base_lines m base (drop i items) ≡ (line_of m base item (drop (i + 1) items) >>= λ l. base_lines m base (drop (i + 1) items) >>= λ ls. Some (l ++ ls))
  unfolding base_lines
  first = ap (base_lines m base) (opened items i item at)

  pub lines_more : (out : List ℕ) → behind text (line_of m base item (drop (i + 1) items)) ≡ Some out
      → behind out (base_lines m base (drop (i + 1) items)) ≡ base_lines m base items
  lines_more = one_more text _ _ _ _ first so_far

  pub lines_failed : (e : BaseFault) → FailsBase e (behind text (line_of m base item (drop (i + 1) items))) → FailsBase e (base_lines m base items)
  lines_failed = one_fails text _ _ _ _ first so_far

pub lines_end : (m : Message) (base text : List ℕ) → behind text (base_lines m base []) ≡ Some text
unfolding base_lines
lines_end m base text = ap (λ (t : List ℕ). Some t) (append-nil text)

pub both_joined : (text front back held out : List ℕ) → Some (text ++ front) ≡ Some held → out ≡ held ++ back → Some (text ++ (front ++ back)) ≡ Some out
both_joined text front back held out h k =
    let e : text ++ front ≡ held = cc in
    ap (λ (t : List ℕ). Some t) (sym (append_assoc text front back) ∙ ap (λ (t : List ℕ). t ++ back) e ∙ sym k)
