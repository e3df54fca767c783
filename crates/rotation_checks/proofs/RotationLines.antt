-- The lines of a base, one after the other.
use Rattle.std.proofs.Common.{◌≡◌, ℕ, ◌+◌, List, [], ◌++◌, drop, slice_get, Option, Some, None, refl, sym, ap, ◌∙◌, append_assoc}
use Rattle.std.proofs.lemmas.List.{append-nil}
use Rattle.std.specs.Option.{option_map}
use Rattle.bytes_and_lists.specs.declared.message.Message.{Message}
use Rattle.structured_fields.specs.declared.item.Item.{Item}
use Rattle.structured_fields.specs.Reading.{◌>>=◌}
use Rattle.content_digest.proofs.Steps.{opened}
use Rattle.message_signature.specs.declared.fault.BaseFault.{BaseFault}
use Rattle.message_signature.specs.declared.fault.BaseFault.TheVariants.{Unsupported, OutOfMemory}
use Rattle.message_signature.specs.declared.tags.SignatureFields.{SignatureFields}
use Rattle.message_signature.specs.Faults.{FailsBase}
use Rattle.rotation_checks.specs.RotationBase.{rotation_line, rotation_lines}

abbrev pub behind : List ℕ → Option (List ℕ) → Option (List ℕ)
behind text o = option_map (λ t. text ++ t) o

-- the text, then a line, then the lines
joined : (text : List ℕ) (line lines : Option (List ℕ)) (out : List ℕ) → behind text line ≡ Some out
    → behind text (line >>= λ l. lines >>= λ ls. Some (l ++ ls)) ≡ behind out lines
joined text None lines out h = absurd cc
joined text (Some l) None out h = refl
joined text (Some l) (Some ls) out h =
    let e : text ++ l ≡ out = cc in
    ap (λ (t : List ℕ). Some t) (sym (append_assoc text l ls) ∙ ap (λ (t : List ℕ). t ++ ls) e)

pub none_behind : (text : List ℕ) (o : Option (List ℕ)) → behind text o ≡ None → o ≡ None
none_behind text None h = refl
none_behind text (Some l) h = absurd cc

module _ (m : Message) (base : List ℕ) (fields : SignatureFields) (items : List Item) (i : ℕ) (item : Item) (text : List ℕ) (at : slice_get items i ≡ Some item)
    (so_far : behind text (rotation_lines m base fields (drop i items)) ≡ rotation_lines m base fields items) where
  step : rotation_lines m base fields (drop i items)
      ≡ (rotation_line m base fields item (drop (i + 1) items) >>= λ l. rotation_lines m base fields (drop (i + 1) items) >>= λ ls. Some (l ++ ls))
  unfolding rotation_lines
  step = ap (rotation_lines m base fields) (opened items i item at)

  pub lines_more : (out : List ℕ) → behind text (rotation_line m base fields item (drop (i + 1) items)) ≡ Some out
      → behind out (rotation_lines m base fields (drop (i + 1) items)) ≡ rotation_lines m base fields items
  lines_more out h =
      sym (ap (behind text) step ∙ joined text (rotation_line m base fields item (drop (i + 1) items)) (rotation_lines m base fields (drop (i + 1) items)) out
      h) ∙ so_far

  pub lines_failed : (e : BaseFault) → FailsBase e (behind text (rotation_line m base fields item (drop (i + 1) items)))
      → FailsBase e (rotation_lines m base fields items)
  lines_failed OutOfMemory h = tt
  lines_failed Unsupported h =
      let no : rotation_lines m base fields (drop i items)
      ≡ None = rw (step, none_behind text (rotation_line m base fields item (drop (i + 1) items)) h) refl in
      sym so_far ∙ ap (behind text) no

pub lines_start : (lines : Option (List ℕ)) → behind [] lines ≡ lines
lines_start None = refl
lines_start (Some ls) = refl

pub lines_end : (m : Message) (base : List ℕ) (fields : SignatureFields) (text : List ℕ) → behind text (rotation_lines m base fields []) ≡ Some text
unfolding rotation_lines
lines_end m base fields text = ap (λ (t : List ℕ). Some t) (append-nil text)

-- a line behind the text: the item, what stands between, the value and the end
pub valued_line : (text name between end : List ℕ) (value : Option (List ℕ)) (named parted valued : List ℕ) → Some (text ++ name) ≡ Some named
    → Some (named ++ between) ≡ Some parted
    → behind parted value ≡ Some valued → behind text (option_map (λ v. name ++ (between ++ (v ++ end))) value) ≡ Some (valued ++ end)
valued_line text name between end None named parted valued p q h = absurd cc
valued_line text name between end (Some v) named parted valued p q h =
    let first : text ++ name ≡ named = cc in
    let second : named ++ between ≡ parted = cc in
    let third : parted ++ v ≡ valued = cc in
    ap (λ (t : List ℕ). Some t) (
    sym (append_assoc text name (between ++ (v ++ end))) ∙ ap (λ (t : List ℕ). t ++ (between ++ (v ++ end))) first
    ∙ sym (append_assoc named between (v ++ end)) ∙ ap (λ (t : List ℕ). t ++ (v ++ end)) second
    ∙ sym (append_assoc parted v end) ∙ ap (λ (t : List ℕ). t ++ end) third)
