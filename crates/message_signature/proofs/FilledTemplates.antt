-- The template of a list, filled, is the signature base.
use Rattle.std.proofs.Common.{◌≡◌, ℕ, ◌+◌, Bool, true, false, cond, List, [], ◌∷◌, ◌++◌, drop, slice_get, Option, Some, None, refl, sym, ap, ◌∙◌, append_assoc}
use Rattle.std.proofs.lemmas.List.{append-nil}
use Rattle.std.specs.Prelude.{codes}
use Rattle.std.specs.Option.{option_map}
use Rattle.bytes_and_lists.specs.declared.message.Message.{Message}
use Rattle.structured_fields.specs.declared.item.Item.{Item}
use Rattle.structured_fields.specs.declared.item.InnerList.{InnerList}
use Rattle.structured_fields.specs.declared.bare.Bare.TheVariants.{Str}
use Rattle.structured_fields.specs.Canonical.{bare_text, inner_text}
use Rattle.structured_fields.specs.Reading.{◌>>=◌}
use Rattle.structured_fields.proofs.Fronts.{some_is}
use Rattle.content_digest.proofs.Steps.{opened}
use Rattle.message_signature.specs.declared.fault.BaseFault.{BaseFault}
use Rattle.message_signature.specs.declared.fault.BaseFault.TheVariants.{Unsupported, OutOfMemory}
use Rattle.message_signature.specs.declared.components.CoveredComponent.{CoveredComponent}
use Rattle.message_signature.specs.declared.base_template.LineTemplate.{LineTemplate}
use Rattle.message_signature.specs.declared.base_template.BaseTemplate.{BaseTemplate}
use Rattle.message_signature.specs.Base.{is_named, name_of, base_line, base_lines, params_line, signature_base}
use Rattle.message_signature.specs.BaseTemplates.{component_named, covered_value, line_template, line_templates, line_end, template_of, filled_line, filled_lines, filled}
use Rattle.message_signature.specs.Components.{component}
use Rattle.message_signature.specs.Faults.{FailsBase}
use Rattle.message_signature.proofs.ComponentParts.{known_value}
use Rattle.message_signature.proofs.Lines.{behind, one_more, one_fails, lines_start}

-- ---- the templates of lines, one after the other

module _ (items : List Item) (i : ℕ) (item : Item) (before : List ℕ) (held : List LineTemplate) (at : slice_get items i ≡ Some item)
    (so_far : behind held (line_templates before (drop i items)) ≡ line_templates [] items) where
  abbrev alone : Option (List LineTemplate)
  alone = option_map (λ l. l ∷ []) (line_template before item (drop (i + 1) items))

  first_template : line_templates before (drop i items) ≡ (alone >>= λ l. line_templates (10 ∷ []) (drop (i + 1) items) >>= λ ls. Some (l ++ ls))
  unfolding line_templates
  first_template = ap (line_templates before) (opened items i item at) ∙ by (line_template before item (drop (i + 1) items))
    where
      by : (o : Option LineTemplate) → (o >>= λ l. line_templates (10 ∷ []) (drop (i + 1) items) >>= λ ls. Some (l ∷ ls))
          ≡ (option_map (λ l. l ∷ []) o >>= λ l. line_templates (10 ∷ []) (drop (i + 1) items) >>= λ ls. Some (l ++ ls))
      by (Some l) = refl
      by None = refl

  pub template_more : (line : LineTemplate) → line_template before item (drop (i + 1) items) ≡ Some line
      → behind (held ++ line ∷ []) (line_templates (10 ∷ []) (drop (i + 1) items)) ≡ line_templates [] items
  template_more line h = one_more held _ _ _ _ first_template so_far (held ++ line ∷ []) (rw h refl)

  pub template_failed : (e : BaseFault) → FailsBase e (line_template before item (drop (i + 1) items)) → FailsBase e (line_templates [] items)
  template_failed OutOfMemory h = tt
  template_failed Unsupported h = one_fails held _ _ _ _ first_template so_far Unsupported (rw h refl)

pub templates_end : (before : List ℕ) (held : List LineTemplate) → behind held (line_templates before []) ≡ Some held
unfolding line_templates
templates_end before held = ap (λ (t : List LineTemplate). Some t) (append-nil held)

-- ---- the lines with their values, one after the other

module _ (m : Message) (base : List ℕ) (lines : List LineTemplate) (i : ℕ) (line : LineTemplate) (text : List ℕ) (at : slice_get lines i ≡ Some line)
    (so_far : behind text (filled_lines m base (drop i lines)) ≡ filled_lines m base lines) where
  first_filled : filled_lines m base (drop i lines) ≡ (filled_line m base line >>= λ l. filled_lines m base (drop (i + 1) lines) >>= λ ls. Some (l ++ ls))
  unfolding filled_lines
  first_filled = ap (filled_lines m base) (opened lines i line at)

  pub filled_more : (out : List ℕ) → behind text (filled_line m base line) ≡ Some out
      → behind out (filled_lines m base (drop (i + 1) lines)) ≡ filled_lines m base lines
  filled_more = one_more text _ _ _ _ first_filled so_far

  pub filled_failed : (e : BaseFault) → FailsBase e (behind text (filled_line m base line)) → FailsBase e (filled_lines m base lines)
  filled_failed = one_fails text _ _ _ _ first_filled so_far

pub filled_end : (m : Message) (base text : List ℕ) → behind text (filled_lines m base []) ≡ Some text
unfolding filled_lines
filled_end m base text = ap (λ (t : List ℕ). Some t) (append-nil text)

-- ---- the whole

-- lines, an end of a line, and the last line
abbrev closed : List ℕ → List ℕ → Option (List ℕ) → Option (List ℕ)
closed last end o = o >>= λ t. Some (t ++ (end ++ last))

texts_same : (last before name value ts ls : List ℕ) → ts ++ (10 ∷ last) ≡ 10 ∷ (ls ++ last)
    → (((before ++ (name ++ 58 ∷ 32 ∷ [])) ++ value) ++ ts) ++ (10 ∷ last) ≡ before ++ ((((name ++ (58 ∷ 32 ∷ value)) ++ 10 ∷ []) ++ ls) ++ last)
texts_same last before name value ts ls e = simp (append_assoc, e) refl

-- one line more in front of them
text_step : (last before name value : List ℕ) (texts lines : Option (List ℕ)) → closed last (10 ∷ []) texts ≡ behind (10 ∷ []) (closed last [] lines)
    → closed last (10 ∷ []) (texts >>= λ ts. Some (((before ++ base_line name []) ++ value) ++ ts))
    ≡ behind before (closed last [] (lines >>= λ ls. Some ((base_line name value ++ 10 ∷ []) ++ ls)))
text_step last before name value None None h = refl
text_step last before name value None (Some ls) h = absurd cc
text_step last before name value (Some ts) None h = absurd cc
text_step last before name value (Some ts) (Some ls) h =
    ap (λ (t : List ℕ). Some t) (texts_same last before (bare_text (Str name)) value ts ls (some_is _ _ h))

module _ (m : Message) (base last before : List ℕ) where
  value_step : (name : List ℕ) (c : CoveredComponent) (value : Option (List ℕ)) (templates : Option (List LineTemplate)) (lines : Option (List ℕ))
      → covered_value m base c ≡ value
      → closed last (10 ∷ []) (templates >>= filled_lines m base) ≡ behind (10 ∷ []) (closed last [] lines)
      → closed last (10 ∷ []) ((templates >>= λ ts. Some ((record { front = before ++ base_line name []; component = c }) ∷ ts)) >>= filled_lines m base)
      ≡ behind before (closed last [] ((value >>= λ v. Some (base_line name v ++ 10 ∷ [])) >>= λ l. lines >>= λ ls. Some (l ++ ls)))
  unfolding filled_lines
  value_step name c None None lines is h = refl
  value_step name c None (Some ts) lines is h = rw is refl
  value_step name c (Some v) None lines is h = text_step last before name v None lines h
  value_step name c (Some v) (Some ts) lines is h = rw is (text_step last before name v (filled_lines m base ts) lines h)

  named_step : (name : List ℕ) (again : Bool) (o : Option CoveredComponent) (templates : Option (List LineTemplate)) (lines : Option (List ℕ))
      → closed last (10 ∷ []) (templates >>= filled_lines m base) ≡ behind (10 ∷ []) (closed last [] lines)
      → closed last (10 ∷ []) (((cond again None o >>= λ c. Some (record { front = before ++ base_line name []; component = c })) >>= λ l. templates
      >>= λ ts. Some (l ∷ ts)) >>= filled_lines m base)
      ≡ behind before (closed last [] ((cond again None (o >>= covered_value m base) >>= λ v. Some (base_line name v ++ 10 ∷ [])) >>= λ l. lines
      >>= λ ls. Some (l ++ ls)))
  named_step name true o templates lines h = refl
  named_step name false None templates lines h = refl
  named_step name false (Some c) templates lines h = value_step name c (covered_value m base c) templates lines refl h

  line_step : (item : Item) (items : List Item)
      → closed last (10 ∷ []) (line_templates (10 ∷ []) items >>= filled_lines m base) ≡ behind (10 ∷ []) (closed last [] (base_lines m base items))
      → closed last (10 ∷ []) (line_templates before (item ∷ items) >>= filled_lines m base) ≡ behind before (closed last [] (base_lines m base (item ∷ items)))
  unfolding line_templates base_lines
  line_step item items h = by (name_of item)
    where
      by : (o : Option (List ℕ))
          → closed last (10 ∷ []) (((o >>= λ name. cond (is_named name items) None (component_named name)
          >>= λ c. Some (record { front = before ++ base_line name []; component = c })) >>= λ l. line_templates (10 ∷ []) items
          >>= λ ts. Some (l ∷ ts)) >>= filled_lines m base)
          ≡ behind before (closed last [] ((o >>= λ name. cond (is_named name items) None (component m base name)
          >>= λ v. Some (base_line name v ++ 10 ∷ [])) >>= λ l. base_lines m base items >>= λ ls. Some (l ++ ls)))
      by None = refl
      by (Some name) = rw (sym (known_value m base name))
          (named_step name (is_named name items) (component_named name) (line_templates (10 ∷ []) items) (base_lines m base items) h)

module _ (m : Message) (base last : List ℕ) where
  further_lines : (items : List Item)
      → closed last (10 ∷ []) (line_templates (10 ∷ []) items >>= filled_lines m base) ≡ behind (10 ∷ []) (closed last [] (base_lines m base items))
  unfolding line_templates filled_lines base_lines
  further_lines [] = refl
  further_lines (item ∷ items) = line_step m base last (10 ∷ []) item items (further_lines items)

  whole : (items : List Item) → closed last (line_end items) (line_templates [] items >>= filled_lines m base) ≡ closed last [] (base_lines m base items)
  unfolding line_templates filled_lines base_lines
  whole [] = refl
  whole (item ∷ items) = line_step m base last [] item items (further_lines items) ∙ lines_start _

last_line : (end name text : List ℕ) → (end ++ (name ++ 58 ∷ 32 ∷ [])) ++ text ≡ end ++ (name ++ (58 ∷ 32 ∷ text))
last_line end name text = simp (append_assoc) refl

-- with the canonical text of a list that has these covered components
pub template_gives_base : (m : Message) (base : List ℕ) (list : InnerList) (template : BaseTemplate) (shown : List ℕ) → template_of list.items ≡ Some template
    → shown ≡ inner_text list → filled m base template shown ≡ signature_base m base list
unfolding template_of filled signature_base
template_gives_base m base list template shown is text = by (line_templates [] list.items) is (whole m base (params_line list) list.items)
  where
    end : List ℕ
    end = line_end list.items

    first : List ℕ
    first = end ++ base_line (codes "@signature-params") []

    by : (o : Option (List LineTemplate)) → (o >>= λ ls. Some (record { lines = ls; last = first })) ≡ Some template
        → closed (params_line list) end (o >>= filled_lines m base) ≡ closed (params_line list) [] (base_lines m base list.items)
        → (filled_lines m base template.lines >>= λ ls. Some (ls ++ (template.last ++ shown))) ≡ closed (params_line list) [] (base_lines m base list.items)
    by None h same = absurd cc
    by (Some ls) h same =
        let made : BaseTemplate = record { lines = ls; last = first } in
        let e : made ≡ template = some_is made template h in
        let line : first ++ shown ≡ end ++ params_line list = ap (λ (t : List ℕ). first ++ t) text
        ∙ last_line end (bare_text (Str (codes "@signature-params"))) (inner_text list) in
        ap (λ (t : BaseTemplate). filled_lines m base t.lines >>= λ ls. Some (ls ++ (t.last ++ shown))) (sym e)
        ∙ ap (λ (l : List ℕ). filled_lines m base ls >>= λ t. Some (t ++ l)) line ∙ same
