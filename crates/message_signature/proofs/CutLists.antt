-- A list that was cut behind its first covered component with parameters: what is judged of it, and of the whole.
use Rattle.std.proofs.Common.{◌≡◌, ℕ, ◌&&◌, Bool, true, false, cond, ◌⊎◌, inl, inr, List, [], ◌∷◌, length, Option, Some, None, refl}
use Rattle.std.specs.Prelude.{nat_lt}
use Rattle.bytes_and_lists.specs.declared.message.Message.{Message}
use Rattle.structured_fields.specs.declared.bare.Bare.{Bare}
use Rattle.structured_fields.specs.declared.bare.Bare.TheVariants.{Integer, Decimal, Str, Token, Binary, Boolean, Date, Display}
use Rattle.structured_fields.specs.declared.item.Item.{Item}
use Rattle.structured_fields.specs.declared.item.InnerList.{InnerList}
use Rattle.structured_fields.specs.Strings.{is_any_string, are_strings}
use Rattle.dictionary_lookup.specs.Skipping.{cut_list, has_parameters, up_to_parameters}
use Rattle.message_signature.specs.Base.{name_of, line_of, base_lines, signature_base}
use Rattle.message_signature.specs.Lone.{cut_under}
use Rattle.message_signature.specs.Marked.{judged_with_mark}
use Rattle.message_signature.specs.Verified.{Signature, is_well_formed, judged}

-- ---- its form

strings_kept : (items : List Item) → are_strings items ≡ true → are_strings (up_to_parameters items) ≡ true
strings_kept [] all = refl
strings_kept (item ∷ items) all = by (has_parameters item) (is_any_string item.bare) all (strings_kept items)
  where
    by : (b c : Bool) → (c && are_strings items) ≡ true → (are_strings items ≡ true → are_strings (up_to_parameters items) ≡ true)
        → (c && are_strings (cond b [] (up_to_parameters items))) ≡ true
    by true true all again = refl
    by false true all again = again all
    by b false all again = absurd cc

pub cut_is_formed : (list : InnerList) → are_strings list.items ≡ true → is_well_formed (cut_list list) ≡ is_well_formed list
cut_is_formed list all = rw (all, strings_kept list.items all) refl

-- ---- its base

no_name : (item : Item) → has_parameters item ≡ true → name_of item ≡ None
no_name item h = by item.bare item.params refl refl h
  where
    by : (b : Bare) (ps : List (List ℕ × Bare)) → item.bare ≡ b → item.params ≡ ps → nat_lt 0 (length ps) ≡ true → name_of item ≡ None
    by b [] is params h = absurd cc
    by (Str name) (p ∷ ps) is params h = rw (is, params) refl
    by (Integer n) (p ∷ ps) is params h = rw is refl
    by (Decimal n) (p ∷ ps) is params h = rw is refl
    by (Token s) (p ∷ ps) is params h = rw is refl
    by (Binary s) (p ∷ ps) is params h = rw is refl
    by (Boolean t) (p ∷ ps) is params h = rw is refl
    by (Date n) (p ∷ ps) is params h = rw is refl
    by (Display t) (p ∷ ps) is params h = rw is refl

module _ (m : Message) (base : List ℕ) where
  no_lines_with : (item : Item) (others : List Item) → has_parameters item ≡ true → base_lines m base (item ∷ others) ≡ None
  unfolding base_lines
  no_lines_with item others h = rw (no_name item h) refl

  no_lines_before : (item : Item) (others : List Item) → base_lines m base others ≡ None → base_lines m base (item ∷ others) ≡ None
  unfolding base_lines
  no_lines_before item others h = by (line_of m base item others) refl
    where
      by : (line : Option (List ℕ)) → line_of m base item others ≡ line → base_lines m base (item ∷ others) ≡ None
      by None e = rw e refl
      by (Some line) e = rw (e, h) refl

  -- either nothing is cut, or neither has lines
  cut_or_none : (items : List Item)
      → (up_to_parameters items ≡ items) ⊎ ((base_lines m base items ≡ None) × (base_lines m base (up_to_parameters items) ≡ None))
  cut_or_none [] = inl refl
  cut_or_none (item ∷ items) = by (has_parameters item) refl (cut_or_none items)
    where
      by : (b : Bool) → has_parameters item ≡ b
          → (up_to_parameters items ≡ items) ⊎ ((base_lines m base items ≡ None) × (base_lines m base (up_to_parameters items) ≡ None))
          → (up_to_parameters (item ∷ items) ≡ item ∷ items)
          ⊎ ((base_lines m base (item ∷ items) ≡ None) × (base_lines m base (up_to_parameters (item ∷ items)) ≡ None))
      by true e kept = inr (no_lines_with item items e, no_lines_with item _ e)
      by false e (inl same) = inl (rw (e, same) refl)
      by false e (inr none) = inr (no_lines_before item items none.0, rw e (no_lines_before item (up_to_parameters items) none.1))

  no_base : (list : InnerList) → base_lines m base list.items ≡ None → signature_base m base list ≡ None
  unfolding signature_base
  no_base list h = rw h refl

  -- ---- what is judged

  module _ (ring : List (List ℕ × List ℕ)) (now : ℕ) (label : List ℕ) (sig : Signature) where
    abbrev cut : Signature
    cut = cut_under label sig

    pub judged_cut : judged m base ring now cut ≡ judged m base ring now sig
    unfolding judged
    judged_cut = by (cut_or_none sig.list.items)
      where
        by : (up_to_parameters sig.list.items ≡ sig.list.items)
            ⊎ ((base_lines m base sig.list.items ≡ None) × (base_lines m base (up_to_parameters sig.list.items) ≡ None))
            → judged m base ring now cut ≡ judged m base ring now sig
        by (inl same) = rw same refl
        by (inr none) = rw (no_base sig.list none.0, no_base (cut_list sig.list) none.1) refl

    pub marked_cut : judged_with_mark m base ring now cut ≡ judged_with_mark m base ring now sig
    marked_cut = rw judged_cut refl
