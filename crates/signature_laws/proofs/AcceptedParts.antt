-- What the form of a signature, what it covers, its bytes and the digest of the body say.
use Rattle.std.proofs.Common.{◌≡◌, ℕ, Bool, true, false, not, ◌&&◌, ◌||◌, ◌⊎◌, inl, inr, List, [], ◌∷◌, Option, Some, None, Result, Ok, Err, refl}
use Rattle.std.specs.Prelude.{codes, IfSome}
use Rattle.std.specs.List.{list_all}
use Rattle.std.proofs.lemmas.Bool.{and_parts, or_cases, or_left, or_right, not-true, not_from_false}
use Rattle.std.proofs.lemmas.Option.{option_and_then_some}
use Rattle.bytes_and_lists.specs.declared.message.Message.{Message}
use Rattle.structured_fields.specs.declared.bare.Bare.{Bare}
use Rattle.structured_fields.specs.declared.bare.Bare.TheVariants.{Integer, Decimal, Str, Token, Binary, Boolean, Date, Display}
use Rattle.structured_fields.specs.declared.item.Item.{Item}
use Rattle.structured_fields.specs.declared.item.InnerList.{InnerList}
use Rattle.structured_fields.specs.declared.item.Member.{Member}
use Rattle.structured_fields.specs.Named.{value_at}
use Rattle.structured_fields.specs.Strings.{is_any_string}
use Rattle.content_digest.specs.declared.fault.DigestFault.{DigestFault}
use Rattle.content_digest.specs.Digest.{sequence_of}
use Rattle.content_digest.specs.Judged.{checked}
use Rattle.message_signature.specs.Components.{field_value}
use Rattle.message_signature.specs.Base.{is_named, name_of, line_of, base_lines, signature_base}
use Rattle.message_signature.specs.Verified.{signature_under, is_integer, absent_or, is_well_formed, has_body, has_field, covers_enough, has_right_digest}
use Rattle.message_signature.proofs.SignedBase.{none_is}

-- ---- tests

four : (a b c d : Bool) → (a && b && c && d) ≡ true → (a ≡ true) × (b ≡ true) × (c ≡ true) × (d ≡ true)
four a b c d h =
    let abc = and_parts (a && b && c) d h in
    let ab = and_parts (a && b) c abc.0 in
    let a_b = and_parts a b ab.0 in
    (a_b.0, a_b.1, ab.1, abc.1)

-- that the one wants the other, as a test says it
unless : {A : Type 0} (a b : Bool) → (a ≡ false → A) → (not a || b) ≡ true → A ⊎ (b ≡ true)
unless a b f h = elim (or_cases (not a) b h) [
  | inl is_not ↦ inl (f (not-true a is_not))
  | inr is ↦ inr is
]

wants : {A : Type 0} (a b : Bool) → (A → a ≡ false) → A ⊎ (b ≡ true) → (not a || b) ≡ true
wants a b f (inl x) = or_left (not a) b (not_from_false a (f x))
wants a b f (inr is) = or_right (not a) b is

-- ---- its form

name_is_string : (item : Item) (name : List ℕ) → name_of item ≡ Some name → is_any_string item.bare ≡ true
name_is_string item name h = by item.bare refl
  where
    by : (b : Bare) → item.bare ≡ b → is_any_string b ≡ true
    by (Str s) e = refl
    by (Integer n) e = absurd cc
    by (Decimal n) e = absurd cc
    by (Token s) e = absurd cc
    by (Binary s) e = absurd cc
    by (Boolean t) e = absurd cc
    by (Date n) e = absurd cc
    by (Display t) e = absurd cc

line_is_of_string : (m : Message) (base : List ℕ) (item : Item) (others : List Item) (line : List ℕ) → line_of m base item others ≡ Some line
    → is_any_string item.bare ≡ true
line_is_of_string m base item others line h = option_and_then_some _ (name_of item) line h (λ name named rest. name_is_string item name named)

-- what is covered is a String each, where there is a base
lines_are_strings : (m : Message) (base : List ℕ) (items : List Item) (lines : List ℕ) → base_lines m base items ≡ Some lines
    → list_all (λ i. is_any_string i.bare) items ≡ true
unfolding base_lines
lines_are_strings m base [] lines h = refl
lines_are_strings m base (item ∷ items) lines h =
    option_and_then_some _ (line_of m base item items) lines h (λ line lined rest.
    option_and_then_some _ (base_lines m base items) lines rest (λ more is last.
    rw (line_is_of_string m base item items line lined, lines_are_strings m base items more is) refl))

pub base_is_of_strings : (m : Message) (base : List ℕ) (list : InnerList) (text : List ℕ) → signature_base m base list ≡ Some text
    → list_all (λ i. is_any_string i.bare) list.items ≡ true
unfolding signature_base
base_is_of_strings m base list text h =
    option_and_then_some _ (base_lines m base list.items) text h (λ lines is rest. lines_are_strings m base list.items lines is)

pub expires_is_integer : (list : InnerList) → is_well_formed list ≡ true → absent_or is_integer (value_at list.params (codes "expires")) ≡ true
expires_is_integer list h =
    let strings = list_all (λ i. is_any_string i.bare) list.items in
    let created = absent_or is_integer (value_at list.params (codes "created")) in
    let expires = absent_or is_integer (value_at list.params (codes "expires")) in
    let keyid = absent_or is_any_string (value_at list.params (codes "keyid")) in
    (four strings created expires keyid (and_parts (strings && created && expires && keyid) _ h).0).2

-- ---- its bytes

pub record HasBytes (label : List ℕ) (signatures : List (List ℕ × Member)) (bytes : List ℕ) : Type 0 where
  pub signature : Member
  pub is : value_at signatures label ≡ Some signature
  pub bytes_are : sequence_of signature ≡ Some bytes

pub bytes_say : (label : List ℕ) (signatures : List (List ℕ × Member)) (bytes : List ℕ) → signature_under label signatures ≡ Some bytes
    → HasBytes label signatures bytes
bytes_say label signatures bytes h = by (value_at signatures label) refl
  where
    by : (o : Option Member) → value_at signatures label ≡ o → HasBytes label signatures bytes
    by (Some signature) e = record { signature = signature; is = e; bytes_are = rw e at h }
    by None e = absurd cc

pub bytes_found : (label : List ℕ) (signatures : List (List ℕ × Member)) (bytes : List ℕ) → HasBytes label signatures bytes
    → signature_under label signatures ≡ Some bytes
bytes_found label signatures bytes has = rw has.is has.bytes_are

-- ---- what it covers

body_is_empty : (m : Message) → has_body m ≡ false → m.body ≡ []
body_is_empty m h = by m.body refl
  where
    by : (body : List ℕ) → m.body ≡ body → body ≡ []
    by [] e = refl
    by (byte ∷ body) e = absurd cc

empty_is_no_body : (m : Message) → m.body ≡ [] → has_body m ≡ false
empty_is_no_body m e = rw e refl

pub record Covers (m : Message) (list : InnerList) : Type 0 where
  pub method : is_named (codes "@method") list.items ≡ true
  pub target : is_named (codes "@target-uri") list.items ≡ true
  pub digest : (m.body ≡ []) ⊎ (is_named (codes "content-digest") list.items ≡ true)
  pub authorization : (field_value (codes "authorization") m.fields ≡ None) ⊎ (is_named (codes "authorization") list.items ≡ true)

pub cover_says : (m : Message) (list : InnerList) → covers_enough m list ≡ true → Covers m list
cover_says m list h =
    let parts = four _ _ _ _ h in
    record {
      method = parts.0;
      target = parts.1;
      digest = unless (has_body m) _ (body_is_empty m) parts.2;
      authorization = unless (has_field (codes "authorization") m) _ (none_is (field_value (codes "authorization") m.fields)) parts.3;
    }

pub covered_passes : (m : Message) (list : InnerList) → Covers m list → covers_enough m list ≡ true
covered_passes m list c =
    rw (c.method, c.target, wants (has_body m) _ (empty_is_no_body m) c.digest, wants (has_field (codes "authorization") m) _ (λ e. rw e refl) c.authorization)
    refl

-- ---- the digest of the body

abbrev digest_of : Message → Option (List ℕ)
digest_of m = field_value (codes "content-digest") m.fields

abbrev FitsWhereThere : Message → Option (List ℕ) → Type 0
FitsWhereThere m o = IfSome o (λ field. checked field m.body ≡ Ok tt)

abbrev IsThereForABody : Message → Option (List ℕ) → Type 0
IsThereForABody m o = (m.body ≡ []) ⊎ ((field : List ℕ) × (o ≡ Some field))

pub record HasDigest (m : Message) : Type 0 where
  pub fits : FitsWhereThere m (digest_of m)
  pub body : IsThereForABody m (digest_of m)

pub digest_says : (m : Message) → has_right_digest m ≡ true → HasDigest m
digest_says m h = let parts = by (digest_of m) refl in record { fits = parts.0; body = parts.1 }
  where
    by : (o : Option (List ℕ)) → digest_of m ≡ o → FitsWhereThere m o × IsThereForABody m o
    by None e = (tt, inl (body_is_empty m (not-true (has_body m) (rw e at h))))
    by (Some field) e = (fit (checked field m.body) refl, inr (field, refl))
      where
        fit : (r : Result (Unit {0}) DigestFault) → checked field m.body ≡ r → r ≡ Ok tt
        fit (Ok u) c = refl
        fit (Err fault) c = absurd cc

pub digest_passes : (m : Message) → HasDigest m → has_right_digest m ≡ true
digest_passes m d = by (digest_of m) refl d.fits d.body
  where
    by : (o : Option (List ℕ)) → digest_of m ≡ o → FitsWhereThere m o → IsThereForABody m o → has_right_digest m ≡ true
    by (Some field) e fits there = rw (e, fits) refl
    by None e fits (inl empty) = rw (e, empty_is_no_body m empty) refl
    by None e fits (inr there) = let is = there.1 in absurd cc
