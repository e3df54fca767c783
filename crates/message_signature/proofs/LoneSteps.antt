-- The signature with a tag, by what was found of the members of the two fields.
use Rattle.std.proofs.Common.{◌≡◌, ℕ, Bool, true, false, cond, List, [], ◌∷◌, Option, Some, None, Result, Ok, Err, refl, sym, ap, subst, ◌∙◌}
use Rattle.std.specs.Prelude.{codes}
use Rattle.std.specs.Option.{option_map}
use Rattle.bytes_and_lists.specs.declared.message.Message.{Message}
use Rattle.structured_fields.specs.declared.bare.Bare.{Bare}
use Rattle.structured_fields.specs.declared.item.Item.{Item}
use Rattle.structured_fields.specs.declared.item.InnerList.{InnerList}
use Rattle.structured_fields.specs.declared.item.Member.{Member}
use Rattle.structured_fields.specs.declared.item.Member.TheVariants.{Item as Single, Inner}
use Rattle.structured_fields.specs.Named.{value_at}
use Rattle.dictionary_lookup.specs.Skipping.{matches_among, bare_found, cut_list, strings_in}
use Rattle.structured_fields.specs.Reading.{dictionary_of}
use Rattle.structured_fields.specs.Strings.{are_strings, holds_string}
use Rattle.structured_fields.proofs.Fronts.{some_is}
use Rattle.message_signature.specs.declared.fault.SigFault.{SigFault}
use Rattle.message_signature.specs.declared.fault.SigFault.TheVariants.{NoField, NotAField, NoTag, Malformed, OutOfMemory}
use Rattle.message_signature.specs.declared.lone.LoneSignature.{LoneSignature}
use Rattle.message_signature.specs.declared.reading.ReadSignature.{ReadSignature}
use Rattle.message_signature.specs.declared.reading.ReadSignature.TheVariants.{Alone, Among}
use Rattle.message_signature.specs.declared.tags.SignatureFields.{SignatureFields}
use Rattle.message_signature.specs.Components.{field_value}
use Rattle.message_signature.specs.Faults.{◌>>=◌, need, must, Fails}
use Rattle.message_signature.specs.Lone.{read_tagged, bytes_in, formed, lone_seen, IsLone, IsRead, tagged_read}
use Rattle.message_signature.specs.Verified.{Signature, is_well_formed, with_tag, signature_under, signature_fields, tagged_in, tagged, judged, verified}
use Rattle.message_signature.specs.Marked.{judged_with_mark, id_and_mark, verified_marked}
use Rattle.message_signature.proofs.CutLists.{cut_is_formed, judged_cut, marked_cut}
use Rattle.message_signature.proofs.VerifiedParts.{id_and_mark_is}

abbrev Entry : Type 0
Entry = List ℕ × Member

-- ---- the lists with the tag

module _ (tag : List ℕ) where
  abbrev matching : List Entry → List Entry
  matching d = matches_among (codes "tag") tag d

  abbrev holds : InnerList → Bool
  holds list = holds_string tag (value_at list.params (codes "tag"))

  pub none_tagged : (d : List Entry) → matching d ≡ [] → with_tag tag d ≡ []
  none_tagged [] h = refl
  none_tagged ((name, Single item) ∷ d) h = none_tagged d h
  none_tagged ((name, Inner list) ∷ d) h = by (holds list) refl h (none_tagged d)
    where
      by : (b : Bool) → holds list ≡ b → cond b ((name, Inner list) ∷ matching d) (matching d) ≡ [] → (matching d ≡ [] → with_tag tag d ≡ [])
          → with_tag tag ((name, Inner list) ∷ d) ≡ []
      by true t h again = absurd cc
      by false t h again =
          rw t (again h)

  pub one_tagged : (d : List Entry) (label : List ℕ) (one : InnerList) → matching d ≡ (label, Inner one) ∷ [] → with_tag tag d ≡ (label, one) ∷ []
  one_tagged [] label one h = absurd cc
  one_tagged ((name, Single item) ∷ d) label one h = one_tagged d label one h
  one_tagged ((name, Inner list) ∷ d) label one h = by (holds list) refl h (none_tagged d) (one_tagged d label one)
    where
      by : (b : Bool) → holds list ≡ b → cond b ((name, Inner list) ∷ matching d) (matching d) ≡ (label, Inner one) ∷ []
          → (matching d ≡ [] → with_tag tag d ≡ [])
          → (matching d ≡ (label, Inner one) ∷ [] → with_tag tag d ≡ (label, one) ∷ []) → with_tag tag ((name, Inner list) ∷ d) ≡ (label, one) ∷ []
      by true t h none again =
          let held : Entry = (name, Inner list) in
          let only : Entry = (label, Inner one) in
          let same : held ≡ only = cc in
          let others : matching d ≡ [] = cc in
          let names : name ≡ label = ap (λ (e : Entry). e.0) same in
          let members : Inner list ≡ Inner one = ap (λ (e : Entry). e.1) same in
          let lists : list ≡ one = cc in
          rw (t, none others, names, lists) refl
      by false t h none again =
          rw t (again h)

  -- what is marked is an inner list
  pub never_single : (d : List Entry) (label : List ℕ) (item : Item) → matching d ≡ (label, Single item) ∷ [] → ⊥
  never_single [] label item h = absurd cc
  never_single ((name, Single other) ∷ d) label item h = never_single d label item h
  never_single ((name, Inner list) ∷ d) label item h = by (holds list) h (never_single d label item)
    where
      by : (b : Bool) → cond b ((name, Inner list) ∷ matching d) (matching d) ≡ (label, Single item) ∷ [] → (matching d ≡ (label, Single item) ∷ [] → ⊥) → ⊥
      by true h again =
          let held : Entry = (name, Inner list) in
          let only : Entry = (label, Single item) in
          let same : held ≡ only = cc in
          let members : Inner list ≡ Single item = ap (λ (e : Entry). e.1) same in
          absurd cc
      by false h again = again h

-- the member is a list of Strings, of which this is held
abbrev pub IsCutOf : InnerList → Member → Type 0
IsCutOf list m = (whole : InnerList) × (m ≡ Inner whole) × (are_strings whole.items ≡ true) × (list ≡ cut_list whole)

pub cut_of : (m : Member) (list : InnerList) → Some list ≡ strings_in m → IsCutOf list m
cut_of (Single item) list h = absurd cc
cut_of (Inner whole) list h = by (are_strings whole.items) refl h
  where
    by : (b : Bool) → are_strings whole.items ≡ b → Some list ≡ cond b (Some (cut_list whole)) None → IsCutOf list (Inner whole)
    by true all h = (whole, refl, all, some_is list (cut_list whole) h)
    by false all h = absurd cc

pub once_is : (tag label : List ℕ) (d : List Entry) (list : InnerList) (m : Member) → m ≡ Inner list → matches_among (codes "tag") tag d ≡ (label, m) ∷ []
    → matches_among (codes "tag") tag d ≡ (label, Inner list) ∷ []
once_is tag label d list m is one = one ∙ ap (λ (x : Member). (label, x) ∷ []) is

-- a list of other items hasn't its form
pub no_strings : (list : InnerList) → None ≡ strings_in (Inner list) → is_well_formed list ≡ false
no_strings list h = by (are_strings list.items) refl h
  where
    by : (b : Bool) → are_strings list.items ≡ b → None ≡ cond b (Some (cut_list list)) None → is_well_formed list ≡ false
    by true e h = absurd cc
    by false e h = rw e refl

-- what is made of the list that is held, and of the whole
module _ (label : List ℕ) (list whole : InnerList) (all : are_strings whole.items ≡ true) (is : list ≡ cut_list whole) where
  abbrev made : Bool → InnerList → Option (List ℕ) → Result Signature SigFault
  made b l o = must Malformed b >>= λ _. need Malformed o >>= λ bytes. Ok (record { label = label; list = l; bytes = bytes })

  same_form : is_well_formed list ≡ is_well_formed whole
  same_form = ap is_well_formed is ∙ cut_is_formed whole all

  pub formed_fails : (o : Option (List ℕ)) (e : SigFault) → Fails e (formed label list o) → Fails e (formed label whole o)
  formed_fails o e h = by (is_well_formed whole) o e (subst (λ (b : Bool). Fails e (made b list o)) same_form h)
    where
      by : (b : Bool) (o : Option (List ℕ)) (e : SigFault) → Fails e (made b list o) → Fails e (made b whole o)
      by b o OutOfMemory h = tt
      by true (Some bytes) e h = absurd cc
      by true None e h = h
      by false o e h = h

  pub formed_is : (o : Option (List ℕ)) (one : LoneSignature) → formed label list o ≡ Ok (lone_seen label one) → IsLone (formed label whole o) one
  formed_is o one h = by (is_well_formed whole) o (subst (λ (b : Bool). made b list o ≡ Ok (lone_seen label one)) same_form h)
    where
      under : List ℕ → Signature → Signature
      under other sig = record { label = other; list = sig.list; bytes = sig.bytes }

      by : (b : Bool) (o : Option (List ℕ)) → made b list o ≡ Ok (lone_seen label one) → IsLone (made b whole o) one
      by true (Some bytes) h =
          let found : Signature = record { label = label; list = list; bytes = bytes } in
          let same : found ≡ lone_seen label one = cc in (
            record { label = label; list = whole; bytes = bytes },
            refl,
            λ other. sym (ap (under other) same) ∙ ap (λ (l : InnerList). record { label = other; list = l; bytes = bytes }) is,
          )
      by true None h = absurd cc
      by false o h = absurd cc

-- ---- the bytes under a label

pub bytes_of_single : (label : List ℕ) (d : List Entry) → bytes_in (bare_found (value_at d label)) ≡ signature_under label d
bytes_of_single label d = by (value_at d label) refl
  where
    by : (o : Option Member) → value_at d label ≡ o → bytes_in (bare_found o) ≡ signature_under label d
    by None e = rw e refl
    by (Some (Single i)) e = rw e refl
    by (Some (Inner l)) e = rw e refl

-- what is read of the field, where it is a dictionary, and where it is none
pub bytes_read : (label : List ℕ) (r : Option (List Entry)) (bare : Option Bare) → option_map (λ d. bare_found (value_at d label)) r ≡ Some bare
    → need NotAField (option_map (signature_under label) r) ≡ Ok (bytes_in bare)
bytes_read label None bare h = absurd cc
bytes_read label (Some d) bare h =
    let same : bare_found (value_at d label) ≡ bare = some_is (bare_found (value_at d label)) bare h in
    ap (λ (o : Option (List ℕ)). Ok o) (sym (bytes_of_single label d)) ∙ ap (λ (o : Option Bare). Ok (bytes_in o)) same

pub no_bytes : (label : List ℕ) (r : Option (List Entry)) → option_map (λ d. bare_found (value_at d label)) r ≡ None
    → need NotAField (option_map (signature_under label) r) ≡ Err NotAField
no_bytes label None h = refl
no_bytes label (Some d) h = absurd cc

-- ---- the chain

-- the fault of the first step is the answer
pub fails_first : {A B : Type 0} (r : Result A SigFault) (f : A → Result B SigFault) (e : SigFault) → Fails e r → Fails e (r >>= f)
fails_first r f OutOfMemory h = tt
fails_first {A = A} r f e h = ap (λ (x : Result A SigFault). x >>= f) h

-- a step that fails, whatever is made of its value
fails_behind : {A B C : Type 0} (f : SigFault) (g : A → B) (o : Option A) (k : A → Result C SigFault) (e : SigFault) → need f (option_map g o) ≡ Err e
    → (need f o >>= k) ≡ Err e
fails_behind f g None k e h = cc
fails_behind f g (Some x) k e h = absurd cc

read_behind : {A B : Type 0} (f : SigFault) (g : A → B) (o : Option A) (y : B) → need f (option_map g o) ≡ Ok y → (x : A) × (o ≡ Some x) × (g x ≡ y)
read_behind f g None y h = absurd cc
read_behind f g (Some x) y h = (x, refl, cc)

module _ (input signature tag : List ℕ) where
  abbrev rest : List Entry → Result Signature SigFault
  rest inputs = need NotAField (dictionary_of signature) >>= λ signatures. tagged_in tag (record { inputs = inputs; signatures = signatures })

  pub input_fails : (e : SigFault) → Fails e (need NotAField (dictionary_of input)) → Fails e (read_tagged input signature tag)
  input_fails e h = fails_first (need NotAField (dictionary_of input)) rest e h

  module _ (d : List Entry) (reads : dictionary_of input ≡ Some d) where
    pub signature_fails : (label : List ℕ) (e : SigFault) → Fails e (need NotAField (option_map (signature_under label) (dictionary_of signature)))
        → Fails e (read_tagged input signature tag)
    signature_fails label OutOfMemory h = tt
    signature_fails label e h = rw reads
        (fails_behind NotAField (signature_under label) (dictionary_of signature) (λ signatures. tagged_in tag (record { inputs = d; signatures = signatures }))
        e h)

    pub untagged : (label : List ℕ) (o : Option (List ℕ)) → need NotAField (option_map (signature_under label) (dictionary_of signature)) ≡ Ok o
        → matches_among (codes "tag") tag d ≡ [] → read_tagged input signature tag ≡ Err NoTag
    untagged label o h none =
        let x = read_behind NotAField (signature_under label) (dictionary_of signature) o h in
        rw (reads, x.1, none_tagged tag d none) refl

    pub tagged_once : (label : List ℕ) (list : InnerList) (o : Option (List ℕ))
        → need NotAField (option_map (signature_under label) (dictionary_of signature)) ≡ Ok o
        → matches_among (codes "tag") tag d ≡ (label, Inner list) ∷ [] → read_tagged input signature tag ≡ formed label list o
    tagged_once label list o h one =
        let x = read_behind NotAField (signature_under label) (dictionary_of signature) o h in
        rw (reads, x.1, one_tagged tag d label list one) (ap (formed label list) x.2)

    pub once_fails : (label : List ℕ) (list : InnerList) (o : Option (List ℕ)) (e : SigFault)
        → need NotAField (option_map (signature_under label) (dictionary_of signature)) ≡ Ok o
        → matches_among (codes "tag") tag d ≡ (label, Inner list) ∷ [] → Fails e (formed label list o) → Fails e (read_tagged input signature tag)
    once_fails label list o e h one f = subst (Fails e) (sym (tagged_once label list o h one)) f

    pub malformed_once : (label : List ℕ) (m : Member) (o : Option (List ℕ))
        → need NotAField (option_map (signature_under label) (dictionary_of signature)) ≡ Ok o
        → matches_among (codes "tag") tag d ≡ (label, m) ∷ [] → None ≡ strings_in m → read_tagged input signature tag ≡ Err Malformed
    malformed_once label (Single item) o h one none = absurd (never_single tag d label item one)
    malformed_once label (Inner list) o h one none = tagged_once label list o h one ∙ rw (no_strings list none) refl

    -- by the list that is held
    module _ (label : List ℕ) (m : Member) (list : InnerList) (o : Option (List ℕ))
        (bytes : need NotAField (option_map (signature_under label) (dictionary_of signature)) ≡ Ok o)
        (once : matches_among (codes "tag") tag d ≡ (label, m) ∷ []) (is : Some list ≡ strings_in m) where
      cut : IsCutOf list m
      cut = cut_of m list is

      pub once_lone : (one : LoneSignature) → formed label list o ≡ Ok (lone_seen label one) → IsLone (read_tagged input signature tag) one
      once_lone one h =
          rw (tagged_once label cut.0 o bytes (once_is tag label d cut.0 m cut.1 once)) (formed_is label list cut.0 cut.2 cut.3 o one h)

      pub once_refused : (e : SigFault) → Fails e (formed label list o) → Fails e (read_tagged input signature tag)
      once_refused e h = once_fails label cut.0 o e bytes (once_is tag label d cut.0 m cut.1 once) (formed_fails label list cut.0 cut.2 cut.3 o e h)

-- ---- by the fields of a message

module _ (m : Message) (tag : List ℕ) where
  pub no_fields : (e : SigFault) → Fails e (signature_fields m) → Fails e (tagged m tag)
  unfolding tagged
  no_fields e h = fails_first (signature_fields m) (tagged_in tag) e h

  pub no_input : (e : SigFault) → Fails e (need NoField (field_value (codes "signature-input") m.fields)) → Fails e (tagged m tag)
  no_input e h = no_fields e (fails_first (need NoField (field_value (codes "signature-input") m.fields)) _ e h)

  module _ (input : List ℕ) (input_is : need NoField (field_value (codes "signature-input") m.fields) ≡ Ok input) where
    pub no_signature : (e : SigFault) → Fails e (need NoField (field_value (codes "signature") m.fields)) → Fails e (tagged m tag)
    no_signature e h = no_fields e (rw input_is (fails_first (need NoField (field_value (codes "signature") m.fields)) _ e h))

    pub by_texts : (signature : List ℕ) → need NoField (field_value (codes "signature") m.fields) ≡ Ok signature
        → tagged m tag ≡ read_tagged input signature tag
    unfolding tagged
    by_texts signature signature_is = rw (input_is, signature_is) (by (dictionary_of input) (dictionary_of signature))
      where
        by : (a b : Option (List Entry))
            → ((need NotAField a >>= λ inputs. need NotAField b >>= λ signatures. Ok (record { inputs = inputs; signatures = signatures })) >>= λ fields.
            tagged_in tag fields)
            ≡ (need NotAField a >>= λ inputs. need NotAField b >>= λ signatures. tagged_in tag (record { inputs = inputs; signatures = signatures }))
        by None b = refl
        by (Some a) None = refl
        by (Some a) (Some b) = refl

  -- by both dictionaries
  pub by_fields : (fields : SignatureFields) → signature_fields m ≡ Ok fields → tagged m tag ≡ tagged_in tag fields
  unfolding tagged
  by_fields fields is = rw is refl

-- ---- what is verified by it

module _ (m : Message) (base : List ℕ) (ring : List (List ℕ × List ℕ)) (now : ℕ) (tag : List ℕ) where
  verified_by : (found : Result Signature SigFault) → tagged m tag ≡ found → verified m base ring now tag ≡ (found >>= judged m base ring now)
  unfolding verified
  verified_by found e = ap (λ (r : Result Signature SigFault). r >>= judged m base ring now) e

  pub verified_by_read : (label : List ℕ) (read : ReadSignature) → IsRead (tagged m tag) tag read
      → verified m base ring now tag ≡ (tagged_read label tag read >>= judged m base ring now)
  verified_by_read label (Alone one) is = verified_by (Ok is.0) is.1 ∙ sym (ap (judged m base ring now) (is.2 label) ∙ judged_cut m base ring now label is.0)
  verified_by_read label (Among fields) is = verified_by (tagged_in tag fields) is

  pub verified_fails : (e : SigFault) → Fails e (tagged m tag) → Fails e (verified m base ring now tag)
  unfolding verified
  verified_fails e h = fails_first (tagged m tag) (judged m base ring now) e h

  marked_by : (found : Result Signature SigFault) → tagged m tag ≡ found → verified_marked m base ring now tag ≡ (found >>= judged_with_mark m base ring now)
  unfolding id_and_mark
  marked_by found e = sym (id_and_mark_is m base ring now tag) ∙ ap (λ (r : Result Signature SigFault). r >>= judged_with_mark m base ring now) e

  pub marked_by_read : (label : List ℕ) (read : ReadSignature) → IsRead (tagged m tag) tag read
      → verified_marked m base ring now tag ≡ (tagged_read label tag read >>= judged_with_mark m base ring now)
  marked_by_read label (Alone one) is = marked_by (Ok is.0) is.1
      ∙ sym (ap (judged_with_mark m base ring now) (is.2 label) ∙ marked_cut m base ring now label is.0)
  marked_by_read label (Among fields) is = marked_by (tagged_in tag fields) is

  pub marked_fails : (e : SigFault) → Fails e (tagged m tag) → Fails e (verified_marked m base ring now tag)
  unfolding id_and_mark
  marked_fails e h = subst (Fails e) (id_and_mark_is m base ring now tag) (fails_first (tagged m tag) (judged_with_mark m base ring now) e h)
