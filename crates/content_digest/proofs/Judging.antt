-- The one answer that is so.
use Rattle.std.proofs.Common.{◌≡◌, ◌≢◌, ℕ, Bool, true, false, cond, ◌||◌, inl, inr, List, [], ◌∷◌, ◌++◌, Option, Some, None, Result, Ok, Err, refl, sym, ap, ◌∙◌, subst, true≢false}
use Rattle.std.proofs.lemmas.Bool.{and_parts}
use Rattle.std.specs.Prelude.{codes, IfSome}
use Rattle.std.specs.Str.{bytes_eq}
use Rattle.std.specs.Option.{option_map_or}
use Rattle.std.specs.List.{AllByRecursion}
use Rattle.std.proofs.lemmas.Slice.Eq.{bytes_eq-Decides}
use Rattle.base64.specs.GeneralPurpose.{IsBytes}
use Rattle.sha2.specs.Sha256.{sha256}
use Rattle.sha2.specs.Sha512.{sha512}
use Rattle.structured_fields.specs.declared.item.Member.{Member}
use Rattle.structured_fields.specs.Grammar.{IsDictionaryText}
use Rattle.structured_fields.specs.Reading.{◌>>=◌, or_some, dictionary_of}
use Rattle.structured_fields.proofs.Whole.{dictionary_of_takes, dictionary_of_again}
use Rattle.content_digest.specs.declared.fault.DigestFault.{DigestFault}
use Rattle.content_digest.specs.declared.fault.DigestFault.TheVariants.{NotAField, NoKnown, Differs, OutOfMemory}
use Rattle.content_digest.specs.Digest.{is_known, digest_by, sequence_of, has_right_kind, are_sequences, has_known}
use Rattle.content_digest.specs.Judged.{Fits, IsRight, Says, Gives, AnswersWhatIsSo, difference, first_difference, answer_to, judged, checked}

abbrev Entry : Type 0
Entry = List ℕ × Member

abbrev Pair : Type 0
Pair = List ℕ × List ℕ

-- ---- one entry

-- a name is known where it has a digest
known_digest : (name body wanted : List ℕ) → digest_by name body ≡ Some wanted → is_known name ≡ true
known_digest name body wanted e = by (bytes_eq name (codes "sha-256")) (bytes_eq name (codes "sha-512")) e
  where
    by : (a b : Bool) → cond a (Some (sha256 body)) (cond b (Some (sha512 body)) None) ≡ Some wanted → (a || b) ≡ true
    by true b e = refl
    by false true e = refl
    by false false e = absurd cc

unknown_digest : (name body : List ℕ) → digest_by name body ≡ None → is_known name ≡ false
unknown_digest name body e = by (bytes_eq name (codes "sha-256")) (bytes_eq name (codes "sha-512")) e
  where
    by : (a b : Bool) → cond a (Some (sha256 body)) (cond b (Some (sha512 body)) None) ≡ None → (a || b) ≡ false
    by true b e = absurd cc
    by false true e = absurd cc
    by false false e = refl

unequal : (a b : List ℕ) → bytes_eq a b ≡ false → a ≢ b
unequal a b e same = true≢false (sym ((bytes_eq-Decides a b).1 same) ∙ e)

differs_eq : (a b : List ℕ) → a ≢ b → bytes_eq a b ≡ false
differs_eq a b differ = by (bytes_eq a b) refl
  where
    by : (r : Bool) → bytes_eq a b ≡ r → r ≡ false
    by false e = refl
    by true e = absurd (differ ((bytes_eq-Decides a b).0 e))

abbrev compared : Option (List ℕ) → Option (List ℕ) → Option Pair
compared wants finds = wants >>= λ wanted. finds >>= λ found. cond {A = Option Pair} (bytes_eq wanted found) None (Some (wanted, found))

module _ (body : List ℕ) (e : Entry) where
  right_of : has_right_kind e ≡ true → difference body e ≡ None → IsRight body e
  right_of kind none = by (digest_by e.0 body) refl (sequence_of e.1) refl none
    where
      by : (w : Option (List ℕ)) → digest_by e.0 body ≡ w → (f : Option (List ℕ)) → sequence_of e.1 ≡ f → compared w f ≡ None
          → IfSome w (λ wanted. f ≡ Some wanted)
      by None p f q h = tt
      by (Some wanted) p None q h =
          let known = known_digest e.0 body wanted p in
          let bad : has_right_kind e ≡ false = rw (known, q) refl in
          absurd (true≢false (sym kind ∙ bad))
      by (Some wanted) p (Some found) q h = equal (bytes_eq wanted found) refl h
        where
          equal : (r : Bool) → bytes_eq wanted found ≡ r → cond {A = Option Pair} r None (Some (wanted, found)) ≡ None → Some found ≡ Some wanted
          equal true t h = ap (λ (s : List ℕ). Some s) (sym ((bytes_eq-Decides wanted found).0 t))
          equal false t h = absurd cc

  right_kind : IsRight body e → has_right_kind e ≡ true
  right_kind right = by (digest_by e.0 body) refl right
    where
      by : (w : Option (List ℕ)) → digest_by e.0 body ≡ w → IfSome w (λ wanted. sequence_of e.1 ≡ Some wanted) → has_right_kind e ≡ true
      by None p h = rw (unknown_digest e.0 body p) refl
      by (Some wanted) p h = rw (known_digest e.0 body wanted p, h) refl

  right_none : IsRight body e → difference body e ≡ None
  right_none right = by (digest_by e.0 body) right
    where
      by : (w : Option (List ℕ)) → IfSome w (λ wanted. sequence_of e.1 ≡ Some wanted) → compared w (sequence_of e.1) ≡ None
      by None h = refl
      by (Some wanted) h = rw (h, (bytes_eq-Decides wanted wanted).1 refl) refl

  pub record Other (p : Pair) : Type 0 where
    pub wants : digest_by e.0 body ≡ Some p.0
    pub finds : sequence_of e.1 ≡ Some p.1
    pub differ : p.0 ≢ p.1

  other_of : (p : Pair) → difference body e ≡ Some p → Other p
  other_of p h = by (digest_by e.0 body) refl (sequence_of e.1) refl h
    where
      by : (w : Option (List ℕ)) → digest_by e.0 body ≡ w → (f : Option (List ℕ)) → sequence_of e.1 ≡ f → compared w f ≡ Some p → Other p
      by None a f b h = absurd cc
      by (Some wanted) a None b h = absurd cc
      by (Some wanted) a (Some found) b h = unlike (bytes_eq wanted found) refl h
        where
          unlike : (r : Bool) → bytes_eq wanted found ≡ r → cond {A = Option Pair} r None (Some (wanted, found)) ≡ Some p → Other p
          unlike true t h = absurd cc
          unlike false t h =
              let pair : Pair = (wanted, found) in let same : pair ≡ p = cc in
              subst Other same (record { wants = a; finds = b; differ = unequal wanted found t })

  difference_of : (wanted found : List ℕ) → digest_by e.0 body ≡ Some wanted → sequence_of e.1 ≡ Some found → wanted ≢ found
      → difference body e ≡ Some (wanted, found)
  difference_of wanted found a b differ = rw (a, b, differs_eq wanted found differ) refl

-- ---- entries

-- a lemma of its own, so that no digest is computed for it
some_no_none : (q : Pair) → Some q ≡ None → ⊥
some_no_none q h = cc

module _ (body : List ℕ) where
  all_right : (d : List Entry) → are_sequences d ≡ true → first_difference body d ≡ None → AllByRecursion (IsRight body) d
  all_right [] kind none = tt
  all_right (e ∷ d) kind none =
      let k = and_parts (has_right_kind e) (are_sequences d) kind in
      by (difference body e) refl none (λ h. all_right d k.1 h)
    where
      by : (o : Option Pair) → difference body e ≡ o → or_some o (first_difference body d) ≡ None
          → (first_difference body d ≡ None → AllByRecursion (IsRight body) d) → IsRight body e × AllByRecursion (IsRight body) d
      by None p h again = (right_of body e (and_parts (has_right_kind e) (are_sequences d) kind).0 p, again h)
      by (Some q) p h again = absurd (some_no_none q h)

  none_differs : (d : List Entry) → AllByRecursion (IsRight body) d → first_difference body d ≡ None
  none_differs [] all = refl
  none_differs (e ∷ d) all = rw (right_none body e all.0) (none_differs d all.1)

  all_kinds : (d : List Entry) → AllByRecursion (IsRight body) d → are_sequences d ≡ true
  all_kinds [] all = refl
  all_kinds (e ∷ d) all = rw (right_kind body e all.0) (all_kinds d all.1)

  pub record SplitAt (p : Pair) (d : List Entry) : Type 0 where
    pub before : List Entry
    pub at : Entry
    pub after : List Entry
    pub split : d ≡ before ++ at ∷ after
    pub right : AllByRecursion (IsRight body) before
    pub other : Other body at p

  split_of : (p : Pair) (d : List Entry) → are_sequences d ≡ true → first_difference body d ≡ Some p → SplitAt p d
  split_of p [] kind h = absurd cc
  split_of p (e ∷ d) kind h =
      let k = and_parts (has_right_kind e) (are_sequences d) kind in
      by (difference body e) refl h (λ h. split_of p d k.1 h)
    where
      by : (o : Option Pair) → difference body e ≡ o → or_some o (first_difference body d) ≡ Some p → (first_difference body d ≡ Some p → SplitAt p d)
          → SplitAt p (e ∷ d)
      by None q h again =
          let s = again h in
          record {
            before = e ∷ s.before;
            at = s.at;
            after = s.after;
            split = ap (λ (r : List Entry). e ∷ r) s.split;
            right =
                (right_of body e (and_parts (has_right_kind e) (are_sequences d) kind).0 q, s.right);
            other = s.other;
          }
      by (Some r) q h again = record { before = []; at = e; after = d; split = refl; right = tt; other = other_of body e p (q ∙ h) }

  differs_behind : (p : Pair) (before : List Entry) (e : Entry) (after : List Entry) → AllByRecursion (IsRight body) before → difference body e ≡ Some p
      → first_difference body (before ++ e ∷ after) ≡ Some p
  differs_behind p [] e after right h = rw h refl
  differs_behind p (b ∷ before) e after right h = rw (right_none body b right.0) (differs_behind p before e after right.1 h)

known_behind : (before : List Entry) (e : Entry) (after : List Entry) → is_known e.0 ≡ true → has_known (before ++ e ∷ after) ≡ true
known_behind [] e after h = rw h refl
known_behind (b ∷ before) e after h = by (is_known b.0) (known_behind before e after h)
  where
    by : (r : Bool) → has_known (before ++ e ∷ after) ≡ true → (r || has_known (before ++ e ∷ after)) ≡ true
    by true k = refl
    by false k = k

-- where no name is known, each known member is a byte sequence
none_known : (d : List Entry) → has_known d ≡ false → are_sequences d ≡ true
none_known [] h = refl
none_known (e ∷ d) h = by (is_known e.0) refl h (none_known d)
  where
    by : (r : Bool) → is_known e.0 ≡ r → (r || has_known d) ≡ false → (has_known d ≡ false → are_sequences d ≡ true) → are_sequences (e ∷ d) ≡ true
    by true p h again = absurd cc
    by false p h again = rw p (again h)

-- ---- the laws

judged_says : (field body : List ℕ) (d : List Entry) → IsDictionaryText field d → Says field body (judged body d)
unfolding judged
judged_says field body d is = by (are_sequences d) refl (has_known d) refl (first_difference body d) refl
  where
    by : (a : Bool) → are_sequences d ≡ a → (b : Bool) → has_known d ≡ b → (o : Option Pair) → first_difference body d ≡ o
        → Says field body (cond a (cond b (answer_to o) (Err NoKnown)) (Err NotAField))
    by false p b q o r = inr (record { dictionary = d; is = is; not_all = p })
    by true p false q o r = record { dictionary = d; is = is; none = q }
    by true p true q None r = record { dictionary = d; is = is; all = all_right body d p r; some = q }
    by true p true q (Some pair) r =
        let s = split_of body pair d p r in
        record {
          dictionary = d;
          is = is;
          all = p;
          before = s.before;
          name = s.at.0;
          member = s.at.1;
          after = s.after;
          split = s.split;
          right = s.right;
          wants =
              s.other.wants;
          finds = s.other.finds;
          differ = s.other.differ;
        }

pub checked_says : (field body : List ℕ) → IsBytes field → Says field body (checked field body)
unfolding checked
checked_says field body fits = by (dictionary_of field) refl
  where
    by : (o : Option (List Entry)) → dictionary_of field ≡ o → Says field body (option_map_or (judged body) o (Err NotAField))
    by None e = inl (λ d is. let some = dictionary_of_again field d is in cc)
    by (Some d) e = judged_says field body d (dictionary_of_takes field d fits e)

-- the answer on a dictionary that is read
read_as : (field body : List ℕ) (d : List Entry) → IsDictionaryText field d → checked field body ≡ judged body d
unfolding checked
read_as field body d is = rw (dictionary_of_again field d is) refl

-- a field that fits passes
pub fits_checked : (field body : List ℕ) → Fits field body → checked field body ≡ Ok tt
unfolding checked judged
fits_checked field body s = read_as field body s.dictionary s.is ∙ rw (all_kinds body s.dictionary s.all, s.some, none_differs body s.dictionary s.all) refl

pub says_checked : (field body : List ℕ) (a : Result (Unit {0}) DigestFault) → IsBytes field → Says field body a → checked field body ≡ a
unfolding checked judged
says_checked field body (Ok u) fits s = fits_checked field body s
says_checked field body (Err NoKnown) fits s =
    read_as field body s.dictionary s.is ∙ rw (none_known s.dictionary s.none, s.none) refl
says_checked field body (Err (Differs wanted found)) fits s =
    let at : Entry = (s.name, s.member) in
    let known : has_known s.dictionary ≡ true = ap has_known s.split ∙ known_behind s.before at s.after (known_digest s.name body wanted s.wants) in
    let other : first_difference body s.dictionary ≡ Some (wanted, found) = ap (first_difference body) s.split
    ∙ differs_behind body (wanted, found) s.before at s.after s.right (difference_of body at wanted found s.wants s.finds s.differ) in
    read_as field body s.dictionary s.is ∙ rw (s.all, known, other) refl
says_checked field body (Err NotAField) fits (inl none) = by (dictionary_of field) refl
  where
    by : (o : Option (List Entry)) → dictionary_of field ≡ o → option_map_or (judged body) o (Err NotAField) ≡ Err NotAField
    by None e = refl
    by (Some d) e = absurd (none d (dictionary_of_takes field d fits e))
says_checked field body (Err NotAField) fits (inr s) = read_as field body s.dictionary s.is ∙ rw s.not_all refl
says_checked field body (Err OutOfMemory) fits s = absurd s

-- ---- the code's answer

pub answer_says : (field body : List ℕ) (r : Result (Unit {0}) DigestFault) → IsBytes field → Gives r (checked field body) → r ≢ Err OutOfMemory
    → Says field body r
answer_says field body (Ok u) fits g apart = subst (Says field body) g (checked_says field body fits)
answer_says field body (Err NotAField) fits g apart = subst (Says field body) g (checked_says field body fits)
answer_says field body (Err NoKnown) fits g apart = subst (Says field body) g (checked_says field body fits)
answer_says field body (Err (Differs wanted found)) fits g apart = subst (Says field body) g (checked_says field body fits)
answer_says field body (Err OutOfMemory) fits g apart = absurd (apart refl)

pub answer_only : (field body : List ℕ) (r : Result (Unit {0}) DigestFault) → IsBytes field → Gives r (checked field body) → AnswersWhatIsSo field body r
answer_only field body r fits g = λ a s. subst (Gives r) (says_checked field body a fits s) g
