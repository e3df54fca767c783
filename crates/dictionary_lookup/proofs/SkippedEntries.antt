-- Entries gone through one after the other: which of them are matched, and what stands under a key.
use Rattle.std.proofs.Common.{◌≡◌, ℕ, ◌+◌, ◌-◌, ◌<◌, Bool, true, false, cond, List, [], ◌∷◌, length, Option, Some, None, refl, sym, ap, subst, ◌∙◌, true≢false}
use Rattle.std.specs.Option.{option_map}
use Rattle.std.specs.Str.{bytes_eq}
use Rattle.std.proofs.lemmas.Slice.Eq.{bytes_eq-Decides}
use Rattle.structured_fields.specs.declared.fault.FieldFault.{FieldFault}
use Rattle.structured_fields.specs.declared.fault.FieldFault.TheVariants.{NotInGrammar, OutOfMemory}
use Rattle.structured_fields.specs.declared.bare.Bare.{Bare}
use Rattle.structured_fields.specs.declared.item.InnerList.{InnerList}
use Rattle.structured_fields.specs.declared.item.Member.{Member}
use Rattle.structured_fields.specs.Named.{value_at, with_value}
use Rattle.dictionary_lookup.specs.declared.lookup.Matched.{Matched}
use Rattle.dictionary_lookup.specs.declared.lookup.Matched.TheVariants.{Nowhere, Once, Unsettled}
use Rattle.dictionary_lookup.specs.declared.lookup.MatchedList.{MatchedList}
use Rattle.dictionary_lookup.specs.Skipping.{Entries, Enters, Tells, bare_found, is_match, entry_matched, matches_among, member_matched, member_read, single_of, single_read, strings_in}
use Rattle.structured_fields.specs.Reading.{◌>>=◌, Fails, key_at, entry_value_at, entry_at, next_at, members_from, with_entry}
use Rattle.structured_fields.proofs.Entries.{turned, value_set, value_after}
use Rattle.structured_fields.proofs.Fronts.{mapped, some_is}
use Rattle.structured_fields.proofs.Loop.{members_start, members_failed, members_more, members_done, members_refused, members_spent}
use Rattle.dictionary_lookup.proofs.Behind.{fails_map, fails_mapped}

-- ---- the entries that are matched, once one more was set

module _ (name s : List ℕ) where
  abbrev among : Entries → Entries
  among d = matches_among name s d

  -- none of the others
  none_behind : (e : List ℕ × Member) (es : Entries) → among (e ∷ es) ≡ [] → (is_match name s e.1 ≡ false) × (among es ≡ [])
  none_behind e es none = by (is_match name s e.1) refl none
    where
      by : (b : Bool) → is_match name s e.1 ≡ b → cond b (e ∷ among es) (among es) ≡ [] → (b ≡ false) × (among es ≡ [])
      by true t h = absurd cc
      by false t h = (refl, h)

  pub stays_none : (d : Entries) (key : List ℕ) (m : Member) → among d ≡ [] → is_match name s m ≡ false → among (with_value d key m) ≡ []
  stays_none [] key m none plain = rw plain refl
  stays_none (e ∷ es) key m none plain = by (bytes_eq key e.0) (stays_none es key m (none_behind e es none).1 plain)
    where
      parts : (is_match name s e.1 ≡ false) × (among es ≡ [])
      parts = none_behind e es none

      by : (b : Bool) → among (with_value es key m) ≡ [] → among (cond b ((e.0, m) ∷ es) (e ∷ with_value es key m)) ≡ []
      by true again = rw plain parts.1
      by false again = rw parts.0 again

  pub first_one : (d : Entries) (key : List ℕ) (m : Member) → among d ≡ [] → is_match name s m ≡ true → among (with_value d key m) ≡ (key, m) ∷ []
  first_one [] key m none matched = rw matched refl
  first_one (e ∷ es) key m none matched = by (bytes_eq key e.0) refl (first_one es key m (none_behind e es none).1 matched)
    where
      parts : (is_match name s e.1 ≡ false) × (among es ≡ [])
      parts = none_behind e es none

      by : (b : Bool) → bytes_eq key e.0 ≡ b → among (with_value es key m) ≡ (key, m) ∷ []
          → among (cond b ((e.0, m) ∷ es) (e ∷ with_value es key m)) ≡ (key, m) ∷ []
      by true t again = let same : key ≡ e.0 = (bytes_eq-Decides key e.0).0 t in rw (matched, parts.1) (ap (λ (l : List ℕ). (l, m) ∷ []) (sym same))
      by false t again = rw parts.0 again

  pub stays_one : (d : Entries) (key : List ℕ) (m : Member) (k : List ℕ) (x : Member) → among d ≡ (k, x) ∷ [] → bytes_eq k key ≡ false
      → is_match name s m ≡ false
      → among (with_value d key m) ≡ (k, x) ∷ []
  stays_one [] key m k x one apart plain = absurd cc
  stays_one (e ∷ es) key m k x one apart plain = by (is_match name s e.1) (bytes_eq key e.0) refl refl one (λ h. stays_one es key m k x h apart plain)
    where
      by : (c b : Bool) → is_match name s e.1 ≡ c → bytes_eq key e.0 ≡ b → cond c (e ∷ among es) (among es) ≡ (k, x) ∷ []
          → (among es ≡ (k, x) ∷ [] → among (with_value es key m) ≡ (k, x) ∷ []) → among (cond b ((e.0, m) ∷ es) (e ∷ with_value es key m)) ≡ (k, x) ∷ []
      by true true u t h again =
          let is : e ≡ (k, x) = cc in
          let same : key ≡ k = (bytes_eq-Decides key e.0).0 t ∙ ap (λ (y : List ℕ × Member). y.0) is in
          absurd (true≢false (sym ((bytes_eq-Decides k key).1 (sym same)) ∙ apart))
      by true false u t h again =
          let is : e ≡ (k, x) = cc in
          let others : among es ≡ [] = cc in
          rw (u, stays_none es key m others plain) (ap (λ (y : List ℕ × Member). y ∷ []) is)
      by false true u t h again = rw plain h
      by false false u t h again = rw u (again h)

-- ---- the text of an entry

pub entry_none : (t : List ℕ) → key_at t ≡ None → entry_at t ≡ None
unfolding entry_at
entry_none t h = rw h refl

module _ (t key value : List ℕ) (key_is : key_at t ≡ Some (key, value)) where
  abbrev keyed : Member × List ℕ → (List ℕ × Member) × List ℕ
  keyed m = ((key, m.0), m.1)

  under_key : entry_at t ≡ option_map keyed (entry_value_at value)
  unfolding entry_at
  under_key = rw key_is (by (entry_value_at value))
    where
      by : (o : Option (Member × List ℕ)) → (o >>= λ m. Some (keyed m)) ≡ option_map keyed o
      by None = refl
      by (Some m) = refl

  pub entry_failed : {A : Type 0} (made : Member × List ℕ → A) (e : FieldFault) → Fails e (option_map made (entry_value_at value)) → Fails e (entry_at t)
  entry_failed made e h =
      subst (Fails e) (sym under_key) (fails_map keyed e (entry_value_at value) (fails_mapped made e (entry_value_at value) h))

  -- the entry of which this was made
  abbrev made_of : {A : Type 0} → (Member → A) → Member × List ℕ → A × List ℕ
  made_of made m = (made m.0, m.1)

  entry_made : {A : Type 0} (made : Member → A) (a : A) (rest : List ℕ) → option_map (made_of made) (entry_value_at value) ≡ Some (a, rest)
      → (m : Member) × (entry_at t ≡ Some ((key, m), rest)) × (made m ≡ a)
  entry_made {A = A} made a rest h =
      let x = mapped (made_of made) (entry_value_at value) (a, rest) h in
      let ends : x.0.1 ≡ rest = ap (λ (y : A × List ℕ). y.1) x.2 in (
        x.0.0,
        under_key ∙ ap (option_map keyed) x.1 ∙ ap (λ (r : List ℕ). Some ((key, x.0.0), r)) ends,
        ap (λ (y : A × List ℕ). y.0) x.2,
      )

  -- ---- the first list that is matched

  module _ (name s : List ℕ) where
    abbrev member_of : List ℕ → Option InnerList → Bool → Type 0
    member_of rest strings matched = option_map (member_read name s) (entry_value_at value) ≡ Some ((strings, matched), rest)

    abbrev list_and_match : Member → Option InnerList × Bool
    list_and_match m = (strings_in m, is_match name s m)

    pub entry_passed : (rest : List ℕ) (strings : Option InnerList) (matched : Bool) → member_of rest strings matched → matched ≡ false
        → Enters t rest (Tells name s Nowhere) (Tells name s Nowhere)
    entry_passed rest strings matched h plain =
        let e = entry_made list_and_match (strings, matched) rest h in
        (key, e.0, e.1, λ d none. stays_none name s d key e.0 none (ap (λ (y : Option InnerList × Bool). y.1) e.2 ∙ plain))

    pub entry_first : (rest : List ℕ) (one : MatchedList) (matched : Bool) → one.key.now ≡ key → member_of rest one.strings matched → matched ≡ true
        → Enters t rest (Tells name s Nowhere) (Tells name s (Once one))
    entry_first rest one matched same h marked =
        let e = entry_made list_and_match (one.strings, matched) rest h in (
          key,
          e.0,
          e.1,
          λ d none. (
            e.0,
            first_one name s d key e.0 none (ap (λ (y : Option InnerList × Bool). y.1) e.2 ∙ marked) ∙ ap (λ (k : List ℕ). (k, e.0) ∷ []) (sym same),
            sym (ap (λ (y : Option InnerList × Bool). y.0) e.2),
          ),
        )

    -- ---- an entry that is skipped

    pub entry_read : (matched : Bool) (rest : List ℕ) → option_map (member_matched name s) (entry_value_at value) ≡ Some (matched, rest)
        → option_map (entry_matched name s) (entry_at t) ≡ Some ((key, matched), rest)
    entry_read matched rest h =
        let e = entry_made (is_match name s) matched rest h in
        ap (option_map (entry_matched name s)) e.1 ∙ ap (λ (b : Bool). Some ((key, b), rest)) e.2

    pub skip_failed : (e : FieldFault) → Fails e (option_map (member_matched name s) (entry_value_at value))
        → Fails e (option_map (entry_matched name s) (entry_at t))
    skip_failed e h = fails_map (entry_matched name s) e (entry_at t) (entry_failed (member_matched name s) e h)

  -- ---- the bare item under a key

  module _ (k : List ℕ) where
    abbrev Finds : Option Bare → Entries → Type 0
    Finds found d = found ≡ bare_found (value_at d k)

    pub single_there : (found o : Option Bare) (rest : List ℕ) → bytes_eq key k ≡ true → option_map single_read (entry_value_at value) ≡ Some (o, rest)
        → Enters t rest (Finds found) (Finds o)
    single_there found o rest same h =
        let e = entry_made single_of o rest h in (
          key,
          e.0,
          e.1,
          λ d before. sym e.2 ∙ ap bare_found (sym (ap (value_at (with_value d key e.0)) (sym ((bytes_eq-Decides key k).0 same)) ∙ value_set d key e.0)),
        )

    pub single_elsewhere : (found : Option Bare) (matched : Bool) (rest : List ℕ) → bytes_eq key k ≡ false
        → option_map (member_matched [] []) (entry_value_at value) ≡ Some (matched, rest) → Enters t rest (Finds found) (Finds found)
    single_elsewhere found matched rest apart h =
        let e = entry_made (is_match [] []) matched rest h in
        (key, e.0, e.1, λ d before. before ∙ ap bare_found (sym (value_after d key e.0 k (turned key k apart))))

-- ---- behind one that is matched

module _ (name s t : List ℕ) (key : List ℕ) (matched : Bool) (rest : List ℕ)
    (skipped : option_map (entry_matched name s) (entry_at t) ≡ Some ((key, matched), rest)) where
  entry_found : (m : Member) × (entry_at t ≡ Some ((key, m), rest)) × (is_match name s m ≡ matched)
  entry_found =
      let x = mapped (entry_matched name s) (entry_at t) ((key, matched), rest) skipped in
      let names : x.0.0.0 ≡ key = ap (λ (y : (List ℕ × Bool) × List ℕ). y.0.0) x.2 in
      let ends : x.0.1 ≡ rest = ap (λ (y : (List ℕ × Bool) × List ℕ). y.1) x.2 in (
        x.0.0.1,
        x.1 ∙ ap (λ (k : List ℕ). Some ((k, x.0.0.1), x.0.1)) names ∙ ap (λ (r : List ℕ). Some ((key, x.0.0.1), r)) ends,
        ap (λ (y : (List ℕ × Bool) × List ℕ). y.0.1) x.2,
      )

  pub left_open : (found : Matched) → Enters t rest (Tells name s found) (Tells name s Unsettled)
  left_open found = (key, entry_found.0, entry_found.1, λ d told. tt)

  pub still_one : (one : MatchedList) → matched ≡ false → bytes_eq one.key.now key ≡ false → Enters t rest (Tells name s (Once one)) (Tells name s (Once one))
  still_one one plain apart = (
    key,
    entry_found.0,
    entry_found.1,
    λ d told. (told.0, stays_one name s d key entry_found.0 one.key.now told.0 told.1 apart (entry_found.2 ∙ plain), told.2),
  )

-- ---- the loops: entries were read before these, and of them P is so

module _ (P : Entries → Type 0) where
  pub record EntriesSoFar (n : ℕ) (left : List ℕ) (total : Option Entries) : Type 0 where
    pub held : Entries
    pub reads : members_from entry_at with_entry n held left ≡ total
    pub says : P held

  pub entries_begin : (t : List ℕ) → P [] → EntriesSoFar (length t - 0) t (members_from entry_at with_entry (length t) [] t)
  entries_begin t none = record { held = []; reads = members_start entry_at with_entry [] t; says = none }

  pub entries_over : (n : ℕ) (t : List ℕ) (total : Option Entries) → n ≡ 0 → EntriesSoFar n t total → total ≡ None
  entries_over n t total z so_far = members_spent entry_at with_entry n so_far.held t total z so_far.reads

  module _ (len i : ℕ) (t : List ℕ) (total : Option Entries) (lt : i < len) (so_far : EntriesSoFar (len - i) t total) where
    pub entries_fail : (e : FieldFault) → Fails e (entry_at t) → Fails e total
    entries_fail e h = members_failed entry_at with_entry len i so_far.held t total lt so_far.reads e h

-- one entry more, of which now Q is so
module _ (P Q : Entries → Type 0) (len i : ℕ) (t : List ℕ) (total : Option Entries) (lt : i < len) (so_far : EntriesSoFar P (len - i) t total)
    (rest : List ℕ) (enters : Enters t rest P Q) where
  abbrev entry : List ℕ × Member
  entry = (enters.0, enters.1)

  pub entries_more : (u : List ℕ) → next_at rest ≡ Some (Some u) → EntriesSoFar Q (len - (i + 1)) u total
  entries_more u e = record {
    held = with_value so_far.held enters.0 enters.1;
    reads = members_more entry_at with_entry len i so_far.held t total lt so_far.reads entry rest enters.2 u e;
    says = enters.3 so_far.held so_far.says;
  }

  pub entries_done : next_at rest ≡ Some None → (d : Entries) × (total ≡ Some d) × Q d
  entries_done e = (
    with_value so_far.held enters.0 enters.1,
    members_done entry_at with_entry len i so_far.held t total lt so_far.reads entry rest enters.2 e,
    enters.3 so_far.held so_far.says,
  )

  pub entries_refused : (e : FieldFault) → Fails e (next_at rest) → Fails e total
  entries_refused e g = members_refused entry_at with_entry len i so_far.held t total lt so_far.reads entry rest enters.2 e g

-- what stands under a key, by all entries
pub found_is : (key : List ℕ) (found : Option Bare) (total : Option Entries) → (d : Entries) × (total ≡ Some d) × (found ≡ bare_found (value_at d key))
    → option_map (λ d. bare_found (value_at d key)) total ≡ Some found
found_is key found total h = ap (option_map (λ d. bare_found (value_at d key))) h.1 ∙ ap (λ (o : Option Bare). Some o) (sym h.2)
