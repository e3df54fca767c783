-- What is skipped, part by part.
use Rattle.std.proofs.Common.{◌≡◌, ℕ, ◌+◌, ◌-◌, ◌<◌, ◌==◌, Bool, true, false, cond, List, [], ◌∷◌, ◌++◌, length, get_or, take, drop, Option, Some, None, refl, sym, ap, subst, ◌∙◌, arith, true≢false}
use Rattle.std.specs.Option.{option_map}
use Rattle.std.specs.Str.{bytes_eq}
use Rattle.std.proofs.lemmas.Bool.Decides.{nat_tests}
use Rattle.std.proofs.lemmas.List.{take_rest}
use Rattle.std.proofs.lemmas.Slice.Eq.{bytes_eq-Decides}
use Rattle.structured_fields.specs.declared.bare.Bare.{Bare}
use Rattle.structured_fields.specs.declared.bare.Bare.TheVariants.{Str, Boolean}
use Rattle.structured_fields.specs.declared.fault.FieldFault.{FieldFault}
use Rattle.structured_fields.specs.declared.fault.FieldFault.TheVariants.{NotInGrammar, OutOfMemory}
use Rattle.structured_fields.specs.declared.item.Item.{Item}
use Rattle.structured_fields.specs.declared.item.InnerList.{InnerList}
use Rattle.structured_fields.specs.declared.item.Member.TheVariants.{Item as Single, Inner}
use Rattle.structured_fields.specs.Letters.{is_space, is_token_start, is_token_byte, is_string_byte, is_plain}
use Rattle.structured_fields.specs.Named.{value_at, with_value}
use Rattle.dictionary_lookup.specs.Skipping.{rest_of, begins_token, value_matched, parameter_matched, params_matched, inner_matched, member_matched}
use Rattle.structured_fields.specs.Reading.{◌>>=◌, Fails, begins, front, behind, with_byte, string_rest, bare_at, key_at, value_of, parameter_at, params_from, params_at, item_at, is_item_end, items_from, items_at, inner_at, member_at, entry_value_at}
use Rattle.structured_fields.specs.Strings.{holds_string}
use Rattle.structured_fields.proofs.Entries.{turned, value_set, value_after}
use Rattle.structured_fields.proofs.Fronts.{mapped, some_is, begun}
use Rattle.structured_fields.proofs.Loop.{start, stopped, spent, more, failed, items_start, items_stopped, items_more, items_refused, items_failed, items_spent}
use Rattle.structured_fields.proofs.Runs.{with_front, plain_front, opened_true, opened_false, ended}

-- ---- what stands behind

pub fails_past : {A : Type 0} (e : FieldFault) (read : Option (A × List ℕ)) → Fails e read → Fails e (rest_of read)
fails_past OutOfMemory read h = tt
fails_past NotInGrammar read h = ap rest_of h

pub fails_map : {A B : Type 0} (f : A → B) (e : FieldFault) (o : Option A) → Fails e o → Fails e (option_map f o)
fails_map f OutOfMemory o h = tt
fails_map f NotInGrammar o h = ap (option_map f) h

pub fails_mapped : {A B : Type 0} (f : A → B) (e : FieldFault) (o : Option A) → Fails e (option_map f o) → Fails e o
fails_mapped f OutOfMemory o h = tt
fails_mapped f NotInGrammar None h = refl
fails_mapped f NotInGrammar (Some x) h = absurd cc

pub fails_other : {A B C : Type 0} (f : A → B) (g : A → C) (e : FieldFault) (o : Option A) → Fails e (option_map f o) → Fails e (option_map g o)
fails_other f g e o h = fails_map g e o (fails_mapped f e o h)

-- ---- strings and tokens

pub past_byte : (c : ℕ) (read : Option (List ℕ × List ℕ)) → rest_of (with_byte c read) ≡ rest_of read
past_byte c None = refl
past_byte c (Some x) = refl

past_front : (held : List ℕ) (read : Option (List ℕ × List ℕ)) → rest_of (with_front held read) ≡ rest_of read
past_front held None = refl
past_front held (Some x) = refl

pub string_begins : (bytes : List ℕ) → rest_of (string_rest false (behind is_plain bytes)) ≡ rest_of (string_rest false bytes)
string_begins bytes = sym (past_front (front is_plain bytes) (string_rest false (behind is_plain bytes))) ∙ ap rest_of (plain_front bytes)

module _ (bytes : List ℕ) (i : ℕ) (total : Option (List ℕ)) (within : i < length bytes) (so_far : rest_of (string_rest false (drop i bytes)) ≡ total) where
  pub string_closed : get_or bytes i 0 ≡ 34 → Some (take (length bytes - (i + 1)) (drop (i + 1) bytes)) ≡ total
  string_closed is =
      let test : (get_or bytes i 0 == 34) ≡ true = grind (arith, nat_tests) in
      let e : string_rest false (drop i bytes) ≡ Some ([], drop (i + 1) bytes) = opened_false bytes i within ∙ rw test refl in
      ap (λ (r : List ℕ). Some r) (take_rest bytes (i + 1)) ∙ sym (ap rest_of e) ∙ so_far

  pub string_refused : (get_or bytes i 0 ≡ 34 → ⊥) → (get_or bytes i 0 ≡ 92 → ⊥) → is_string_byte (get_or bytes i 0) ≡ false → None ≡ total
  string_refused not_quote not_slash other =
      let quote : (get_or bytes i 0 == 34) ≡ false = grind (arith, nat_tests) in
      let slash : (get_or bytes i 0 == 92) ≡ false = grind (arith, nat_tests) in
      let e : string_rest false (drop i bytes) ≡ None = opened_false bytes i within ∙ rw (quote, slash, other) refl in
      sym (ap rest_of e) ∙ so_far

pub ruleset string_passes = (past_byte, opened_true, opened_false, ended)

-- a byte of a class isn't one that stands outside it
outside : (p : ℕ → Bool) (c k : ℕ) → p c ≡ true → p k ≡ false → (c == k) ≡ false
outside p c k within out = by (c == k) refl
  where
    by : (b : Bool) → (c == k) ≡ b → b ≡ false
    by false e = refl
    by true e = let same : c ≡ k = grind (arith, nat_tests) in absurd (true≢false (sym within ∙ ap p same ∙ out))

token_first : (c : ℕ) (t : List ℕ) → is_token_start c ≡ true → rest_of (bare_at (c ∷ t)) ≡ Some (behind is_token_byte (c ∷ t))
unfolding bare_at
token_first c t h =
    rw (
      outside is_token_start c 34 h refl,
      outside is_token_start c 58 h refl,
      outside is_token_start c 63 h refl,
      outside is_token_start c 64 h refl,
      outside
          is_token_start c 37 h refl,
      h,
    ) refl

pub token_passes : (t : List ℕ) → begins_token t ≡ true → rest_of (bare_at t) ≡ Some (behind is_token_byte t)
token_passes [] h = absurd cc
token_passes (c ∷ t) h = token_first c t h

quote_first : (t : List ℕ) → rest_of (bare_at (34 ∷ t)) ≡ rest_of (string_rest false t)
unfolding bare_at
quote_first t = by (string_rest false t)
  where
    by : (o : Option (List ℕ × List ℕ)) → rest_of (option_map (λ x. (Str x.0, x.1)) o) ≡ rest_of o
    by None = refl
    by (Some x) = refl

pub quote_passes : (t u : List ℕ) → begins 34 t ≡ true → u ≡ drop 1 t → rest_of (bare_at t) ≡ rest_of (string_rest false u)
quote_passes t u h is = ap (λ (v : List ℕ). rest_of (bare_at v)) (begun 34 t h) ∙ quote_first (drop 1 t)
    ∙ ap (λ (v : List ℕ). rest_of (string_rest false v)) (sym is)

pub past_some : {A : Type 0} (o : Option (A × List ℕ)) (x : A) (r : List ℕ) → o ≡ Some (x, r) → rest_of o ≡ Some r
past_some o x r e = ap rest_of e

pub ruleset bare_passes = (quote_passes, token_passes, past_some, fails_past)

-- ---- parameters

pub value_unasked : (asked : Bool) (s : List ℕ) (before : Bool) (o : Option (Bare × List ℕ)) (r : List ℕ) → asked ≡ false → rest_of o ≡ Some r
    → option_map (value_matched asked s before) o ≡ Some (before, r)
value_unasked asked s before None r h e = absurd cc
value_unasked asked s before (Some v) r h e = rw h (ap (λ (u : List ℕ). Some (before, u)) (some_is v.1 r e))

pub value_asked : (asked : Bool) (s : List ℕ) (before : Bool) (o : Option (Bare × List ℕ)) (v : Bare) (r : List ℕ) → asked ≡ true → o ≡ Some (v, r)
    → option_map (value_matched asked s before) o ≡ Some (holds_string s (Some v), r)
value_asked asked s before o v r h e = rw (e, h) refl

pub value_fails : (asked : Bool) (s : List ℕ) (before : Bool) (e : FieldFault) (o : Option (Bare × List ℕ)) → Fails e (rest_of o)
    → Fails e (option_map (value_matched asked s before) o)
value_fails asked s before e o h = fails_other (λ (x : Bare × List ℕ). x.1) (value_matched asked s before) e o h

pub value_fails_whole : (asked : Bool) (s : List ℕ) (before : Bool) (e : FieldFault) (o : Option (Bare × List ℕ)) → Fails e o
    → Fails e (option_map (value_matched asked s before) o)
value_fails_whole asked s before e o h = fails_map (value_matched asked s before) e o h

pub ruleset value_passes = (value_unasked, value_asked, value_fails, value_fails_whole)

module _ (name s : List ℕ) where
  abbrev of_one : Bool → (List ℕ × Bare) × List ℕ → Bool × List ℕ
  of_one before g = parameter_matched name s before g

  abbrev of_all : List (List ℕ × Bare) × List ℕ → Bool × List ℕ
  of_all p = params_matched name s p

  -- by the key and the value
  pub parameter_is : (before : Bool) (t key rest : List ℕ) → Some (key, rest) ≡ key_at (behind is_space t)
      → option_map (of_one before) (parameter_at t) ≡ option_map (value_matched (bytes_eq key name) s before) (value_of rest)
  unfolding parameter_at
  parameter_is before t key rest e = rw (sym e) (by (value_of rest))
    where
      by : (o : Option (Bare × List ℕ))
          → option_map (of_one before) (o >>= λ v. Some ((key, v.0), v.1)) ≡ option_map (value_matched (bytes_eq key name) s before) o
      by None = refl
      by (Some v) = refl

  pub parameter_none : (before : Bool) (t : List ℕ) → None ≡ key_at (behind is_space t) → option_map (of_one before) (parameter_at t) ≡ None
  unfolding parameter_at
  parameter_none before t e = rw (sym e) refl

  value_now : (es : List (List ℕ × Bare)) (n : List ℕ) (v : Bare) → value_at (with_value es n v) name ≡ cond (bytes_eq n name) (Some v) (value_at es name)
  value_now es n v = by (bytes_eq n name) refl
    where
      by : (b : Bool) → bytes_eq n name ≡ b → value_at (with_value es n v) name ≡ cond b (Some v) (value_at es name)
      by true t = ap (value_at (with_value es n v)) (sym ((bytes_eq-Decides n name).0 t)) ∙ value_set es n v
      by false t = value_after es n v name (turned n name t)

  -- parameters were read before these, and of them this was said
  pub record ParamsSoFar (matched : Bool) (n : ℕ) (left : List ℕ) (total : Option (List (List ℕ × Bare) × List ℕ)) : Type 0 where
    pub held : List (List ℕ × Bare)
    pub reads : params_from n held left ≡ total
    pub says : matched ≡ holds_string s (value_at held name)

  pub params_start : (t : List ℕ) → ParamsSoFar false (length t - 0) t (params_at t)
  params_start t = record { held = []; reads = start t; says = refl }

  pub params_stopped : (matched : Bool) (n : ℕ) (t : List ℕ) (total : Option (List (List ℕ × Bare) × List ℕ)) → begins 59 t ≡ false
      → ParamsSoFar matched n t total → option_map of_all total ≡ Some (matched, t)
  params_stopped matched n t total h so_far =
      ap (option_map of_all) (stopped n so_far.held t total h so_far.reads) ∙ ap (λ (m : Bool). Some (m, t)) (sym so_far.says)

  pub params_spent : (matched : Bool) (n : ℕ) (t : List ℕ) (total : Option (List (List ℕ × Bare) × List ℕ)) → n ≡ 0 → ParamsSoFar matched n t total
      → option_map of_all total ≡ Some (matched, t)
  params_spent matched n t total z so_far =
      ap (option_map of_all) (spent n so_far.held t total z so_far.reads) ∙ ap (λ (m : Bool). Some (m, t)) (sym so_far.says)

  module _ (matched : Bool) (len i : ℕ) (t u : List ℕ) (total : Option (List (List ℕ × Bare) × List ℕ)) (lt : i < len) (h : begins 59 t ≡ true)
      (is : u ≡ drop 1 t) (so_far : ParamsSoFar matched (len - i) t total) where
    pub params_more : (now_matched : Bool) (rest : List ℕ) → option_map (of_one matched) (parameter_at u) ≡ Some (now_matched, rest)
        → ParamsSoFar now_matched (len - (i + 1)) rest total
    params_more now_matched rest e =
        let a = mapped (of_one matched) (parameter_at u) (now_matched, rest) e in
        let one : parameter_at (drop 1 t) ≡ Some a.0 = ap parameter_at (sym is) ∙ a.1 in
        let ends : a.0.1 ≡ rest = ap (λ (x : Bool × List ℕ). x.1) a.2 in
        record {
          held = with_value so_far.held a.0.0.0 a.0.0.1;
          reads = subst (λ (r : List ℕ). params_from (len - (i + 1)) (with_value so_far.held a.0.0.0 a.0.0.1) r ≡ total) ends
              (more len i so_far.held t a.0.0.0 a.0.0.1 a.0.1 total lt h one so_far.reads);
          says =
              sym (ap (λ (x : Bool × List ℕ). x.0) a.2)
              ∙ by a.0.0.1 (value_at so_far.held name) (bytes_eq a.0.0.0 name) so_far.says
              ∙ ap (holds_string s) (sym (value_now so_far.held a.0.0.0 a.0.0.1));
        }
      where
        by : (v : Bare) (o : Option Bare) (b : Bool) → matched ≡ holds_string s o
            → cond b (holds_string s (Some v)) matched ≡ holds_string s (cond b (Some v) o)
        by v o true m = refl
        by v o false m = m

    pub params_failed : (e : FieldFault) → Fails e (option_map (of_one matched) (parameter_at u)) → Fails e (option_map of_all total)
    params_failed e g =
        fails_map of_all e total (failed e len i so_far.held t total lt h
        (subst (λ (v : List ℕ). Fails e (parameter_at v)) is (fails_mapped (of_one matched) e (parameter_at u) g)) so_far.reads)

pub ruleset parameter_passes = (parameter_is, parameter_none)

pub params_pass : (name s : List ℕ) (o : Option (List (List ℕ × Bare) × List ℕ)) (matched : Bool) (r : List ℕ)
    → option_map (params_matched name s) o ≡ Some (matched, r) → rest_of o ≡ Some r
params_pass name s None matched r e = absurd cc
params_pass name s (Some p) matched r e = ap (λ (u : List ℕ). Some u) (ap (λ (x : Bool × List ℕ). x.1) (some_is (params_matched name s p) (matched, r) e))

pub params_do_fail : (name s : List ℕ) (e : FieldFault) (o : Option (List (List ℕ × Bare) × List ℕ)) → Fails e (option_map (params_matched name s) o)
    → Fails e (rest_of o)
params_do_fail name s e o h = fails_other (params_matched name s) (λ (x : List (List ℕ × Bare) × List ℕ). x.1) e o h

pub ruleset params_steps = (params_pass, params_do_fail)

-- ---- items

pub item_passes : (t r : List ℕ) → rest_of (bare_at t) ≡ Some r → rest_of (item_at t) ≡ rest_of (params_at r)
unfolding item_at
item_passes t r e =
    let a = mapped (λ (x : Bare × List ℕ). x.1) (bare_at t) r e in rw a.1 (by a.0.0 (params_at a.0.1) ∙ ap (λ (u : List ℕ). rest_of (params_at u)) a.2)
  where
    by : (b : Bare) (o : Option (List (List ℕ × Bare) × List ℕ)) → rest_of {A = Item} (o >>= λ p. Some (record { bare = b; params = p.0 }, p.1)) ≡ rest_of o
    by b None = refl
    by b (Some p) = refl

pub item_fails : (e : FieldFault) (t : List ℕ) → Fails e (rest_of (bare_at t)) → Fails e (rest_of (item_at t))
unfolding item_at
item_fails OutOfMemory t h = tt
item_fails NotInGrammar t h = let none : bare_at t ≡ None = fails_mapped (λ (x : Bare × List ℕ). x.1) NotInGrammar (bare_at t) h in rw none refl

pub ruleset item_steps = (item_passes, item_fails)

abbrev Items : Type 0
Items = Option (List Item × List ℕ)

-- items were read before these
pub record ItemsSoFar (n : ℕ) (left : List ℕ) (total : Items) : Type 0 where
  pub held : List Item
  pub reads : items_from n held left ≡ total

pub items_begin : (t : List ℕ) → ItemsSoFar (length t - 0) t (items_at t)
items_begin t = record { held = []; reads = items_start t }

module _ (len i : ℕ) (t u : List ℕ) (total : Items) (is : u ≡ behind is_space t) (so_far : ItemsSoFar (len - i) t total) (lt : i < len) where
  pub items_closed : (v : List ℕ) → begins 41 u ≡ true → v ≡ drop 1 u → rest_of total ≡ Some v
  items_closed v h e = ap rest_of (items_stopped len i so_far.held t u total is so_far.reads lt h) ∙ ap (λ (r : List ℕ). Some r) (sym e)

  module _ (h : begins 41 u ≡ false) where
    pub items_next : (rest : List ℕ) → rest_of (item_at u) ≡ Some rest → is_item_end rest ≡ true → ItemsSoFar (len - (i + 1)) rest total
    items_next rest e end =
        let a = mapped (λ (x : Item × List ℕ). x.1) (item_at u) rest e in
        record {
          held = so_far.held ++ a.0.0 ∷ [];
          reads = items_more len i so_far.held t u total is so_far.reads lt h a.0.0 rest (a.1 ∙ ap (λ (r : List ℕ). Some (a.0.0, r)) a.2) end;
        }

    pub items_stuck : (rest : List ℕ) → rest_of (item_at u) ≡ Some rest → is_item_end rest ≡ false → rest_of total ≡ None
    items_stuck rest e end =
        let a = mapped (λ (x : Item × List ℕ). x.1) (item_at u) rest e in
        ap rest_of (items_refused len i so_far.held t u total is so_far.reads lt h a.0.0 rest (a.1 ∙ ap (λ (r : List ℕ). Some (a.0.0, r)) a.2) end)

    pub items_fail : (e : FieldFault) → Fails e (rest_of (item_at u)) → Fails e (rest_of total)
    items_fail e g = fails_past e total
        (items_failed len i so_far.held t u total is so_far.reads lt h e (fails_mapped (λ (x : Item × List ℕ). x.1) e (item_at u) g))

pub items_over : (n : ℕ) (t : List ℕ) (total : Items) → n ≡ 0 → ItemsSoFar n t total → rest_of total ≡ None
items_over n t total z so_far = ap rest_of (items_spent n so_far.held t total z so_far.reads)

-- ---- inner lists

module _ (name s : List ℕ) where
  pub inner_is : (t r : List ℕ) → rest_of (items_at t) ≡ Some r
      → option_map (inner_matched name s) (inner_at t) ≡ option_map (params_matched name s) (params_at r)
  unfolding inner_at
  inner_is t r e =
      let a = mapped (λ (x : List Item × List ℕ). x.1) (items_at t) r e in rw a.1
      (by a.0.0 (params_at a.0.1) ∙ ap (λ (u : List ℕ). option_map (params_matched name s) (params_at u)) a.2)
    where
      by : (items : List Item) (o : Option (List (List ℕ × Bare) × List ℕ))
          → option_map (inner_matched name s) (o >>= λ p. Some (record { items = items; params = p.0 }, p.1)) ≡ option_map (params_matched name s) o
      by items None = refl
      by items (Some p) = refl

  pub inner_fails : (e : FieldFault) (t : List ℕ) → Fails e (rest_of (items_at t)) → Fails e (option_map (inner_matched name s) (inner_at t))
  unfolding inner_at
  inner_fails OutOfMemory t h = tt
  inner_fails NotInGrammar t h = let none : items_at t ≡ None = fails_mapped (λ (x : List Item × List ℕ). x.1) NotInGrammar (items_at t) h in rw none refl

pub ruleset inner_steps = (inner_is, inner_fails)
