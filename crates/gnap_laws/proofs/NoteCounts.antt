-- Counts of the notes that pass a test.
use Rattle.std.proofs.Common.{ℕ, ◌≡◌, ◌≤◌, ◌+◌, Bool, true, false, cond, List, [], ◌∷◌, ◌++◌, length, map, reverse, refl, ◌∙◌, ap, subst, inl, inr, arith, Option, Some, None}
use Rattle.std.specs.Prelude.{◌*◌, is_some, filter, ◌&&◌}
use Rattle.std.specs.List.{count_by, filter_map, cons_option}
use Rattle.std.proofs.lemmas.List.{reverse-append, length-reverse}
use Rattle.std.proofs.lemmas.List.Sums.{sum_by-cons, sum_by-append, length-filter}
use Rattle.gnap_model.specs.Common.{Text, some_if}
use Rattle.gnap_model.specs.Limits.{wait}
use Rattle.gnap_laws.specs.Types.{Ask, Modes, OpeningNote, RoundNote, TokenNote, Note}
use Rattle.gnap_model.specs.declared.notes.Why.TheVariants.{ByModification}
use Rattle.gnap_model.specs.declared.notes.Note.TheVariants.{Issued, Door, Pended, Retired}
use Rattle.gnap_model.specs.Standing.{token_in, issued_where}
use Rattle.gnap_model.specs.Actions.{Supply, drawn_value, grant_outcome, pending_outcome, tokens_for, door_note, retire, round_for}
use Rattle.gnap_model.proofs.TrailNotes.{HasNote}

pub count-cons : {A : Type 0} (test : A → Bool) (x : A) (xs : List A) → count_by test (x ∷ xs) ≡ cond (test x) 1 0 + count_by test xs
count-cons {A} test x xs = sum_by-cons (λ (y : A). cond (test y) 1 0) x xs

pub count-append : {A : Type 0} (test : A → Bool) (xs ys : List A) → count_by test (xs ++ ys) ≡ count_by test xs + count_by test ys
count-append {A} test xs ys = sum_by-append (λ (y : A). cond (test y) 1 0) xs ys

pub count-reverse : {A : Type 0} (test : A → Bool) (xs : List A) → count_by test (reverse xs) ≡ count_by test xs
count-reverse test [] = refl
count-reverse {A} test (x ∷ xs) =
    let turned : count_by test (reverse (x ∷ xs)) ≡ count_by test (reverse xs ++ x ∷ []) = ap (count_by test) (reverse-append (x ∷ []) xs) in
    let parts = count-append test (reverse xs) (x ∷ []) in
    let one = count-cons test x [] in
    let whole = count-cons test x xs in
    let rest = count-reverse test xs in omega arith

pub length-filter_map : {A B : Type 0} (pick : A → Option B) (xs : List A) → length (filter_map pick xs) ≡ count_by (λ x. is_some (pick x)) xs
length-filter_map pick [] = refl
length-filter_map {A} {B} pick (x ∷ xs) =
    let k = count-cons (λ (y : A). is_some (pick y)) x xs in
    let rest = length-filter_map pick xs in at (pick x)
    ∙ (let e : cond (is_some (pick x)) 1 0 + length (filter_map pick xs) ≡ count_by (λ y. is_some (pick y)) (x ∷ xs) = omega arith in e)
  where
    at : (found : Option B) → length (cons_option found (filter_map pick xs)) ≡ cond (is_some found) 1 0 + length (filter_map pick xs)
    at None = omega arith
    at (Some y) = omega arith

tests_more : (a b : Bool) → (a ≡ true → b ≡ true) → cond a 1 0 ≤ cond b 1 0
tests_more true true more = omega arith
tests_more true false more = let no = more refl in cc no
tests_more false b more = omega arith

-- where each note that passes one test passes another
pub count_weaker : (one other : Note → Bool) (notes : List Note) → ((note : Note) → HasNote notes note → one note ≡ true → other note ≡ true)
    → count_by one notes ≤ count_by other notes
count_weaker one other [] more = omega arith
count_weaker one other (n ∷ ns) more =
    let a = count-cons one n ns in
    let b = count-cons other n ns in
    let here = tests_more (one n) (other n) (more n (inl refl)) in
    let rest = count_weaker one other ns (λ m h. more m (inr h)) in omega arith

-- where besides one note passes the other test alone
pub count_less : (one other : Note → Bool) (notes : List Note) (note : Note) → HasNote notes note → one note ≡ false → other note ≡ true
    → ((n : Note) → HasNote notes n → one n ≡ true → other n ≡ true) → count_by one notes + 1 ≤ count_by other notes
count_less one other [] note h fails passes more = absurd h
count_less one other (n ∷ ns) note (inl same) fails passes more =
    let a = count-cons one n ns in
    let b = count-cons other n ns in
    let no : one n ≡ false = subst (λ (m : Note). one m ≡ false) same fails in
    let yes : other n ≡ true = subst (λ (m : Note). other m ≡ true) same passes in
    let none : ◌≡◌ {A = ℕ} (cond (one n) 1 0) 0 = ap (λ (t : Bool). cond {A = ℕ} t 1 0) no in
    let here : ◌≡◌ {A = ℕ} (cond (other n) 1 0) 1 = ap (λ (t : Bool). cond {A = ℕ} t 1 0) yes in
    let rest = count_weaker one other ns (λ m h. more m (inr h)) in omega arith
count_less one other (n ∷ ns) note (inr h) fails passes more =
    let a = count-cons one n ns in
    let b = count-cons other n ns in
    let here = tests_more (one n) (other n) (more n (inl refl)) in
    let rest = count_less one other ns note h fails passes (λ m k. more m (inr k)) in omega arith

-- ---- tokens

-- the note issued a token that passes the test
abbrev pub issues : (TokenNote → Bool) → Note → Bool
issues test note = is_some (token_in test note)

pub issued_counted : (test : TokenNote → Bool) (trail : List Note) → length (issued_where test trail) ≡ count_by (issues test) trail
issued_counted test trail = length-reverse (filter_map (token_in test) trail) ∙ length-filter_map (token_in test) trail

pub filter_counted : (test more : TokenNote → Bool) (trail : List Note)
    → length (filter more (issued_where test trail)) ≡ count_by (issues (λ token. test token && more token)) trail
filter_counted test more trail =
    length-filter more (issued_where test trail) ∙ count-reverse more (filter_map (token_in test) trail) ∙ at trail
  where
    some_cond : (b : Bool) (t : TokenNote) → ◌≡◌ {A = ℕ} (cond (is_some (some_if b t)) 1 0) (cond b 1 0)
    some_cond true t = refl
    some_cond false t = refl

    here : (n : Note) (ts : List TokenNote) → count_by more (cons_option (token_in test n) ts) ≡ cond (issues (λ t. test t && more t) n) 1 0 + count_by more ts
    here (Issued t) ts = by (test t)
      where
        by : (b : Bool) → count_by more (cons_option (some_if b t) ts) ≡ cond (is_some (some_if (b && more t) t)) 1 0 + count_by more ts
        by true = let k = count-cons more t ts in let e = some_cond (more t) t in omega arith
        by false = omega arith
    here _ ts = omega arith

    at : (ns : List Note) → count_by more (filter_map (token_in test) ns) ≡ count_by (issues (λ token. test token && more token)) ns
    at [] = refl
    at (n ∷ ns) =
        let a = here n (filter_map (token_in test) ns) in
        let b = count-cons (issues (λ token. test token && more token)) n ns in
        let rest = at ns in omega arith

-- ---- notes of an action that are not counted

-- the test fails on the notes that grants, modifications and rounds have in common
pub record SkipsCommon (test : Note → Bool) : Type 0 where
  pub issued : (token : TokenNote) → test (Issued token) ≡ false
  pub retired : (serial : ℕ) → test (Retired serial ByModification) ≡ false
  pub door : (grant : ℕ) (value : Text) (earliest : ℕ) → test (Door grant value earliest) ≡ false
  pub pended : (round : RoundNote) → test (Pended round) ≡ false

skipped : (test : Note → Bool) (note : Note) (notes : List Note) → test note ≡ false → count_by test (note ∷ notes) ≡ count_by test notes
skipped test note notes e =
    let k = count-cons test note notes in
    let none : ◌≡◌ {A = ℕ} (cond (test note) 1 0) 0 = ap (λ (b : Bool). cond {A = ℕ} b 1 0) e in omega arith

issued_skipped : (test : Note → Bool) (tokens : List TokenNote) → SkipsCommon test → count_by test (map Issued tokens) ≡ 0
issued_skipped test [] skips = refl
issued_skipped test (t ∷ ts) skips = skipped test (Issued t) (map Issued ts) (skips.issued t) ∙ issued_skipped test ts skips

pub retire_skipped : (test : Note → Bool) (tokens : List TokenNote) (rest : List Note) → SkipsCommon test
    → count_by test (retire tokens ++ rest) ≡ count_by test rest
retire_skipped test [] rest skips = refl
retire_skipped test (t ∷ ts) rest skips = skipped test (Retired t.serial ByModification) (retire ts ++ rest) (skips.retired t.serial)
    ∙ retire_skipped test ts rest skips

pub grant_skipped : (test : Note → Bool) (supply : Supply) (o : OpeningNote) (before : List Note) (asks : List Ask) (single : Bool)
    (subject instance : Option Text) → SkipsCommon test
    → count_by test (grant_outcome supply o before asks single subject instance).notes ≡ count_by test before
grant_skipped test supply o before asks single subject instance skips =
    let a = count-append test (before ++ map Issued (tokens_for supply o asks 0)) (door_note supply o (2 * length asks) ∷ []) in
    let b = count-append test before (map Issued (tokens_for supply o asks 0)) in
    let c = issued_skipped test (tokens_for supply o asks 0) skips in
    let d = skipped test (door_note supply o (2 * length asks)) [] (skips.door o.grant (drawn_value supply (2 * length asks)) (supply.now + wait)) in omega
    arith

pub pend_skipped : (test : Note → Bool) (supply : Supply) (o : OpeningNote) (before : List Note) (modes : Modes) (instance : Option Text) → SkipsCommon test
    → count_by test (pending_outcome supply o before modes instance).notes ≡ count_by test before
pend_skipped test supply o before modes instance skips =
    let a = count-append test before (door_note supply o 0 ∷ Pended (round_for supply o modes) ∷ []) in
    let b = skipped test (door_note supply o 0) (Pended (round_for supply o modes) ∷ []) (skips.door o.grant (drawn_value supply 0) (supply.now + wait)) in
    let c = skipped test (Pended (round_for supply o modes)) [] (skips.pended (round_for supply o modes)) in omega arith
