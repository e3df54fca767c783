-- The steps, in the terms of the code.
use Rattle.std.proofs.Common.{◌≡◌, ◌∙◌, ℕ, ◌+◌, ◌<◌, ◌≤◌, ◌^◌, ◌||◌, max, nat_lt, Bool, true, false, List, [], ◌∷◌, ◌++◌, length, reverse, refl, ap, sym, subst, arith, Result, Ok, Err, IfOk, OnErr, lt-ltb, le-ltb, map, is_some, append-nil, if◌then◌else◌}
use Rattle.std.specs.Option.{option_to_list}
use Rattle.std.proofs.lemmas.List.{length-reverse}
use Rattle.std.specs.declared.option.Option.{Option}
use Rattle.std.specs.declared.option.Option.TheVariants.{None, Some}
use Rattle.histories.specs.History.{notes_of, now}
use Rattle.histories.specs.Steps.{Answers, Lapses}
use Rattle.histories.specs.History.{last_moment}
use Rattle.gnap_model.specs.declared.objects.Setup.{Setup}
use Rattle.gnap_model.specs.declared.objects.ErrorCode.TheVariants.{InvalidClient}
use Rattle.gnap_model.specs.declared.calls.Reply.{Reply}
use Rattle.gnap_model.specs.declared.calls.Reply.TheVariants.{Error}
use Rattle.grant_machine.specs.Gnap.{GnapFits, SignedFits, gnap, grants}
use Rattle.gnap_laws.specs.Refusals.{caller}
use Rattle.gnap_model.specs.Notes.{Event}
use Rattle.signed_calls.specs.declared.signed.Mark.{Mark}
use Rattle.signed_calls.specs.declared.signed.Signed.{Signed}
use Rattle.signed_calls.specs.declared.signed.SignedNote.{SignedNote}
use Rattle.signed_calls.specs.Marks.{SignedEvent, is_remembered, nonce_note, mark_notes, mark_time, refuses}
use Rattle.signed_calls.specs.PlainPast.{plain_past, plain_history}
use Rattle.signed_calls.specs.Remembering.{TellsOf, HasOneMore, SignedStands, is_live_at}
use Rattle.signed_calls.specs.declared.signed.NonceNote.{NonceNote}
use Rattle.signed_calls.specs.declared.signed.SignedNote.TheVariants.{Nonce}
use Rattle.signed_calls.proofs.Remembered.{tells-more}
use Rattle.signed_calls.proofs.PlainPasts.{plain-count}
use Rattle.signed_calls.proofs.RememberingSteps.{signed-refused, signed-accepted, signed-lapses, asked}

pub if_ok_map : {A E : Type 0} (r : Result A E) (P Q : A → Type 0) → ((x : A) → P x → Q x) → IfOk r P → IfOk r Q
if_ok_map (Ok x) P Q more is = more x is
if_ok_map (Err e) P Q more is = tt

pub on_err_map : {A E : Type 0} (r : Result A E) (P Q : Type 0) → (P → Q) → OnErr r P → OnErr r Q
on_err_map (Ok x) P Q more is = tt
on_err_map (Err e) P Q more is = more is

pub plain_short : (h : List SignedEvent) → length h < 2 ^ 58 → length (plain_history h) < 2 ^ 58
plain_short h few =
    let a = length-reverse (plain_past (reverse h)) in
    let b = plain-count (reverse h) in
    let c = length-reverse h in
    omega arith

-- the core has such a history
pub short_within : {S : Type 0} (stands : S → List Event → Type 0) (rules : S → Setup) (core advanced : S) (until : List ℕ → List ℕ → Option ℕ) (many : ℕ → ℕ)
    (latest : ℕ)
    → advanced ≡ core
    → (h : List SignedEvent) × SignedStands SignedFits (stands core) until many (rules core) latest h × (length h < 2 ^ 58)
    → (p : List Event) × stands advanced p × (length p < 2 ^ 58)
short_within stands rules core advanced until many latest same short =
    (plain_history short.0, subst (λ x. stands x (plain_history short.0)) (sym same) short.1.within, plain_short short.0 short.2)

-- the mark is refused
pub next_refused : {S : Type 0} (stands : S → List Event → Type 0) (rules : S → Setup) (core advanced final : S)
    (until next : List ℕ → List ℕ → Option ℕ) (many count : ℕ → ℕ) (latest next_latest : ℕ) (h : List SignedEvent) (moment : ℕ) (draw : List ℕ)
    (signed : Signed)
    → advanced ≡ core → rules final ≡ rules advanced → next_latest ≡ max latest moment
    → ((p : List Event) (draw : List ℕ) → stands advanced p → Lapses grants (rules advanced) p moment draw (stands final))
    → SignedFits signed → moment ≤ last_moment
    → refuses (notes_of h) (now h moment) (caller signed.call) signed.mark ≡ true
    → TellsOf next count (notes_of h) (max latest moment)
    → SignedStands SignedFits (stands core) until many (rules core) latest h
    → Answers gnap (rules core) h moment draw signed (Error InvalidClient) (λ k. SignedStands SignedFits (stands final) next count (rules final) next_latest k)
next_refused stands rules core advanced final until next many count latest next_latest h moment draw signed same kept top lapses fit time is tells here =
    let r : rules final ≡ rules core = kept ∙ ap rules same in
    let passed = subst (λ x. Lapses grants (rules x) (plain_history h) moment draw (stands final)) same
    (lapses (plain_history h) draw (subst (λ x. stands x (plain_history h)) (sym same) here.within)) in
    subst (λ n. Answers gnap (rules core) h moment draw signed (Error InvalidClient) (λ k. SignedStands SignedFits (stands final) next count (rules final) n k))
    (sym top)
    (subst (λ y. Answers gnap (rules core) h moment draw signed (Error InvalidClient)
    (λ k. SignedStands SignedFits (stands final) next count y (max latest moment) k)) (sym r)
    (signed-refused GnapFits SignedFits (stands core) (stands final) until next many count (rules core) latest h moment draw signed here fit time is passed
    tells))

-- memory was wanting
pub next_lapses : {S : Type 0} (stands : S → List Event → Type 0) (rules : S → Setup) (core advanced final : S)
    (until next : List ℕ → List ℕ → Option ℕ) (many count : ℕ → ℕ) (latest next_latest : ℕ) (h : List SignedEvent) (moment : ℕ) (draw : List ℕ)
    → advanced ≡ core → rules final ≡ rules advanced → next_latest ≡ max latest moment
    → ((p : List Event) → stands advanced p → Lapses grants (rules advanced) p moment draw (stands final))
    → moment ≤ last_moment
    → TellsOf next count (notes_of h) (max latest moment)
    → SignedStands SignedFits (stands core) until many (rules core) latest h
    → Lapses gnap (rules core) h moment draw (λ k. SignedStands SignedFits (stands final) next count (rules final) next_latest k)
next_lapses stands rules core advanced final until next many count latest next_latest h moment draw same kept top lapses time tells here =
    let r : rules final ≡ rules core = kept ∙ ap rules same in
    let passed = subst (λ x. Lapses grants (rules x) (plain_history h) moment draw (stands final)) same
    (lapses (plain_history h) (subst (λ x. stands x (plain_history h)) (sym same) here.within)) in
    subst (λ n. Lapses gnap (rules core) h moment draw (λ k. SignedStands SignedFits (stands final) next count (rules final) n k)) (sym top)
    (subst (λ y. Lapses gnap (rules core) h moment draw (λ k. SignedStands SignedFits (stands final) next count y (max latest moment) k)) (sym r)
    (signed-lapses GnapFits SignedFits (stands core) (stands final) until next many count (rules core) latest h moment draw here
    (record { call = (tt, tt); mark = tt; lapse = λ is. refl }) time passed tells))

-- the call is answered
pub next_accepted : {S : Type 0} (stands : S → List Event → Type 0) (rules : S → Setup) (core advanced final : S)
    (until next : List ℕ → List ℕ → Option ℕ) (many count : ℕ → ℕ) (latest next_latest : ℕ) (h : List SignedEvent) (moment : ℕ) (draw : List ℕ)
    (signed : Signed) (reply : Reply)
    → advanced ≡ core → rules final ≡ rules advanced → next_latest ≡ max latest moment
    → ((p : List Event) → stands advanced p → Answers grants (rules advanced) p moment draw signed.call reply (stands final))
    → SignedFits signed → moment ≤ last_moment
    → refuses (notes_of h) (now h moment) (caller signed.call) signed.mark ≡ false
    → TellsOf next count (notes_of h ++ mark_notes signed) (max latest moment)
    → SignedStands SignedFits (stands core) until many (rules core) latest h
    → Answers gnap (rules core) h moment draw signed reply (λ k. SignedStands SignedFits (stands final) next count (rules final) next_latest k)
next_accepted stands rules core advanced final until next many count latest next_latest h moment draw signed reply same kept top answers fit time is tells
    here =
    let r : rules final ≡ rules core = kept ∙ ap rules same in
    let passed = subst (λ x. Answers grants (rules x) (plain_history h) moment draw signed.call reply (stands final)) same
    (answers (plain_history h) (subst (λ x. stands x (plain_history h)) (sym same) here.within)) in
    subst (λ n. Answers gnap (rules core) h moment draw signed reply (λ k. SignedStands SignedFits (stands final) next count (rules final) n k)) (sym top)
    (subst (λ y. Answers gnap (rules core) h moment draw signed reply (λ k. SignedStands SignedFits (stands final) next count y (max latest moment) k)) (sym r)
    (signed-accepted GnapFits SignedFits (stands core) (stands final) until next many count (rules core) latest h moment draw signed reply here fit time is
    passed tells))

-- ---- the test of the mark

pub no_mark_open : (h : List SignedEvent) (moment : ℕ) (signed : Signed) → signed.mark ≡ None
    → refuses (notes_of h) (now h moment) (caller signed.call) signed.mark ≡ false
no_mark_open h moment signed is = ap (refuses (notes_of h) (now h moment) (caller signed.call)) is

pub mark_test : (until : List ℕ → List ℕ → Option ℕ) (many : ℕ → ℕ) (h : List SignedEvent) (latest next_latest moment : ℕ) (signed : Signed) (mark : Mark)
    (b : Bool)
    → signed.mark ≡ Some mark → next_latest ≡ max latest moment → now h 0 ≡ latest → TellsOf until many (notes_of h) (max latest moment)
    → (nat_lt (mark.created + mark_time) next_latest || is_live_at next_latest (until (caller signed.call) mark.nonce)) ≡ b
    → refuses (notes_of h) (now h moment) (caller signed.call) signed.mark ≡ b
mark_test until many h latest next_latest moment signed mark b is top was tells test =
    ap (refuses (notes_of h) (now h moment) (caller signed.call)) is
    ∙ asked until many h latest moment (caller signed.call) mark was tells
    ∙ sym (ap (λ n. nat_lt (mark.created + mark_time) n || is_live_at n (until (caller signed.call) mark.nonce)) top) ∙ test

pub test_old : (end latest : ℕ) (live : Bool) → end < latest → (nat_lt end latest || live) ≡ true
test_old end latest live old = ap (λ b. b || live) (lt-ltb end latest old)

pub test_new : (end latest : ℕ) (live b : Bool) → latest ≤ end → live ≡ b → (nat_lt end latest || live) ≡ b
test_new end latest live b new is = ap (λ x. x || live) (le-ltb end latest new) ∙ is

pub live_key : (until : List ℕ → List ℕ → Option ℕ) (n : ℕ) (key caller_is nonce : List ℕ) (r b : Bool) → key ≡ caller_is
    → r ≡ is_live_at n (until key nonce) → r ≡ b → is_live_at n (until caller_is nonce) ≡ b
live_key until n key caller_is nonce r b same is known = sym (ap (λ k. is_live_at n (until k nonce)) same) ∙ sym is ∙ known

-- ---- the notes of the mark

both_none : (b : Bool) → (let none : List SignedNote = [] in if b then none else none) ≡ []
both_none true = refl
both_none false = refl

pub unmarked_notes : (signed : Signed) → signed.mark ≡ None → mark_notes signed ≡ []
unmarked_notes signed is = ap (λ o. if is_remembered signed.call then map (nonce_note (caller signed.call)) (option_to_list o) else []) is
    ∙ both_none (is_remembered signed.call)

pub unremembered_notes : (signed : Signed) → is_remembered signed.call ≡ false → mark_notes signed ≡ []
unremembered_notes signed is = ap (λ b. if b then map (nonce_note (caller signed.call)) (option_to_list signed.mark) else []) is

pub tells_unmarked : (until : List ℕ → List ℕ → Option ℕ) (many : ℕ → ℕ) (notes marks : List SignedNote) (n : ℕ) → marks ≡ []
    → TellsOf until many notes n → TellsOf until many (notes ++ marks) n
tells_unmarked until many notes marks n none tells =
    subst (λ (ns : List SignedNote). TellsOf until many ns n) (sym (ap (λ x. notes ++ x) none ∙ append-nil notes)) tells

none_there : (o : Option ℕ) → is_some o ≡ false → o ≡ None
none_there None is = refl
none_there (Some x) is = cc is

pub absent : (until : List ℕ → List ℕ → Option ℕ) (many : ℕ → ℕ) (notes : List SignedNote) (n next : ℕ) (key nonce : List ℕ) → next ≡ n
    → TellsOf until many notes n → is_live_at next (until key nonce) ≡ false → until key nonce ≡ None
absent until many notes n next key nonce top tells dead =
    none_there (until key nonce) (tells.none_over key nonce ∙ sym (ap (λ x. is_live_at x (until key nonce)) top) ∙ dead)

pub tells_marked : (until more : List ℕ → List ℕ → Option ℕ) (many count : ℕ → ℕ) (notes : List SignedNote) (n next : ℕ) (signed : Signed) (mark : Mark)
    (key : List ℕ)
    → key ≡ caller signed.call → signed.mark ≡ Some mark → is_remembered signed.call ≡ true
    → HasOneMore until many key mark.nonce (mark.created + mark_time) more count → next ≡ n → is_live_at next (until key mark.nonce) ≡ false
    → next ≤ mark.created + mark_time → TellsOf until many notes n → TellsOf more count (notes ++ mark_notes signed) n
tells_marked until more many count notes n next signed mark key same is remembered one top dead in_time tells =
    let note : NonceNote = record { key = key; nonce = mark.nonce; until = mark.created + mark_time } in
    let marks : mark_notes signed ≡ Nonce note ∷ []
    = ap (λ b. if b then map (nonce_note (caller signed.call)) (option_to_list signed.mark) else []) remembered
    ∙ ap (λ o. map (nonce_note (caller signed.call)) (option_to_list o)) is ∙ ap (λ k. nonce_note k mark ∷ []) (sym same) in
    subst (λ (ns : List SignedNote). TellsOf more count ns n) (ap (λ x. notes ++ x) (sym marks))
    (tells-more until many notes n note more count one (absent until many notes n next key mark.nonce top tells dead)
    (subst (λ x. x ≤ mark.created + mark_time) top in_time) tells)

pub tells_equal : (until next : List ℕ → List ℕ → Option ℕ) (many count : ℕ → ℕ) (notes : List SignedNote) (latest : ℕ)
    → ((k n : List ℕ) → next k n ≡ until k n) → ((m : ℕ) → count m ≡ many m) → TellsOf until many notes latest → TellsOf next count notes latest
tells_equal until next many count notes latest a b tells = record {
  knows = λ m k n le. ap (is_live_at m) (a k n) ∙ tells.knows m k n le;
  counts = λ m le. b m ∙ tells.counts m le;
  none_over = λ k n. ap is_some (a k n) ∙ tells.none_over k n ∙ sym (ap (is_live_at latest) (a k n));
}
