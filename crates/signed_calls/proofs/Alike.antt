-- Pasts that differ only where a lapse stands in place of an entry that was answered invalid_client and noted nothing: what requests and replies
-- show is the same of both.
use Rattle.std.proofs.Common.{◌≡◌, ◌∙◌, ◌⊎◌, inl, inr, ℕ, ◌+◌, ◌==◌, suc, max, nat_lt, Bool, true, false, not, ◌&&◌, ◌||◌, List, [], ◌∷◌, ◌++◌, length, reverse, refl, ap, sym, if◌then◌else◌}
use Rattle.std.specs.List.{list_any}
use Rattle.std.specs.Option.{option_to_list}
use Rattle.gnap_model.specs.declared.objects.Setup.{Setup}
use Rattle.gnap_model.specs.declared.calls.Call.{Call}
use Rattle.gnap_model.specs.declared.calls.Call.TheVariants.{Introspect, Lapse, Rotate}
use Rattle.gnap_model.specs.declared.calls.Reply.{Reply}
use Rattle.gnap_model.specs.declared.calls.Reply.TheVariants.{Error, Lapsed}
use Rattle.gnap_model.specs.declared.calls.TokenOut.{TokenOut}
use Rattle.gnap_model.specs.declared.objects.ErrorCode.TheVariants.{InvalidClient}
use Rattle.gnap_model.specs.Common.{Text, same_text, is_text}
use Rattle.gnap_model.specs.Keys.{key_of, server_names}
use Rattle.gnap_model.specs.Judging.{suits}
use Rattle.gnap_model.specs.Notes.{Event, now_at}
use Rattle.gnap_laws.specs.Provenance.{chain_doors, presented_door, presented_manage, handed_door, handed_tokens, is_among, has_manage, origin_in, origin_of, ends_token, ends_tokens, is_ended, has_come, comes_from, eq_bool, is_active, tells, tells_all, drawn_in, drawn_by, is_success, is_ending, succeeds, uses_up, IsOnce}

-- a lapse in place of the entry
abbrev pub lapse_at : Event → Event
lapse_at e = record { number = e.number; moment = e.moment; draw = e.draw; call = Lapse; reply = Lapsed; notes = [] }

-- the first is a lapse in place of the second, which was refused
pub record IsRefusal (p b : Event) : Type 0 where
  pub lapse : p ≡ lapse_at b
  pub reply : b.reply ≡ Error InvalidClient
  pub notes : b.notes ≡ []

abbrev pub AreAlike : List Event → List Event → Type 0
AreAlike [] [] = Unit {0}
AreAlike [] (b ∷ bs) = ⊥
AreAlike (p ∷ ps) [] = ⊥
AreAlike (p ∷ ps) (b ∷ bs) = ((p ≡ b) ⊎ IsRefusal p b) × AreAlike ps bs

-- what is the same of both: enough that it is where one entry is, and where the refused one is
same_next : {X : Type 0} (f : Event → List Event → X) (p b : Event) (ps bs : List Event) → (p ≡ b) ⊎ IsRefusal p b
    → f b ps ≡ f b bs → (b.reply ≡ Error InvalidClient → b.notes ≡ [] → f (lapse_at b) ps ≡ f b bs) → f p ps ≡ f b bs
same_next f p b ps bs alike same refused = elim alike [
  | inl is ↦ ap (λ (x : Event). f x ps) is ∙ same
  | inr is ↦ ap (λ (x : Event). f x ps) is.lapse ∙ refused is.reply is.notes
]

pub length-alike : (ps bs : List Event) → AreAlike ps bs → length ps ≡ length bs
length-alike [] [] alike = refl
length-alike [] (b ∷ bs) alike = absurd alike
length-alike (p ∷ ps) [] alike = absurd alike
length-alike (p ∷ ps) (b ∷ bs) alike = ap suc (length-alike ps bs alike.1)

pub now-alike : (ps bs : List Event) (m : ℕ) → AreAlike ps bs → now_at ps m ≡ now_at bs m
now-alike [] [] m alike = refl
now-alike [] (b ∷ bs) m alike = absurd alike
now-alike (p ∷ ps) [] m alike = absurd alike
now-alike (p ∷ ps) (b ∷ bs) m alike =
    let rest = ap (λ n. max n m) (now-alike ps bs b.moment alike.1) in
    same_next (λ x xs. now_at (x ∷ xs) m) p b ps bs alike.0 rest (λ reply notes. rest)

pub drawn-alike : (ps bs : List Event) → AreAlike ps bs → drawn_by ps ≡ drawn_by bs
drawn-alike [] [] alike = refl
drawn-alike [] (b ∷ bs) alike = absurd alike
drawn-alike (p ∷ ps) [] alike = absurd alike
drawn-alike (p ∷ ps) (b ∷ bs) alike =
    let rest = drawn-alike ps bs alike.1 in
    same_next (λ x xs. drawn_by (x ∷ xs)) p b ps bs alike.0 (ap (λ vs. reverse (drawn_in b.reply) ++ vs) rest)
    (λ reply notes. rest ∙ sym (ap (λ r. reverse (drawn_in r) ++ drawn_by bs) reply))

-- a refused entry may be on the chain, and hands out nothing
no_door : (on : Bool) (doors : List Text) → (if on then [] ++ doors else doors) ≡ doors
no_door true doors = refl
no_door false doors = refl

pub chain-alike : (place : ℕ) (ps bs : List Event) → AreAlike ps bs → chain_doors place ps ≡ chain_doors place bs
chain-alike place [] [] alike = refl
chain-alike place [] (b ∷ bs) alike = absurd alike
chain-alike place (p ∷ ps) [] alike = absurd alike
chain-alike place (p ∷ ps) (b ∷ bs) alike =
    let rest = chain-alike place ps bs alike.1 in
    let long = length-alike ps bs alike.1 in
    let on : List Text → ℕ → Call → Reply → List Text = λ doors n call reply.
    if (n == place) || is_among doors (presented_door call) then option_to_list (handed_door reply) ++ doors else doors in
    same_next (λ x xs. chain_doors place (x ∷ xs)) p b ps bs alike.0
    (ap (λ doors. on doors (length ps) b.call b.reply) rest ∙ ap (λ n. on (chain_doors place bs) n b.call b.reply) long)
    (λ reply notes. no_door ((length ps == place) || is_among (chain_doors place ps) (presented_door Lapse)) (chain_doors place ps) ∙ rest
    ∙ sym (ap (on (chain_doors place bs) (length bs) b.call) reply
    ∙ no_door ((length bs == place) || is_among (chain_doors place bs) (presented_door b.call)) (chain_doors place bs)))

origin_in-alike : (call : Call) (place : ℕ) (f g : Text → ℕ) → ((value : Text) → f value ≡ g value) → origin_in call place f ≡ origin_in call place g
origin_in-alike (Rotate key value new_key) place f g same = same value
origin_in-alike call place f g same = refl

pub origin-alike : (ps bs : List Event) (manage : Text) → AreAlike ps bs → origin_of ps manage ≡ origin_of bs manage
origin-alike [] [] manage alike = refl
origin-alike [] (b ∷ bs) manage alike = absurd alike
origin-alike (p ∷ ps) [] manage alike = absurd alike
origin-alike (p ∷ ps) (b ∷ bs) manage alike =
    let rest = origin-alike ps bs manage alike.1 in
    let long = length-alike ps bs alike.1 in
    same_next (λ x xs. origin_of (x ∷ xs) manage) p b ps bs alike.0
    (ap (λ o. if list_any (has_manage manage) (handed_tokens b.reply) then origin_in b.call (length ps) (λ value. origin_of ps value) else o) rest
    ∙ ap (λ n. if list_any (has_manage manage) (handed_tokens b.reply) then origin_in b.call n (λ value. origin_of ps value) else origin_of bs manage) long
    ∙ ap (λ o. if list_any (has_manage manage) (handed_tokens b.reply) then o else origin_of bs manage)
    (origin_in-alike b.call (length bs) (λ value. origin_of ps value) (λ value. origin_of bs value)
    (λ value. origin-alike ps bs value alike.1)))
    (λ reply notes. rest
    ∙ sym (ap (λ r. if list_any (has_manage manage) (handed_tokens r) then origin_in b.call (length bs) (λ value. origin_of bs value) else origin_of bs manage)
    reply))

and_none : (b : Bool) → (b && false) ≡ false
and_none true = refl
and_none false = refl

neither : (n a b : Bool) (rest : Bool) → ((n && ((a && false) || (b && false))) || rest) ≡ rest
neither n a b rest = ap (λ x. (n && (x || (b && false))) || rest) (and_none a) ∙ ap (λ x. (n && x) || rest) (and_none b) ∙ ap (λ x. x || rest) (and_none n)

pub ended-alike : (manage : Text) (origin place : ℕ) (ps bs : List Event) → AreAlike ps bs
    → is_ended manage origin place ps ≡ is_ended manage origin place bs
ended-alike manage origin place [] [] alike = refl
ended-alike manage origin place [] (b ∷ bs) alike = absurd alike
ended-alike manage origin place (p ∷ ps) [] alike = absurd alike
ended-alike manage origin place (p ∷ ps) (b ∷ bs) alike =
    let rest = ended-alike manage origin place ps bs alike.1 in
    let long = length-alike ps bs alike.1 in
    let doors = chain-alike origin ps bs alike.1 in
    let on : ℕ → List Text → Bool → Reply → Bool = λ n ds r reply.
    (nat_lt place n && ((is_text manage (presented_manage b.call) && ends_token reply) || (is_among ds (presented_door b.call) && ends_tokens b.call reply)))
    || r in
    same_next (λ x xs. is_ended manage origin place (x ∷ xs)) p b ps bs alike.0
    (ap (λ r. on (length ps) (chain_doors origin ps) r b.reply) rest
    ∙ ap (λ n. on n (chain_doors origin ps) (is_ended manage origin place bs) b.reply) long
    ∙ ap (λ ds. on (length bs) ds (is_ended manage origin place bs) b.reply) doors)
    (λ reply notes. ap (λ x. x || is_ended manage origin place ps) (and_none (nat_lt place (length ps))) ∙ rest
    ∙ sym (ap (on (length bs) (chain_doors origin bs) (is_ended manage origin place bs)) reply
    ∙ neither (nat_lt place (length bs)) (is_text manage (presented_manage b.call)) (is_among (chain_doors origin bs) (presented_door b.call))
    (is_ended manage origin place bs)))

same_any : {X : Type 0} (f g : X → Bool) (xs : List X) → ((x : X) → f x ≡ g x) → list_any f xs ≡ list_any g xs
same_any f g [] same = refl
same_any f g (x ∷ xs) same = ap (λ b. b || list_any f xs) (same x) ∙ ap (λ b. g x || b) (same_any f g xs same)

has_come-alike : (wp wb : List Event) (n : ℕ) (ps bs : List Event) (e : Event) (token : TokenOut) → AreAlike wp wb → AreAlike ps bs
    → has_come wp n ps e token ≡ has_come wb n bs e token
has_come-alike wp wb n ps bs e token whole alike =
    ap (λ m. nat_lt n (m + token.expires_in) && not (is_ended token.manage (origin_of wp token.manage) (length ps) wp)) (now-alike ps bs e.moment alike)
    ∙ ap (λ b. nat_lt n (now_at bs e.moment + token.expires_in) && not b)
    (ap (λ o. is_ended token.manage o (length ps) wp) (origin-alike wp wb token.manage whole)
    ∙ ap (λ l. is_ended token.manage (origin_of wb token.manage) l wp) (length-alike ps bs alike)
    ∙ ended-alike token.manage (origin_of wb token.manage) (length bs) wp wb whole)

comes-alike : (wp wb : List Event) (n : ℕ) (value : Text) (test : TokenOut → Bool) (ps bs : List Event) → AreAlike wp wb → AreAlike ps bs
    → comes_from wp n value test ps ≡ comes_from wb n value test bs
comes-alike wp wb n value test [] [] whole alike = refl
comes-alike wp wb n value test [] (b ∷ bs) whole alike = absurd alike
comes-alike wp wb n value test (p ∷ ps) [] whole alike = absurd alike
comes-alike wp wb n value test (p ∷ ps) (b ∷ bs) whole alike =
    let rest = comes-alike wp wb n value test ps bs whole alike.1 in
    let of : List Event → List Event → TokenOut → Bool = λ w xs token. same_text token.value value && test token && has_come w n xs b token in
    let first : list_any (of wp ps) (handed_tokens b.reply) ≡ list_any (of wb bs) (handed_tokens b.reply)
    = same_any (of wp ps) (of wb bs) (handed_tokens b.reply) (λ token.
    ap (λ h. same_text token.value value && test token && h) (has_come-alike wp wb n ps bs b token whole alike.1)) in
    elim alike.0 [
      | inl is ↦ ap (λ (x : Event). comes_from wp n value test (x ∷ ps)) is
          ∙ ap (λ x. x || comes_from wp n value test ps) first ∙ ap (λ x. list_any (of wb bs) (handed_tokens b.reply) || x) rest
      | inr is ↦ ap (λ (x : Event). comes_from wp n value test (x ∷ ps)) is.lapse ∙ rest
          ∙ sym (ap (λ r. list_any (of wb bs) (handed_tokens r) || comes_from wb n value test bs) is.reply)
    ]

tells-alike : (rules : Setup) (ps bs : List Event) (n : ℕ) (call : Call) (reply : Reply) → AreAlike ps bs
    → tells rules ps n call reply ≡ tells rules bs n call reply
tells-alike rules ps bs n (Introspect server value binding wanted) (Error code) alike = refl
tells-alike rules ps bs n (Introspect server value binding wanted) Lapsed alike = refl
tells-alike rules ps bs n (Introspect server value binding wanted) reply alike = ap (eq_bool (is_active reply))
    (comes-alike ps bs n value (λ token. suits (server_names (key_of rules server)) binding wanted token.rights token.bearer) ps bs alike alike)
tells-alike rules ps bs n call reply alike = refl

tells-refused : (rules : Setup) (past : List Event) (n : ℕ) (call : Call) → tells rules past n call (Error InvalidClient) ≡ true
tells-refused rules past n (Introspect server value binding wanted) = refl
tells-refused rules past n call = refl

pub tells_all-alike : (rules : Setup) (ps bs : List Event) → AreAlike ps bs → tells_all rules ps ≡ tells_all rules bs
tells_all-alike rules [] [] alike = refl
tells_all-alike rules [] (b ∷ bs) alike = absurd alike
tells_all-alike rules (p ∷ ps) [] alike = absurd alike
tells_all-alike rules (p ∷ ps) (b ∷ bs) alike =
    let rest = tells_all-alike rules ps bs alike.1 in
    same_next (λ x xs. tells_all rules (x ∷ xs)) p b ps bs alike.0
    (ap (λ r. tells rules ps (now_at ps b.moment) b.call b.reply && r) rest
    ∙ ap (λ t. t && tells_all rules bs) (tells-alike rules ps bs (now_at ps b.moment) b.call b.reply alike.1
    ∙ ap (λ n. tells rules bs n b.call b.reply) (now-alike ps bs b.moment alike.1)))
    (λ reply notes. rest ∙ sym (ap (λ t. t && tells_all rules bs)
    (ap (tells rules bs (now_at bs b.moment) b.call) reply ∙ tells-refused rules bs (now_at bs b.moment) b.call)))

succeeds-refused : (value : Text) (b : Event) → b.reply ≡ Error InvalidClient → succeeds value b ≡ false
succeeds-refused value b reply = ap (λ r. is_text value (presented_door b.call) && is_success r) reply ∙ and_none (is_text value (presented_door b.call))

uses_up-refused : (value : Text) (b : Event) → b.reply ≡ Error InvalidClient → b.notes ≡ [] → uses_up value b ≡ false
uses_up-refused value b reply notes =
    ap (λ r. is_text value (presented_door b.call) && (is_success r || list_any is_ending b.notes)) reply
    ∙ ap (λ ns. is_text value (presented_door b.call) && list_any is_ending ns) notes ∙ and_none (is_text value (presented_door b.call))

pub succeeds-alike : (value : Text) (ps bs : List Event) → AreAlike ps bs → list_any (succeeds value) ps ≡ list_any (succeeds value) bs
succeeds-alike value [] [] alike = refl
succeeds-alike value [] (b ∷ bs) alike = absurd alike
succeeds-alike value (p ∷ ps) [] alike = absurd alike
succeeds-alike value (p ∷ ps) (b ∷ bs) alike =
    let rest = succeeds-alike value ps bs alike.1 in
    same_next (λ x xs. list_any (succeeds value) (x ∷ xs)) p b ps bs alike.0 (ap (λ r. succeeds value b || r) rest)
    (λ reply notes. rest ∙ sym (ap (λ s. s || list_any (succeeds value) bs) (succeeds-refused value b reply)))

pub uses_up-alike : (value : Text) (ps bs : List Event) → AreAlike ps bs → list_any (uses_up value) ps ≡ list_any (uses_up value) bs
uses_up-alike value [] [] alike = refl
uses_up-alike value [] (b ∷ bs) alike = absurd alike
uses_up-alike value (p ∷ ps) [] alike = absurd alike
uses_up-alike value (p ∷ ps) (b ∷ bs) alike =
    let rest = uses_up-alike value ps bs alike.1 in
    same_next (λ x xs. list_any (uses_up value) (x ∷ xs)) p b ps bs alike.0 (ap (λ r. uses_up value b || r) rest)
    (λ reply notes. rest ∙ sym (ap (λ s. s || list_any (uses_up value) bs) (uses_up-refused value b reply notes)))

pub once-alike : (value : Text) (ps bs : List Event) → AreAlike ps bs → IsOnce value ps → IsOnce value bs
once-alike value [] [] alike once = tt
once-alike value [] (b ∷ bs) alike once = absurd alike
once-alike value (p ∷ ps) [] alike once = absurd alike
once-alike value (p ∷ ps) (b ∷ bs) alike once = (
  (λ here before. elim alike.0 [
    | inl is ↦ once.0 (ap (succeeds value) is ∙ here) (succeeds-alike value ps bs alike.1 ∙ before)
    | inr is ↦ let none = succeeds-refused value b is.reply in cc (none, here)
  ]),
  once-alike value ps bs alike.1 once.1,
)
