-- The turn of a byte that enters two amounts, by what its calls did.
use Rattle.std.proofs.Common.{◌≡◌, ◌≢◌, ◌∙◌, inl, inr, ℕ, ◌+◌, ◌<◌, List, [], ◌∷◌, ◌++◌, length, length-append, ap, sym, subst, refl, arith}
use Rattle.std.specs.Prelude.{Bool, true, false}
use Rattle.outside.specs.Outside.{Told}
use Rattle.outside.specs.Gears.{GearState, with_moment, with_draw}
use Rattle.histories.specs.History.{entry_of}
use Rattle.histories.specs.Steps.{NoneOf, Enters, EntersLapse}
use Rattle.histories.specs.Turns.{Turn, IsTurn}
use Rattle.histories.specs.Whole.{own_of}
use Rattle.histories.proofs.OwnEntries.{own-next}
use Rattle.serving.specs.Backends.{Entered}
use Rattle.serving.specs.Desks.{desk_backend}
use Rattle.serving.specs.MessageTurns.{HasWrittenText, TakesTurn}
use Rattle.serving.specs.declared.ends.AfterTurn.{AfterTurn}
use Rattle.serving.specs.declared.ends.AfterTurn.TheVariants.{MoreMayCome, OutOfMemory}
use Rattle.serving.proofs.MessageTurnLemmas.{follows_on, follows_none, entered-none, entered-reply, entered-lapse, turn-of}
use Rattle.test_adding.specs.declared.adding.Call.TheVariants.{Add, Lapse}
use Rattle.test_adding.specs.declared.adding.Reply.{Reply}
use Rattle.test_adding.specs.Adding.{adding}
use Rattle.test_adding.specs.Amounts.{AddingEntry}
use Rattle.test_adding.specs.Bytewise.{byte_face, IsByteTurn, plain, in_two, cut_off, half_said}

module _ {D Home : Type 0} (rules : D → ℕ) (number : D → ℕ) (home : D → Home) (seen : D → List AddingEntry → Type 0) (start : ℕ) (last : Bool)
    (b : D) (h : List AddingEntry) (was : seen b h) (t : ℕ) (g g1 : GearState) (first : g1 ≡ with_moment t g) (conn conn' : Told) (f f' : ℕ) (after : AfterTurn)
  where
    none : Entered (desk_backend rules number home seen start) b h [] t g g1 b h
    none = entered-none (desk_backend rules number home seen start) b h t g g1 was first

    -- memory ran out at the first
    module _ (c : D) (g2 : GearState) (same_rules : rules c ≡ rules b) (same_number : number c ≡ number b) (same_home : home c ≡ home b) (draw : List ℕ)
        (drew : g2 ≡ with_draw draw g1) where
      pub first-lapsed : EntersLapse adding (rules b) (number b) h t draw (seen c)
          → HasWrittenText byte_face.busy conn conn' f f' after → after ≢ MoreMayCome
          → TakesTurn (desk_backend rules number home seen start) (IsByteTurn start) last 253 b h c g g2 conn conn' f f' after
      first-lapsed x written off =
          let e : AddingEntry = entry_of adding (rules b) (h ++ x.others) (number b) t draw Lapse in
          turn-of (desk_backend rules number home seen start) (IsByteTurn start) last 253 b h c (h ++ x.others ++ e ∷ []) t (e ∷ []) g g2 conn conn' f f' after
          byte_face.busy false
          (entered-lapse rules number home seen start adding b b c h [] h t g g1 g2 none same_rules same_number same_home draw drew x)
          (omega arith) written (follows_none after off) (cut_off e refl)

      -- the first was entered
      module _ (reply : Reply) (x : Enters adding (rules b) (number b) h t draw (Add 250) reply (seen c)) (d : D) (g3 : GearState)
          (rules_again : rules d ≡ rules c) (number_again : number d ≡ number c) (home_again : home d ≡ home c) (draw' : List ℕ) (drew' : g3 ≡ with_draw draw' g2)
        where
          abbrev pub e : AddingEntry
          e = entry_of adding (rules b) (h ++ x.others) (number b) t draw (Add 250)

          -- what the desk has seen then
          abbrev pub then_seen : List AddingEntry
          then_seen = h ++ x.others ++ e ∷ []

          one : Entered (desk_backend rules number home seen start) b h (e ∷ []) t g g2 c then_seen
          one = entered-reply rules number home seen start adding b b c h [] h t g g1 g2 none same_rules same_number same_home draw drew (Add 250) reply x

          -- at the second
          pub second-lapsed : EntersLapse adding (rules c) (number c) then_seen t draw' (seen d)
              → HasWrittenText byte_face.busy conn conn' f f' after → after ≢ MoreMayCome
              → TakesTurn (desk_backend rules number home seen start) (IsByteTurn start) last 253 b h d g g3 conn conn' f f' after
          second-lapsed y written off =
              let f2 : AddingEntry = entry_of adding (rules c) (then_seen ++ y.others) (number c) t draw' Lapse in
              turn-of (desk_backend rules number home seen start) (IsByteTurn start) last 253 b h d (then_seen ++ y.others ++ f2 ∷ []) t (e ∷ f2 ∷ []) g g3 conn
              conn' f f' after byte_face.busy false
              (entered-lapse rules number home seen start adding b c d h (e ∷ []) then_seen t g g2 g3 one rules_again number_again home_again draw' drew' y)
              (omega arith) written (follows_none after off) (half_said e f2 refl (inr refl) refl)

          module _ (reply' : Reply) (y : Enters adding (rules c) (number c) then_seen t draw' (Add 3) reply' (seen d)) where
            abbrev pub e2 : AddingEntry
            e2 = entry_of adding (rules c) (then_seen ++ y.others) (number c) t draw' (Add 3)

            both : Entered (desk_backend rules number home seen start) b h (e ∷ e2 ∷ []) t g g3 d (then_seen ++ y.others ++ e2 ∷ [])
            both = entered-reply rules number home seen start adding b c d h (e ∷ []) then_seen t g g2 g3 one rules_again number_again home_again draw' drew'
                (Add 3) reply' y

            -- when the second sum was to be said
            pub both-starved : HasWrittenText byte_face.busy conn conn' f f' after → after ≢ MoreMayCome
                → TakesTurn (desk_backend rules number home seen start) (IsByteTurn start) last 253 b h d g g3 conn conn' f f' after
            both-starved written off =
                turn-of (desk_backend rules number home seen start) (IsByteTurn start) last 253 b h d (then_seen ++ y.others ++ e2 ∷ []) t (e ∷ e2 ∷ []) g g3 conn
                conn' f f' after byte_face.busy false
                both (omega arith) written (follows_none after off) (half_said e e2 refl (inl refl) refl)

            -- or nowhere
            pub both-said : (text : List ℕ) → text ≡ byte_face.prints start last reply' → HasWrittenText text conn conn' f f' after → after ≢ OutOfMemory
                → TakesTurn (desk_backend rules number home seen start) (IsByteTurn start) last 253 b h d g g3 conn conn' f f' after
            both-said text is written on =
                turn-of (desk_backend rules number home seen start) (IsByteTurn start) last 253 b h d (then_seen ++ y.others ++ e2 ∷ []) t (e ∷ e2 ∷ []) g g3 conn
                conn' f f' after
                (byte_face.prints start last e2.reply) true both (omega arith)
                (subst (λ (s : List ℕ). HasWrittenText s conn conn' f f' after) (is ∙ ap (byte_face.prints start last) y.reply_is) written)
                (follows_on after on) (in_two e e2 refl refl refl)

-- any other byte
pub plain_so : (start : ℕ) (last : Bool) (m : ℕ) → m ≢ 253 → (turn : Turn ℕ AddingEntry) → turn.message ≡ m → IsTurn adding byte_face start last turn
    → IsByteTurn start last turn
plain_so start last m isnt turn is turned = plain turn (λ bad. isnt (sym is ∙ bad)) turned

-- there is room for the second
pub room-again : (n n' : ℕ) → n' ≡ n → (h others : List AddingEntry) (e : AddingEntry) → NoneOf n others → e.number ≡ n
    → length (own_of n h) + 2 < 4503599627370496
    → length (own_of n' (h ++ others ++ e ∷ [])) < 4503599627370496
room-again n n' same h others e not_mine is room =
    let own = ap length (ap (λ m. own_of m (h ++ others ++ e ∷ [])) same ∙ own-next n h others e not_mine is) in
    let sum = length-append (own_of n h) (e ∷ []) in
    omega (arith, own, sum, room)
