-- One message's turn, by what its calls did.
use Rattle.std.proofs.Common.{◌≡◌, ◌≢◌, ◌∙◌, ℕ, ◌≤◌, List, [], ◌∷◌, ◌++◌, map, length, refl, ap, sym, subst, append_assoc}
use Rattle.std.specs.Prelude.{Bool, true, false, Result, Ok, Err, IfOk, OnErr}
use Rattle.std.proofs.lemmas.List.{append-nil, map-append}
use Rattle.outside.specs.Outside.{Told}
use Rattle.outside.specs.Gears.{GearState, with_moment, with_draw, with_uses}
use Rattle.histories.specs.declared.entry.Entry.{Entry}
use Rattle.histories.specs.History.{Law, Legal, entry_of}
use Rattle.histories.specs.Steps.{NoneOf, Enters, EntersLapse}
use Rattle.histories.specs.Turns.{Turn, Face, draw_of}
use Rattle.histories.proofs.OwnEntries.{own-next}
use Rattle.serving.specs.Backends.{BackendKind, Entered}
use Rattle.serving.specs.Desks.{desk_backend, adds-more}
use Rattle.serving.specs.MessageSteps.{IsStepOf, SaysAllReplies}
use Rattle.serving.specs.declared.message_step.MessageStep.{MessageStep}
use Rattle.serving.specs.declared.message_step.MessageStep.TheVariants.{Say, Ask}
use Rattle.serving.specs.declared.ends.AfterTurn.{AfterTurn}
use Rattle.serving.specs.declared.ends.AfterTurn.TheVariants.{MoreMayCome, OutOfMemory, WriteFailed}
use Rattle.serving.specs.MessageTurns.{LetsFollow, HasWrittenText, EntersCall, TakesTurn}

pub follows_on : (a : AfterTurn) → a ≢ OutOfMemory → LetsFollow a true
follows_on MoreMayCome isnt = refl
follows_on OutOfMemory isnt = absurd (isnt refl)
follows_on WriteFailed isnt = tt

pub follows_none : (a : AfterTurn) → a ≢ MoreMayCome → LetsFollow a false
follows_none MoreMayCome isnt = absurd (isnt refl)
follows_none OutOfMemory isnt = refl
follows_none WriteFailed isnt = tt

module _ {Message Rules Call Reply Note T : Type 0} (law : Law Rules Call Reply Note) (face : Face Message Rules Call Reply) (text : T → List ℕ)
    (rules : Rules) (last : Bool) (m : Message) (moment : ℕ) (step : MessageStep T Call) (so : IsStepOf law face text rules last m moment step) where
  pub says_so : (said : T) → step ≡ Say said → face.says rules last m moment (text said)
  says_so said is = let P : MessageStep T Call → Type 0 = λ s. IsStepOf law face text rules last m moment s in subst P is so

  pub asks_so : (call : Call) → step ≡ Ask call → (draw : List ℕ) → face.asks rules m moment draw call
  asks_so call is = let P : MessageStep T Call → Type 0 = λ s. IsStepOf law face text rules last m moment s in (subst P is so).0

pub used_none : (g g1 : GearState) (t : ℕ) → g1 ≡ with_moment t g → g1 ≡ with_uses (t ∷ []) [] g
used_none g g1 t is = is
    ∙ ap (λ ds. record g { log = record g.log { moments = g.log.moments ++ t ∷ []; draws = ds } }) (sym (append-nil g.log.draws))

used_next : (g g1 g2 : GearState) (t : ℕ) (ds : List (List ℕ)) (d : List ℕ) → g1 ≡ with_uses (t ∷ []) ds g → g2 ≡ with_draw d g1
    → g2 ≡ with_uses (t ∷ []) (ds ++ d ∷ []) g
used_next g g1 g2 t ds d first second = second ∙ ap (with_draw d) first
    ∙ ap (λ x. record g { log = record g.log { moments = g.log.moments ++ t ∷ []; draws = x } }) (append_assoc g.log.draws ds (d ∷ []))

module _ {B Past E : Type 0} (kind : BackendKind B Past E) where
  -- the clock was read, and nothing else was done
  pub entered-none : (b : B) (p : Past) (t : ℕ) (g g1 : GearState) → kind.seen b p → g1 ≡ with_moment t g → Entered kind b p [] t g g1 b p
  entered-none b p t g g1 was first = record {
    leads = kind.none b p was;
    used = used_none g g1 t first ∙ ap (λ ds. with_uses (t ∷ []) ds g) (sym kind.draws_none);
  }

module _ {D Rules Home Call Reply Note : Type 0} (rules : D → Rules) (number : D → ℕ) (home : D → Home) (seen : D → List (Entry Call Reply Note) → Type 0)
    (wanted : Rules) (law : Law Rules Call Reply Note) (b c d : D) (h es k : List (Entry Call Reply Note)) (t : ℕ) (g g1 g2 : GearState)
    (so_far : Entered (desk_backend rules number home seen wanted) b h es t g g1 c k)
    (same_rules : rules d ≡ rules c) (same_number : number d ≡ number c) (same_home : home d ≡ home c)
    (draw : List ℕ) (drew : g2 ≡ with_draw draw g1) where
  -- one more entry, behind entries of others
  entered-next : (call : Call) (others : List (Entry Call Reply Note)) → NoneOf (number c) others
      → seen d (k ++ others ++ entry_of law (rules c) (k ++ others) (number c) t draw call ∷ [])
      → Entered (desk_backend rules number home seen wanted) b h (es ++ entry_of law (rules c) (k ++ others) (number c) t draw call ∷ []) t g g2 d
      (k ++ others ++ entry_of law (rules c) (k ++ others) (number c) t draw call ∷ [])
  entered-next call others not_mine seen_now =
      let e : Entry Call Reply Note = entry_of law (rules c) (k ++ others) (number c) t draw call in
      record {
        leads = adds-more rules number home seen b c d h k (k ++ others ++ e ∷ []) es (e ∷ []) so_far.leads (record {
          rules_same = same_rules;
          number_same = same_number;
          home_same = same_home;
          seen_now = seen_now;
          own = own-next (number c) k others e not_mine refl;
        });
        used = used_next g g1 g2 t (map draw_of es) draw so_far.used drew
            ∙ ap (λ x. with_uses (t ∷ []) x g) (sym (map-append draw_of es (e ∷ [])));
      }

  -- the call that was answered
  pub entered-reply : (call : Call) (reply : Reply) → (x : Enters law (rules c) (number c) k t draw call reply (seen d))
      → Entered (desk_backend rules number home seen wanted) b h (es ++ entry_of law (rules c) (k ++ x.others) (number c) t draw call ∷ []) t g g2 d
      (k ++ x.others ++ entry_of law (rules c) (k ++ x.others) (number c) t draw call ∷ [])
  entered-reply call reply x = entered-next call x.others x.not_mine x.seen_now

  -- or a lapse
  pub entered-lapse : (x : EntersLapse law (rules c) (number c) k t draw (seen d))
      → Entered (desk_backend rules number home seen wanted) b h (es ++ entry_of law (rules c) (k ++ x.others) (number c) t draw law.lapse ∷ []) t g g2 d
      (k ++ x.others ++ entry_of law (rules c) (k ++ x.others) (number c) t draw law.lapse ∷ [])
  entered-lapse x = entered-next law.lapse x.others x.not_mine x.seen_now

-- by what came of submitting a call
pub submitted : {Rules Call Reply Note E : Type 0} (law : Law Rules Call Reply Note) (rules : Rules) (n : ℕ) (h : List (Entry Call Reply Note)) (t : ℕ)
    (call : Call)
    (was now : List (Entry Call Reply Note) → Type 0) (g g1 : GearState) (draw : List ℕ) → g1 ≡ with_draw draw g → (r : Result Reply E)
    → IfOk r (λ reply. (k : List (Entry Call Reply Note)) → was k → Enters law rules n k t draw call reply now)
    → OnErr r ((k : List (Entry Call Reply Note)) → was k → EntersLapse law rules n k t draw now)
    → was h → EntersCall law rules n h t call now g g1 r
submitted law rules n h t call was now g g1 draw drew (Ok reply) ok err seen = (draw, drew, ok h seen)
submitted law rules n h t call was now g g1 draw drew (Err e) ok err seen = (draw, drew, err h seen)

module _ {Message B Past E : Type 0} (kind : BackendKind B Past E) (IsTurn : Bool → Turn Message E → Type 0) where
  -- a turn, by what was entered and what was written
  pub turn-of : (last : Bool) (m : Message) (b : B) (p : Past) (c : B) (q : Past) (t : ℕ) (es : List E) (g g1 : GearState) (conn conn' : Told) (f f' : ℕ)
      (after : AfterTurn)
      (bytes : List ℕ) (on : Bool) → Entered kind b p es t g g1 c q → length es ≤ 2 → HasWrittenText bytes conn conn' f f' after → LetsFollow after on
      → IsTurn last (record { message = m; moment = t; entries = es; bytes = bytes; on = on })
      → TakesTurn kind IsTurn last m b p c g g1 conn conn' f f' after
  turn-of last m b p c q t es g g1 conn conn' f f' after bytes on entered few written follows is = record {
    turn = record { message = m; moment = t; entries = es; bytes = bytes; on = on };
    is_turn = is;
    message = refl;
    follows = follows;
    few = few;
    past_now = q;
    entered = entered;
    written = written;
  }

-- a turn of one form is one of another
pub turn-so : {Message B Past E : Type 0} (kind : BackendKind B Past E) (P Q : Bool → Turn Message E → Type 0) (last : Bool) (m : Message)
    → ((turn : Turn Message E) → turn.message ≡ m → P last turn → Q last turn)
    → (b : B) (p : Past) (c : B) (g g1 : GearState) (conn conn' : Told) (f f' : ℕ) (after : AfterTurn)
    → TakesTurn kind P last m b p c g g1 conn conn' f f' after → TakesTurn kind Q last m b p c g g1 conn conn' f f' after
turn-so kind P Q last m so b p c g g1 conn conn' f f' after takes = record {
  turn = takes.turn;
  is_turn = so takes.turn takes.message takes.is_turn;
  message = takes.message;
  follows = takes.follows;
  few = takes.few;
  past_now = takes.past_now;
  entered = takes.entered;
  written = takes.written;
}

-- A desk whose histories are legal gives replies that can be said.
pub entered_said : {R A B N : Type 0} (law : Law R A B N) (rules : R) (can_say : B → Type 0) (says : SaysAllReplies law can_say) (n : ℕ)
    (h : List (Entry A B N))
    (t : ℕ) (d : List ℕ) (call : A) (reply : B) (seen : List (Entry A B N) → Type 0) → ((k : List (Entry A B N)) → seen k → Legal law rules k)
    → Enters law rules n h t d call reply seen → can_say reply
entered_said {R} {A} {B} {N} law rules can_say says n h t d call reply seen legal x =
    let front = h ++ x.others in
    let e : Entry A B N = entry_of law rules front n t d call in
    subst can_say (sym x.reply_is) (says rules front e [] (legal (front ++ e ∷ []) x.seen_now))
