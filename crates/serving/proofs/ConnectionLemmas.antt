-- A connection that goes on, and how it ends.
use Rattle.std.proofs.Common.{◌≡◌, ◌≢◌, ◌∙◌, ℕ, suc, ◌+◌, ◌*◌, ◌<◌, ◌≤◌, List, [], ◌∷◌, ◌++◌, length, refl, ap, sym, subst, arith, append_assoc, length-append, add-zero, zero-add, true≢false}
use Rattle.std.specs.Prelude.{Bool, true, false, ◌||◌, ◌==◌, Option, Some, None, Result, Ok, Err}
use Rattle.std.proofs.lemmas.Bool.Decides.{nat_tests}
use Rattle.std.proofs.lemmas.List.{append-nil}
use Rattle.bytes_and_lists.specs.Prefixes.{IsPrefix}
use Rattle.outside.specs.Outside.{Told, Takes, Writes, Rose, served_of, IsUntouched}
use Rattle.outside.specs.Gears.{GearState, with_uses}
use Rattle.histories.specs.Turns.{Turn, OneMore, messages_in, moments_in, entries_in, bytes_in}
use Rattle.histories.proofs.TurnLemmas.{messages_in-append, moments_in-append, entries_in-next, bytes_in-next, length-next}
use Rattle.serving.specs.declared.ends.ConnectionEnd.{ConnectionEnd}
use Rattle.serving.specs.declared.ends.ConnectionEnd.TheVariants as closed
use Rattle.serving.specs.declared.ends.NoMessage.{NoMessage}
use Rattle.serving.specs.declared.ends.NoMessage.TheVariants as no
use Rattle.serving.specs.declared.ends.AfterTurn.{AfterTurn}
use Rattle.serving.specs.Connections.{Wire, AreMessages, is_closing, GoesOn, AreTurns, Ends, at_last, at_end, at_quota, cut_off, at_fault, at_want, reading_at_want, at_read, Finishes, whole, cut_response, cut_closing, ServesTurns}
use Rattle.serving.specs.Backends.{BackendKind}
use Rattle.serving.proofs.WholeLemmas.{messages-more}
use Rattle.serving.specs.MessageTurns.{TakesTurn}
use Rattle.serving.specs.Reading.{ReadsMessage, HasReadCause, Stops, truncated, failed, refused, refused_cut, starved, starved_cut}

-- A connection is being served: so many messages had their turns, and the bytes held were read behind these messages.
pub record ServedSoFar {Message Fault B Past E : Type 0} (kind : BackendKind B Past E) (IsTurn : Bool → Turn Message E → Type 0) (wire : Wire Message Fault)
    (place : ℕ) (before : B) (past : Past) (now : B) (gear gear_now : GearState) (conn : Told) (faults : ℕ) (held : List ℕ) : Type 0 where
  pub turns : List (Turn Message E)
  pub each : AreTurns wire IsTurn 0 turns
  pub on : GoesOn wire 0 turns
  pub many : length turns ≡ place
  pub few : length (entries_in turns) ≤ 2 * place
  pub past_now : Past
  pub leads : kind.leads before past (entries_in turns) now past_now
  pub used : gear_now ≡ with_uses (moments_in turns) (kind.draws (entries_in turns)) gear
  pub messages : AreMessages wire conn.taken (messages_in turns) held
  pub written : conn.written ≡ bytes_in turns
  pub none_failed : faults ≡ 0

-- ---- answers by their cases

pub next_ok : {Message Fault : Type 0} (wire : Wire Message Fault) (held rest : List ℕ) (a b : Told) (r : Option Message) (m : Option Message) → r ≡ m
    → ReadsMessage wire held rest a b (Ok r) → ReadsMessage wire held rest a b (Ok m)
next_ok wire held rest a b r m is next = subst (λ x. ReadsMessage wire held rest a b (Ok x)) is next

rose_some : (f f' : ℕ) → f ≡ 0 → Rose f f' → 0 < f'
rose_some f f' is rose = let r : Rose 0 f' = subst (λ x. Rose x f') is rose in omega (arith, r)

no_uses : (g : GearState) → g ≡ with_uses [] [] g
no_uses g = ap (λ ms. record g { log = record g.log { moments = ms } }) (sym (append-nil g.log.moments))
    ∙ ap (λ ds. record g { log = record g.log { moments = g.log.moments ++ []; draws = ds } }) (sym (append-nil g.log.draws))

more_uses : (g : GearState) (ms ns : List ℕ) (ds es : List (List ℕ)) → with_uses ns es (with_uses ms ds g) ≡ with_uses (ms ++ ns) (ds ++ es) g
more_uses g ms ns ds es =
    ap (λ x. record g { log = record g.log { moments = x; draws = (g.log.draws ++ ds) ++ es } }) (append_assoc g.log.moments ms ns)
    ∙ ap (λ x. record g { log = record g.log { moments = g.log.moments ++ (ms ++ ns); draws = x } }) (append_assoc g.log.draws ds es)

used-next : (g g1 g2 : GearState) (ms ns : List ℕ) (ds es : List (List ℕ)) → g1 ≡ with_uses ms ds g → g2 ≡ with_uses ns es g1
    → g2 ≡ with_uses (ms ++ ns) (ds ++ es) g
used-next g g1 g2 ms ns ds es first second = second ∙ ap (with_uses ns es) first ∙ more_uses g ms ns ds es

-- ---- turns, one more

module _ {Message Fault E : Type 0} (wire : Wire Message Fault) where
  turns-next : (IsTurn : Bool → Turn Message E → Type 0) (place : ℕ) (ts : List (Turn Message E)) (t : Turn Message E)
      → AreTurns wire IsTurn place ts → IsTurn (is_closing wire (place + length ts) t.message) t → AreTurns wire IsTurn place (ts ++ t ∷ [])
  turns-next IsTurn place [] t each is = (subst (λ p. IsTurn (is_closing wire p t.message) t) (add-zero place) is, tt)
  turns-next IsTurn place (u ∷ ts) t each is =
      (each.0, turns-next IsTurn (suc place) ts t each.1 (subst (λ p. IsTurn (is_closing wire p t.message) t) (omega arith) is))

  on-next : (place : ℕ) (ts : List (Turn Message E)) (t : Turn Message E)
      → GoesOn wire place ts → t.on ≡ true → is_closing wire (place + length ts) t.message ≡ false → GoesOn wire place (ts ++ t ∷ [])
  on-next place [] t all on more = (on, subst (λ p. is_closing wire p t.message ≡ false) (add-zero place) more, tt)
  on-next place (u ∷ ts) t all on more =
      (all.0, all.1, on-next (suc place) ts t all.2 on (subst (λ p. is_closing wire p t.message ≡ false) (omega arith) more))

last_there : (b : Bool) (place : ℕ) → (b || place == 999) ≡ true → place ≢ 999 → b ≡ true
last_there true place closing isnt = refl
last_there false place closing isnt = absurd (grind (arith, nat_tests, closing, isnt))

pub not_full : (b : Bool) (place : ℕ) → (b || place == 999) ≡ false → place ≢ 999
not_full true place more = absurd (true≢false more)
not_full false place more = λ full. absurd (grind (arith, nat_tests, more, full))

-- ---- a connection

module _ {Message Fault B Past E : Type 0} (wire : Wire Message Fault)
    (stays : (bytes : List ℕ) (m : Message) (rest more : List ℕ) → wire.begins bytes m rest → wire.begins (bytes ++ more) m (rest ++ more))
    (kind : BackendKind B Past E) (IsTurn : Bool → Turn Message E → Type 0) where
  messages-next : (b : List ℕ) (ms : List Message) (held : List ℕ) (m : Message) (rest : List ℕ) → AreMessages wire b ms held → wire.begins held m rest
      → AreMessages wire b (ms ++ m ∷ []) rest
  messages-next b [] held m rest is one = (rest, subst (λ x. wire.begins x m rest) (sym is) one, refl)
  messages-next b (k ∷ ms) held m rest is one = (is.0, is.1, messages-next is.0 ms held m rest is.2 one)

  pub served-start : (b : B) (p : Past) (g : GearState) (c : Told) (f : ℕ) (held : List ℕ)
      → IsUntouched c f → held ≡ [] → kind.seen b p → ServedSoFar kind IsTurn wire 0 b p b g g c f held
  served-start b p g c f held fresh none was = record {
    turns = [];
    each = tt;
    on = tt;
    many = refl;
    few = omega arith;
    past_now = p;
    leads = kind.none b p was;
    used = no_uses g ∙ ap (λ ds. with_uses [] ds g) (sym kind.draws_none);
    messages = fresh.1 ∙ sym none;
    written = fresh.2;
    none_failed = fresh.0;
  }

  -- there is room for one more turn
  pub room : (place : ℕ) → place ≤ 999 → (b c : B) (g g1 : GearState) (conn : Told) (f : ℕ) (held : List ℕ) → kind.has_room b 1000
      → ((p : Past) → kind.seen b p → ServedSoFar kind IsTurn wire place b p c g g1 conn f held) → kind.has_room c 1
  room place few b c g g1 conn f held enough so_far = kind.room_left b c 999 1 enough
      (λ p seen. let s = so_far p seen in (entries_in s.turns, s.past_now, s.leads, (let all = s.few in omega (arith, all, few))))

  module _ (place : ℕ) (few : place ≤ 999) (b : B) (p : Past) (b1 b2 : B) (g g1 g2 : GearState)
      (c1 c2 c3 : Told) (f1 f2 f3 : ℕ) (held rest : List ℕ) (so_far : ServedSoFar kind IsTurn wire place b p b1 g g1 c1 f1 held) where
    -- what came joins what is held
    messages_came : (came : List ℕ) (c : Told) → c.taken ≡ c1.taken ++ came → AreMessages wire c.taken (messages_in so_far.turns) (held ++ came)
    messages_came came c taken = subst (λ t. AreMessages wire t (messages_in so_far.turns) (held ++ came)) (sym taken)
        (messages-more wire stays c1.taken (messages_in so_far.turns) held came so_far.messages)

    -- ---- it ends with no turn more
    closes : (ended : ConnectionEnd Fault) (came : List ℕ) → c3.taken ≡ c1.taken ++ came
        → Finishes wire so_far.turns (served_of c3 f3) (held ++ came) ended
        → ServesTurns kind wire IsTurn b p b1 g g1 (served_of c3 f3) ended
    closes ended came taken finishes = record {
      turns = so_far.turns;
      few = (let all = so_far.few in omega (arith, all, few));
      past_now = so_far.past_now;
      leads = so_far.leads;
      used = so_far.used;
      session = record {
        each = so_far.each;
        few = (let many = so_far.many in omega (arith, many, few));
        rest = held ++ came;
        came = messages_came came c3 taken;
        finishes = finishes;
      };
    }

    -- nothing more was written
    silent : (ended : ConnectionEnd Fault) (came : List ℕ) → Takes came c1 c3
        → Ends wire so_far.turns (served_of c3 f3) (held ++ came) ended []
        → ServesTurns kind wire IsTurn b p b1 g g1 (served_of c3 f3) ended
    silent ended came takes ends = closes ended came takes.taken
        (whole ended [] ends (takes.written ∙ so_far.written ∙ sym (append-nil (bytes_in so_far.turns))))

    pub closes-end : ReadsMessage wire held rest c1 c3 (Ok None) → ServesTurns kind wire IsTurn b p b1 g g1 (served_of c3 f3) closed.Closed
    closes-end next = silent closed.Closed next.came next.takes (at_end so_far.on next.finds.0 next.finds.1)

    -- a closing piece: to bytes that are no message, or to want of memory
    pieced : (ended : ConnectionEnd Fault) (piece came : List ℕ) → Takes came c1 c2 → Writes piece c2 c3
        → Ends wire so_far.turns (served_of c3 f3) (held ++ came) ended piece → ServesTurns kind wire IsTurn b p b1 g g1 (served_of c3 f3) ended
    pieced ended piece came takes writes ends = closes ended came (writes.taken ∙ takes.taken)
        (whole ended piece ends (writes.written ∙ ap (λ s. s ++ piece) (takes.written ∙ so_far.written)))

    parted : (ended : ConnectionEnd Fault) (piece part came : List ℕ) → Takes came c1 c2 → IsPrefix part piece → Writes part c2 c3 → f2 ≡ f1 → Rose f2 f3
        → Ends wire so_far.turns (served_of c3 f3) (held ++ came) ended piece
        → ServesTurns kind wire IsTurn b p b1 g g1 (served_of c3 f3) closed.WriteFault
    parted ended piece part came takes is writes same rose ends = closes closed.WriteFault came (writes.taken ∙ takes.taken)
        (cut_closing ended piece ends
        (record { part = part; is_prefix = is; is = writes.written ∙ ap (λ s. s ++ part) (takes.written ∙ so_far.written) })
        (rose_some f2 f3 (same ∙ so_far.none_failed) rose))

    pub closes-stop : (why : NoMessage Fault) → ReadsMessage wire held rest c1 c2 (Err why)
        → (let r : Result (Option Message) (NoMessage Fault) = Err why in HasReadCause f1 f2 r) → (ended : ConnectionEnd Fault)
        → Stops wire c2 c3 f2 f3 why ended
        → ServesTurns kind wire IsTurn b p b1 g g1 (served_of c3 f3) ended
    closes-stop why next counts ended (truncated same kept) =
        let here = subst (λ x. ReadsMessage wire held rest c1 x (Err no.Truncated)) (sym same) next in
        silent closed.Truncated here.came here.takes (cut_off so_far.on here.finds.0 here.finds.1)
    closes-stop why next counts ended (failed same kept) =
        let here = subst (λ x. ReadsMessage wire held rest c1 x (Err no.Failed)) (sym same) next in
        silent closed.ReadFault here.came here.takes (at_read so_far.on (rose_some f1 f3 so_far.none_failed (subst (λ f. Rose f1 f) (sym kept) counts)))
    closes-stop why next counts ended (refused fault writes kept) =
        pieced (closed.Refused fault) (wire.refusal fault) next.came next.takes writes (at_fault fault so_far.on next.finds)
    closes-stop why next counts ended (refused_cut fault part is writes rose) =
        parted (closed.Refused fault) (wire.refusal fault) part next.came next.takes is writes counts rose (at_fault fault so_far.on next.finds)
    closes-stop why next counts ended (starved writes kept) =
        pieced closed.Memory wire.starved next.came next.takes writes (reading_at_want so_far.on)
    closes-stop why next counts ended (starved_cut part is writes rose) =
        parted closed.Memory wire.starved part next.came next.takes is writes counts rose (reading_at_want so_far.on)

    -- ---- a message had its turn
    module _ (m : Message) (next : ReadsMessage wire held rest c1 c2 (Ok (Some m))) (same : f2 ≡ f1) (last : Bool) (is_last : last ≡ is_closing wire place m)
        (after : AfterTurn) (t : TakesTurn kind IsTurn last m b1 so_far.past_now b2 g1 g2 c2 c3 f2 f3 after) where
      one : OneMore (GoesOn wire 0) (so_far.turns ++ t.turn ∷ []) so_far.turns t.turn
      one = record { is = refl; before = so_far.on }

      closing : is_closing wire (0 + length so_far.turns) t.turn.message ≡ last
      closing = ap (λ p. is_closing wire p t.turn.message) (zero-add (length so_far.turns) ∙ so_far.many) ∙ ap (is_closing wire place) t.message ∙ sym is_last

      each_now : AreTurns wire IsTurn 0 (so_far.turns ++ t.turn ∷ [])
      each_now = turns-next wire IsTurn 0 so_far.turns t.turn so_far.each (subst (λ b. IsTurn b t.turn) (sym closing) t.is_turn)

      many_now : length (so_far.turns ++ t.turn ∷ []) ≡ place + 1
      many_now = length-next so_far.turns t.turn ∙ ap (λ k. k + 1) so_far.many

      few_now : length (entries_in (so_far.turns ++ t.turn ∷ [])) ≤ 2 * (place + 1)
      few_now =
          let all = ap length (entries_in-next so_far.turns t.turn) in
          let sum = length-append (entries_in so_far.turns) t.turn.entries in
          let before = so_far.few in
          let one_more = t.few in
          omega (arith, all, sum, before, one_more)

      leads_now : kind.leads b p (entries_in (so_far.turns ++ t.turn ∷ [])) b2 t.past_now
      leads_now = subst (λ es. kind.leads b p es b2 t.past_now) (sym (entries_in-next so_far.turns t.turn))
          (kind.more b b1 b2 p so_far.past_now t.past_now (entries_in so_far.turns) t.turn.entries so_far.leads t.entered.leads)

      used_now : g2 ≡ with_uses (moments_in (so_far.turns ++ t.turn ∷ [])) (kind.draws (entries_in (so_far.turns ++ t.turn ∷ []))) g
      used_now =
          used-next g g1 g2 (moments_in so_far.turns) (t.turn.moment ∷ []) (kind.draws (entries_in so_far.turns)) (kind.draws t.turn.entries) so_far.used
          t.entered.used
          ∙ ap (λ x. with_uses x (kind.draws (entries_in so_far.turns) ++ kind.draws t.turn.entries) g) (sym (moments_in-append so_far.turns (t.turn ∷ [])))
          ∙ ap (λ x. with_uses (moments_in (so_far.turns ++ t.turn ∷ [])) x g)
          (sym (kind.draws_more (entries_in so_far.turns) t.turn.entries) ∙ ap kind.draws (sym (entries_in-next so_far.turns t.turn)))

      messages_now : c3.taken ≡ c2.taken → AreMessages wire c3.taken (messages_in (so_far.turns ++ t.turn ∷ [])) rest
      messages_now taken =
          subst (λ ms. AreMessages wire c3.taken ms rest) (sym (messages_in-append so_far.turns (t.turn ∷ [])))
          (messages-next c3.taken (messages_in so_far.turns) (held ++ next.came) t.turn.message rest (messages_came next.came c3 (taken ∙ next.takes.taken))
          (subst (λ x. wire.begins (held ++ next.came) x rest) (sym t.message) next.finds))

      written_now : (sent : List ℕ) → Writes sent c2 c3 → c3.written ≡ bytes_in so_far.turns ++ sent
      written_now sent writes = writes.written ∙ ap (λ s. s ++ sent) (next.takes.written ∙ so_far.written)

      -- it goes on
      pub served-next : last ≡ false → t.turn.on ≡ true → Writes t.turn.bytes c2 c3 → f3 ≡ f2
          → ServedSoFar kind IsTurn wire (place + 1) b p b2 g g2 c3 f3 rest
      served-next more on writes kept = record {
        turns = so_far.turns ++ t.turn ∷ [];
        each = each_now;
        on = on-next wire 0 so_far.turns t.turn so_far.on on (closing ∙ more);
        many = many_now;
        few = few_now;
        past_now = t.past_now;
        leads = leads_now;
        used = used_now;
        messages = messages_now writes.taken;
        written = written_now t.turn.bytes writes ∙ sym (bytes_in-next so_far.turns t.turn);
        none_failed = kept ∙ same ∙ so_far.none_failed;
      }

      -- or that turn was the last
      ends-turn : (ended : ConnectionEnd Fault) → c3.taken ≡ c2.taken → Finishes wire (so_far.turns ++ t.turn ∷ []) (served_of c3 f3) rest ended
          → ServesTurns kind wire IsTurn b p b2 g g2 (served_of c3 f3) ended
      ends-turn ended taken finishes = record {
        turns = so_far.turns ++ t.turn ∷ [];
        few = (let a = few_now in omega (arith, a, few));
        past_now = t.past_now;
        leads = leads_now;
        used = used_now;
        session = record {
          each = each_now;
          few = (let a = many_now in omega (arith, a, few));
          rest = rest;
          came = messages_now taken;
          finishes = finishes;
        };
      }

      all_said : Writes t.turn.bytes c2 c3 → c3.written ≡ bytes_in (so_far.turns ++ t.turn ∷ []) ++ []
      all_said writes = written_now t.turn.bytes writes ∙ sym (bytes_in-next so_far.turns t.turn) ∙ sym (append-nil (bytes_in (so_far.turns ++ t.turn ∷ [])))

      pub ends-last : last ≡ true → place ≢ 999 → t.turn.on ≡ true → Writes t.turn.bytes c2 c3
          → ServesTurns kind wire IsTurn b p b2 g g2 (served_of c3 f3) closed.Closed
      ends-last done isnt on writes = ends-turn closed.Closed writes.taken (whole closed.Closed []
          (at_last so_far.turns t.turn one on
          (ap wire.is_last t.message ∙ last_there (wire.is_last m) place (sym is_last ∙ done) isnt)
          (let a = many_now in omega (arith, a, few, isnt)))
          (all_said writes))

      pub ends-quota : place ≡ 999 → t.turn.on ≡ true → Writes t.turn.bytes c2 c3
          → ServesTurns kind wire IsTurn b p b2 g g2 (served_of c3 f3) closed.Quota
      ends-quota full on writes = ends-turn closed.Quota writes.taken
          (whole closed.Quota [] (at_quota so_far.turns t.turn one on (let a = many_now in omega (arith, a, full))) (all_said writes))

      pub ends-want : t.turn.on ≡ false → Writes t.turn.bytes c2 c3
          → ServesTurns kind wire IsTurn b p b2 g g2 (served_of c3 f3) closed.Memory
      ends-want off writes = ends-turn closed.Memory writes.taken (whole closed.Memory [] (at_want so_far.turns t.turn one off) (all_said writes))

      pub ends-cut : (part : List ℕ) → IsPrefix part t.turn.bytes → Writes part c2 c3 → Rose f2 f3
          → ServesTurns kind wire IsTurn b p b2 g g2 (served_of c3 f3) closed.WriteFault
      ends-cut part is writes rose = ends-turn closed.WriteFault writes.taken
          (cut_response so_far.turns t.turn one (record { part = part; is_prefix = is; is = written_now part writes })
          (rose_some f2 f3 (same ∙ so_far.none_failed) rose))
