-- How many entries the one history of workers has.
use Rattle.std.proofs.Common.{◌≡◌, ℕ, suc, ◌+◌, ◌*◌, ◌≤◌, List, [], ◌∷◌, length, length-append, refl, ap, subst, arith}
use Rattle.outside.specs.Outside.{Served}
use Rattle.outside.specs.Gears.{GearState}
use Rattle.histories.specs.declared.entry.Entry.{Entry}
use Rattle.histories.specs.History.{Law}
use Rattle.histories.specs.Turns.{Turn, Face, IsTurn, entries_in}
use Rattle.histories.specs.Whole.{OneHistory, AllMeet, Below}
use Rattle.serving.proofs.LogLemmas.{account_few, entries_few}
use Rattle.histories.proofs.OwnEntries.{entries_from, all_counted}
use Rattle.serving.specs.Connections.{Wire, AreTurns, Session, is_closing}
use Rattle.serving.specs.Workers.{accounts_of}
use Rattle.serving.specs.declared.ends.ConnectionEnd.{ConnectionEnd}

module _ {Message Rules Call Reply Note Fault : Type 0} (wire : Wire Message Fault) (law : Law Rules Call Reply Note) (face : Face Message Rules Call Reply)
    (rules : Rules) where
  turns_few : (place : ℕ) (turns : List (Turn Message (Entry Call Reply Note))) → AreTurns wire (IsTurn law face rules) place turns
      → length (entries_in turns) ≤ length turns
  turns_few place [] each = omega arith
  turns_few place (t ∷ ts) each =
      let first = entries_few law face rules (is_closing wire place t.message) t each.0 in
      let rest = turns_few (suc place) ts each.1 in
      let all = length-append t.entries (entries_in ts) in
      omega (arith, first, rest, all)

  -- a connection makes as many entries at most as it may bring messages
  pub session_few : (conn : Served) (turns : List (Turn Message (Entry Call Reply Note))) (ended : ConnectionEnd Fault)
      → Session wire (IsTurn law face rules) conn turns ended → length (entries_in turns) ≤ 1000
  session_few conn turns ended session =
      let one_each = turns_few 0 turns session.each in
      let most = session.few in
      omega (arith, one_each, most)

-- how many connections gears have served
abbrev pub connections_of : List GearState → ℕ
connections_of [] = 0
connections_of (gear ∷ gears) = length gear.log.served + connections_of gears

module _ {Message Call Reply Note : Type 0} (session : Served → List (Turn Message (Entry Call Reply Note)) → Type 0)
    (few : (conn : Served) (turns : List (Turn Message (Entry Call Reply Note))) → session conn turns → length (entries_in turns) ≤ 2000) where
  entries_by_gears : (k : ℕ) (gears : List GearState) (h : List (Entry Call Reply Note)) → AllMeet k (accounts_of session gears) h
      → entries_from k (length gears) h ≤ 2000 * connections_of gears
  entries_by_gears k [] h meet = omega arith
  entries_by_gears k (gear ∷ gears) h meet =
      let first = account_few session gear.log _ few meet.0 in
      let rest = entries_by_gears (suc k) gears h meet.1 in
      omega (arith, first, rest)

  as_many : (gears : List GearState) → length (accounts_of session gears) ≡ length gears
  as_many [] = refl
  as_many (gear ∷ gears) = ap suc (as_many gears)

  -- where a connection makes at most 2,000 entries, the history has at most 2,000 for each that the gears served
  pub history_few : {Rules : Type 0} (law : Law Rules Call Reply Note) (rules : Rules) (gears : List GearState)
      (one : OneHistory law rules (accounts_of session gears)) → length one.history ≤ 2000 * connections_of gears
  history_few law rules gears one =
      let all = all_counted (length gears) one.history (subst (λ n. Below n one.history) (as_many gears) one.numbers) in
      let most = entries_by_gears 0 gears one.history one.each in
      omega (arith, all, most)
