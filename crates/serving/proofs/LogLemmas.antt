-- A log that is accounted for, and one more connection.
use Rattle.std.proofs.Common.{◌≡◌, ◌∙◌, ℕ, ◌*◌, ◌≤◌, List, [], ◌∷◌, ◌++◌, length, length-append, refl, ap, sym, subst, append_assoc, arith}
use Rattle.std.specs.Prelude.{Bool, map}
use Rattle.std.proofs.lemmas.List.{append-nil, map-append}
use Rattle.outside.specs.Outside.{Served}
use Rattle.outside.specs.Gears.{Log, GearState, empty_log, log_served, log_uses}
use Rattle.histories.specs.History.{Law}
use Rattle.histories.specs.declared.entry.Entry.{Entry}
use Rattle.histories.specs.Turns.{Turn, Face, IsTurn, direct, called, starved, lapsed, unsaid, moments_in, entries_in, draw_of}
use Rattle.serving.specs.Logs.{joined, Sessions, IsAccount, Serves}
use Rattle.serving.specs.Desks.{desk_backend}
use Rattle.serving.specs.Connections.{Wire, Session, ServesTurns}
use Rattle.serving.specs.declared.ends.ConnectionEnd.{ConnectionEnd}
use Rattle.histories.proofs.TurnLemmas.{moments_in-append, entries_in-append}

joined-next : {X : Type 0} (xss : List (List X)) (ys : List X) → joined (xss ++ ys ∷ []) ≡ joined xss ++ ys
joined-next [] ys = append-nil ys
joined-next (xs ∷ xss) ys = ap (λ zs. xs ++ zs) (joined-next xss ys) ∙ sym (append_assoc xs (joined xss) ys)

module _ {Message Call Reply Note : Type 0} (IsSession : Served → List (Turn Message (Entry Call Reply Note)) → Type 0) where
  sessions-next : (conns : List Served) (turns : List (List (Turn Message (Entry Call Reply Note)))) (conn : Served)
      (ts : List (Turn Message (Entry Call Reply Note)))
      → Sessions IsSession conns turns → IsSession conn ts → Sessions IsSession (conns ++ conn ∷ []) (turns ++ ts ∷ [])
  sessions-next [] [] conn ts each one = (one, tt)
  sessions-next [] (us ∷ turns) conn ts each one = absurd each
  sessions-next (other ∷ conns) [] conn ts each one = absurd each
  sessions-next (other ∷ conns) (us ∷ turns) conn ts each one = (each.0, sessions-next conns turns conn ts each.1 one)

  -- What a gear tells that has done nothing is accounted for by no entries.
  pub account-none : IsAccount IsSession empty_log []
  account-none = record { turns = []; sessions = tt; moments = refl; draws = refl; own_is = refl }

  -- The worker gave an account of what its gear told. A connection was served, whose turns used the gear, and it was taken back.
  pub account-longer : (log log_used : Log) (own own_now : List (Entry Call Reply Note)) (conn : Served) (ts : List (Turn Message (Entry Call Reply Note)))
      → IsAccount IsSession log own → IsSession conn ts
      → log_used ≡ log_uses (moments_in ts) (map draw_of (entries_in ts)) log → own_now ≡ own ++ entries_in ts
      → IsAccount IsSession (log_served conn log_used) own_now
  account-longer log log_used own own_now conn ts was one used owns =
      let first = was.turns in
      let last : joined (first ++ ts ∷ []) ≡ joined first ++ ts = joined-next first ts in
      subst (λ (l : Log). IsAccount IsSession (log_served conn l) own_now) (sym used) (record {
        turns = first ++ ts ∷ [];
        sessions = sessions-next log.served first conn ts was.sessions one;
        moments = ap (λ xs. xs ++ moments_in ts) was.moments ∙ sym (moments_in-append (joined first) ts) ∙ ap moments_in (sym last);
        draws = ap (λ xs. xs ++ map draw_of (entries_in ts)) was.draws ∙ sym (map-append draw_of own (entries_in ts)) ∙ ap (map draw_of) (sym owns);
        own_is = owns ∙ ap (λ xs. xs ++ entries_in ts) was.own_is ∙ sym (entries_in-append (joined first) ts) ∙ ap entries_in (sym last);
      })

  entries_by_connections : (conns : List Served) (turns : List (List (Turn Message (Entry Call Reply Note))))
      → ((conn : Served) (ts : List (Turn Message (Entry Call Reply Note))) → IsSession conn ts → length (entries_in ts) ≤ 2000)
      → Sessions IsSession conns turns → length (entries_in (joined turns)) ≤ 2000 * length conns
  entries_by_connections [] [] few each = omega arith
  entries_by_connections [] (ts ∷ turns) few each = absurd each
  entries_by_connections (conn ∷ conns) [] few each = absurd each
  entries_by_connections (conn ∷ conns) (ts ∷ turns) few each =
      let first = few conn ts each.0 in
      let rest = entries_by_connections conns turns few each.1 in
      let all = ap length (entries_in-append ts (joined turns)) in
      let sum = length-append (entries_in ts) (entries_in (joined turns)) in
      omega (arith, first, rest, all, sum)

  -- Where a connection makes at most 2,000 entries, a worker made at most 2,000 for each that its gear served.
  pub account_few : (log : Log) (own : List (Entry Call Reply Note))
      → ((conn : Served) (ts : List (Turn Message (Entry Call Reply Note))) → IsSession conn ts → length (entries_in ts) ≤ 2000)
      → IsAccount IsSession log own → length own ≤ 2000 * length log.served
  account_few log own few account =
      let most = entries_by_connections log.served account.turns few account.sessions in
      let all = ap length account.own_is in
      omega (arith, most, all)

-- a turn makes one entry at most
pub entries_few : {Message Rules Call Reply Note : Type 0} (law : Law Rules Call Reply Note) (face : Face Message Rules Call Reply) (rules : Rules)
    (last : Bool)
    (turn : Turn Message (Entry Call Reply Note)) → IsTurn law face rules last turn → length turn.entries ≤ 1
entries_few law face rules last turn (direct m t bytes says) = omega arith
entries_few law face rules last turn (called m e asks) = omega arith
entries_few law face rules last turn (starved m t) = omega arith
entries_few law face rules last turn (lapsed m e call asks lapse) = omega arith
entries_few law face rules last turn (unsaid m e asks) = omega arith

-- what was served at a desk, by what its sessions are
module _ {D Rules Home Message Fault Call Reply Note : Type 0} (rules : D → Rules) (number : D → ℕ) (home : D → Home)
    (seen : D → List (Entry Call Reply Note) → Type 0)
    (wanted : Rules) (wire : Wire Message Fault) (IsTurn : Bool → Turn Message (Entry Call Reply Note) → Type 0) (before after : D) (gear gear_now : GearState)
    (conn : Served)
    (ended : ConnectionEnd Fault)
    (serves : (h : List (Entry Call Reply Note)) → seen before h
    → ServesTurns (desk_backend rules number home seen wanted) wire IsTurn before h after gear gear_now conn ended) where
  pub served-at-desk : (P : Served → List (Turn Message (Entry Call Reply Note)) → Type 0)
      → ((turns : List (Turn Message (Entry Call Reply Note))) → Session wire IsTurn conn turns ended → P conn turns)
      → (h : List (Entry Call Reply Note)) → seen before h → Serves P (number before) (seen after) h gear gear_now conn
  served-at-desk P so h was =
      let s = serves h was in
      record {
        turns = s.turns;
        few = s.few;
        history = s.past_now;
        seen_now = s.leads.seen_now;
        own = s.leads.own;
        used = s.used;
        session = so s.turns s.session;
      }

  pub same-desk : (h : List (Entry Call Reply Note)) → seen before h
      → (rules after ≡ rules before) × (number after ≡ number before) × (home after ≡ home before)
  same-desk h was = let leads = (serves h was).leads in (leads.rules_same, leads.number_same, leads.home_same)
