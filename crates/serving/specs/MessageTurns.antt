-- What one message's turn does.
use Rattle.std.specs.Prelude.{◌≡◌, ℕ, ◌≤◌, Bool, true, false, List, Result, Ok, Err, length}
use Rattle.bytes_and_lists.specs.Prefixes.{IsPrefix}
use Rattle.outside.specs.Outside.{Told, Writes, Rose}
use Rattle.outside.specs.Gears.{GearState, with_draw}
use Rattle.histories.specs.declared.entry.Entry.{Entry}
use Rattle.histories.specs.History.{Law}
use Rattle.histories.specs.Steps.{Enters, EntersLapse}
use Rattle.histories.specs.Turns.{Turn}
use Rattle.serving.specs.Backends.{BackendKind, Entered}
use Rattle.serving.specs.declared.ends.AfterTurn.{AfterTurn}
use Rattle.serving.specs.declared.ends.AfterTurn.TheVariants.{MoreMayCome, OutOfMemory, WriteFailed}

-- whether more may follow
abbrev pub LetsFollow : AfterTurn → Bool → Type 0
LetsFollow MoreMayCome on = on ≡ true
LetsFollow OutOfMemory on = on ≡ false
LetsFollow WriteFailed on = Unit {0}

-- all of a text was written, or a beginning of it where a write failed
abbrev pub HasWrittenText : List ℕ → Told → Told → ℕ → ℕ → AfterTurn → Type 0
HasWrittenText text before after faults faults_now WriteFailed =
    ((part : List ℕ) × IsPrefix part text × Writes part before after) × Rose faults faults_now
HasWrittenText text before after faults faults_now _ = Writes text before after × (faults_now ≡ faults)

-- A call was entered behind a history that a desk had seen, with words that its gear drew: its reply came, or memory ran out.
abbrev pub EntersCall : {Rules Call Reply Note E : Type 0} → Law Rules Call Reply Note → Rules → ℕ → List (Entry Call Reply Note) → ℕ → Call
    → (List (Entry Call Reply Note) → Type 0) → GearState → GearState → Result Reply E → Type 0
EntersCall law rules number h moment call seen gear gear_now (Ok reply) =
    (draw : List ℕ) × (gear_now ≡ with_draw draw gear) × Enters law rules number h moment draw call reply seen
EntersCall law rules number h moment call seen gear gear_now (Err e) =
    (draw : List ℕ) × (gear_now ≡ with_draw draw gear) × EntersLapse law rules number h moment draw seen

module _ {Message B Past E : Type 0} (kind : BackendKind B Past E) (IsTurn : Bool → Turn Message E → Type 0) where
  -- One message had its turn at a backend that had seen this past.
  pub record TakesTurn (last : Bool) (m : Message) (before : B) (past : Past) (after : B) (gear gear_now : GearState) (conn conn_now : Told)
      (faults faults_now : ℕ) (ended : AfterTurn) : Type 0 where
    pub turn : Turn Message E
    pub is_turn : IsTurn last turn
    pub message : turn.message ≡ m
    pub follows : LetsFollow ended turn.on
    pub few : length turn.entries ≤ 2
    pub past_now : Past
    pub entered : Entered kind before past turn.entries turn.moment gear gear_now after past_now
    pub written : HasWrittenText turn.bytes conn conn_now faults faults_now ended
