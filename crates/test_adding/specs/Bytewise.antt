-- Bytes as messages to the adding machine.
use Rattle.std.specs.Prelude.{◌≡◌, ◌≢◌, ℕ, ◌<◌, ◌%◌, ◌==◌, ◌⊎◌, Bool, true, false, List, [], ◌∷◌, ◌++◌, if◌then◌else◌, Result, OnOk, IfErr, MatchResult}
use mathlib.Core.Path.{ap}
use Rattle.outside.specs.Outside.{Told, Served, Takes, IsAtEnd, Rose}
use Rattle.histories.specs.Turns.{Face, Turn, IsTurn}
use Rattle.test_adding.specs.Adding.{adding}
use Rattle.test_adding.specs.Amounts.{AddingEntry}
use Rattle.test_adding.specs.declared.adding.Call.{Call}
use Rattle.test_adding.specs.declared.adding.Call.TheVariants.{Add, Lapse}
use Rattle.test_adding.specs.declared.adding.Reply.{Reply}
use Rattle.test_adding.specs.declared.adding.Reply.TheVariants.{Sum, Lapsed}
use Rattle.serving.specs.Connections.{Wire, Session}
use Rattle.serving.specs.declared.ends.ConnectionEnd.{ConnectionEnd}
use Rattle.serving.specs.declared.ends.NoMessage.{NoMessage}
use Rattle.serving.specs.declared.ends.NoMessage.TheVariants as no
use Rattle.test_adding.specs.declared.fault.NoAmount.{NoAmount}

-- a byte that isn't 0 is a message; 255 is a last one
abbrev pub byte_wire : Wire ℕ NoAmount
byte_wire = record {
  begins = λ bytes m rest. (bytes ≡ m ∷ rest) × (0 < m);
  refuses = λ bytes fault. (rest : List ℕ) × (bytes ≡ 0 ∷ rest);
  unfinished = λ bytes. ⊥;
  is_last = λ m. m == 255;
  refusal = λ fault. 0 ∷ [];
  starved = 2 ∷ [];
}

pub stays : (bytes : List ℕ) (m : ℕ) (rest more : List ℕ) → (bytes ≡ m ∷ rest) × (0 < m) → (bytes ++ more ≡ m ∷ rest ++ more) × (0 < m)
stays bytes m rest more is = (ap (λ l. l ++ more) is.0, is.1)

abbrev pub sum_byte : Reply → ℕ
sum_byte (Sum n) = n % 256
sum_byte Lapsed = 0

-- 254 is answered at once, by itself; any other byte is an amount, and its reply is the last byte of the sum, and 255 at the end
abbrev pub byte_face : Face ℕ ℕ Call Reply
byte_face = record {
  says = λ rules last m moment bytes. (m ≡ 254) × (bytes ≡ 254 ∷ []);
  asks = λ rules m moment draw call. (m ≢ 254) × (call ≡ Add m);
  prints = λ rules last reply. sum_byte reply ∷ (if last then 255 ∷ [] else []);
  busy = 1 ∷ [];
}

-- A byte's turn. 253 is entered as two amounts, at one moment: 250 and 3. Any other byte has the turn of its face.
pub data IsByteTurn (start : ℕ) (last : Bool) : Turn ℕ AddingEntry → Type 0 where
  plain : (t : Turn ℕ AddingEntry) → t.message ≢ 253 → IsTurn adding byte_face start last t → IsByteTurn start last t
  -- both were answered, and the second sum is said
  in_two : (e f : AddingEntry) → e.call ≡ Add 250 → f.call ≡ Add 3 → e.moment ≡ f.moment
      → IsByteTurn start last (record { message = 253; moment = f.moment; entries = e ∷ f ∷ []; bytes = byte_face.prints start last f.reply; on = true })
  -- memory ran out at the first
  cut_off : (e : AddingEntry) → e.call ≡ Lapse
      → IsByteTurn start last (record { message = 253; moment = e.moment; entries = e ∷ []; bytes = byte_face.busy; on = false })
  -- or at the second, or when its sum was to be said
  half_said : (e f : AddingEntry) → e.call ≡ Add 250 → (f.call ≡ Add 3) ⊎ (f.call ≡ Lapse) → e.moment ≡ f.moment
      → IsByteTurn start last (record { message = 253; moment = f.moment; entries = e ∷ f ∷ []; bytes = byte_face.busy; on = false })

-- a connection was served by these turns, and so it ended
abbrev pub IsByteSession : ℕ → Served → List (Turn ℕ AddingEntry) → Type 0
IsByteSession start conn turns = (ended : ConnectionEnd NoAmount) × Session byte_wire (IsByteTurn start) conn turns ended

-- Some bytes were read, where none were held, and they are held then.
pub record Fills (held held_now : List ℕ) (before after : Told) (result : Result (Unit {0}) (NoMessage NoAmount)) : Type 0 where
  pub came : List ℕ
  pub takes : Takes came before after
  pub joins : OnOk result ((held_now ≡ held ++ came) × (held_now ≡ [] → IsAtEnd after))
  pub plain : IfErr result (λ why. (why ≡ no.Failed) ⊎ (why ≡ no.OutOfMemory))

abbrev pub HasFillCause : ℕ → ℕ → Result (Unit {0}) (NoMessage NoAmount) → Type 0
HasFillCause faults faults_now result = MatchResult result
    (λ _. faults_now ≡ faults)
    (λ why. (why ≡ no.Failed → Rose faults faults_now) × (why ≡ no.OutOfMemory → faults_now ≡ faults))
