-- What a worker keeps while it does its share.
use Rattle.std.proofs.Common.{◌≡◌, ℕ, ◌*◌, ◌<◌, ◌≤◌, ◌^◌, List, [], sym, arith}
use Rattle.std.specs.Prelude.{Result, Ok, Err, IfOk}
use Rattle.bytes_and_lists.specs.declared.memory.Mem.{Mem}
use Rattle.histories.specs.History.{Legal}
use Rattle.histories.specs.Histories.{legal-nil}
use Rattle.shared_server.specs.Passes.{StationState}
use Rattle.gnap_model.specs.declared.objects.Setup.{Setup}
use Rattle.grant_machine.specs.Gnap.{gnap, GnapEntry}
use Rattle.desk_load.specs.declared.tally.Tally.{Tally}
use Rattle.desk_load.specs.Loads.{HasRoom, DoesShare}
use Rattle.desk_load.specs.Sharing.{HasCounted}
use Rattle.desk_load.specs.Tallies.{counted_in}
use Rattle.desk_load.proofs.Growing.{own-done}

-- what a station has seen
abbrev pub Seen : StationState Setup GnapEntry → List GnapEntry → Type 0
Seen s h = (h ≡ s.seen) × Legal gnap s.home.rules h

pub seen_none : (s : StationState Setup GnapEntry) → s.seen ≡ [] → Seen s []
seen_none s none = (sym none, legal-nil gnap s.home.rules)

pub room_for_all : (s : StationState Setup GnapEntry) (grants : ℕ) → grants < 2 ^ 32 → s.seen ≡ [] → HasRoom s.number (Seen s) (7 * grants)
room_for_all s grants few none = ([], seen_none s none, omega (arith, few))

pub counted_now : (s t : StationState Setup GnapEntry) (grants start workers worker : ℕ) (made : Result Tally Mem) → t.number ≡ s.number → s.seen ≡ []
    → IfOk made (λ tally. (h : List GnapEntry) → Seen s h → DoesShare grants start workers worker s.number (Seen t) h tally)
    → IfOk made (λ tally. counted_in tally ≤ 7 * grants)
    → IfOk made (HasCounted grants start workers worker t.number t.seen)
counted_now s t grants start workers worker made number none shares most =
    if_ok_two made _ _ _ shares most (λ tally share few.
    let own = own-done grants start workers worker s.number t.number (sym number) (Seen t) t.seen (λ h seen. seen.0) tally (share [] (seen_none s none)) in
    record { share = own.0; counted = own.1; most = few })
  where
    if_ok_two : {T E : Type 0} (r : Result T E) (P Q S : T → Type 0) → IfOk r P → IfOk r Q → ((x : T) → P x → Q x → S x) → IfOk r S
    if_ok_two (Ok x) P Q S p q f = f x p q
    if_ok_two (Err e) P Q S p q f = tt
