-- A client that may send a continuation has a continuation value.
use Rattle.std.proofs.Common.{◌≡◌, ℕ, List, [], ◌∷◌, Bool, true, false, refl}
use Rattle.std.specs.Prelude.{fold, if◌then◌else◌, Option, Some, None, IsSome}
use Rattle.reply_readers.specs.declared.grant_reply.GrantReply.TheVariants as replies
use Rattle.gnap_client.specs.declared.client.State.TheVariants as states
use Rattle.gnap_client.specs.declared.client.Asked.{Asked}
use Rattle.gnap_client.specs.declared.client.Asked.TheVariants as asks
use Rattle.gnap_client.specs.declared.client.Received.{Received}
use Rattle.gnap_client.specs.declared.client.ReadReply.{ReadReply}
use Rattle.gnap_client.specs.declared.client.ReadReply.TheVariants.{Given, Resource}
use Rattle.gnap_client.specs.Received.{nothing_received, is_end, after_reply, after_read, received_after}
use Rattle.gnap_client.specs.Calls.{is_open}
use Rattle.gnap_client.specs.Laws.{OpenHasDoor}

abbrev HasDoor : Received → Type 0
HasDoor received = is_open received.state ≡ true → IsSome received.door

refused : (b : Bool) (received : Received) → HasDoor received → HasDoor (if b then record received { state = states.Ended } else received)
refused true received has = λ e. absurd (cc)
refused false received has = has

ended : (asked : Asked) (received : Received) → HasDoor received → HasDoor (after_reply asked replies.Done received)
unfolding after_reply
ended (asks.Grant finish) received has = has
ended asks.Continuation received has = has
ended asks.Cancellation received has = λ e. absurd (cc)
ended (asks.Rotation token) received has = has
ended asks.Revocation received has = has
ended asks.Resource received has = has

step : (received : Received) (asked : Asked) (reading : ReadReply) → HasDoor received → HasDoor (after_read received (asked, reading))
unfolding after_reply
step received asked (Given (replies.Granted door tokens subject)) has = λ e. refl
step received asked (Given (replies.Pending door interaction)) has = λ e. refl
step received asked (Given (replies.Continuing door)) has = λ e. refl
step received asked (Given (replies.Rotated token)) has = has
step received asked (Given replies.Done) has = ended asked received has
step received asked (Given (replies.Refused code)) has = refused (is_end code) received has
step received asked (Resource status body) has = has

steps : (taken : List (Asked × ReadReply)) (received : Received) → HasDoor received → HasDoor (fold after_read received taken)
steps [] received has = has
steps ((asked, reading) ∷ taken) received has = steps taken (after_read received (asked, reading)) (step received asked reading has)

pub open_has_door_law : OpenHasDoor
open_has_door_law taken = steps taken nothing_received (λ e. absurd (cc))
