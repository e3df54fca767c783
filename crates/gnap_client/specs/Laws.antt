-- What holds of a client after any calls, and any replies: lost, repeated or foreign.
use Rattle.std.specs.Prelude.{◌≡◌, ℕ, ◌==◌, ◌<◌, List, [], ◌∷◌, ◌++◌, length, slice_get, codes, true, IsSome, Option, Some, None, Result, Ok, Err}
use Rattle.std.specs.Option.{option_or, option_flatten, option_and_then, unwrap_or}
use Rattle.gnap_model.specs.Common.{some_if}
use Rattle.gnap_model.specs.declared.calls.TokenOut.{TokenOut}
use Rattle.gnap_model.specs.declared.objects.Finish.{Finish}
use Rattle.interaction.specs.Hashes.{interaction_hash}
use Rattle.reply_readers.specs.declared.grant_reply.Interaction.{Interaction}
use Rattle.reply_readers.specs.declared.grant_reply.GrantReply.TheVariants as replies
use Rattle.gnap_client.specs.declared.calls.DueRequest.{DueRequest}
use Rattle.gnap_client.specs.declared.config.ClientConfig.{ClientConfig}
use Rattle.gnap_client.specs.declared.client.State.TheVariants as states
use Rattle.gnap_client.specs.declared.client.Asked.{Asked}
use Rattle.gnap_client.specs.declared.client.Asked.TheVariants as asks
use Rattle.gnap_client.specs.declared.client.Took.{Took}
use Rattle.gnap_client.specs.declared.client.ReadReply.{ReadReply}
use Rattle.gnap_client.specs.declared.client.ReadReply.TheVariants.{Given, Resource}
use Rattle.gnap_client.specs.declared.client.ClientFault.{ClientFault}
use Rattle.gnap_client.specs.declared.client.ClientFault.TheVariants as faults
use Rattle.gnap_client.specs.declared.client.Client.{Client}
use Rattle.gnap_client.specs.Received.{finish_of, received_after, ClientFits}
use Rattle.gnap_client.specs.Calls.{is_open, finish_call, HasAsked}
use Rattle.gnap_client.specs.Taking.{Reads, took_of, HasTaken}

-- a request call hands nothing out
abbrev pub CallsFit : Type 0
CallsFit = (config : ClientConfig) (taken : List (Asked × ReadReply)) (old new : Client) (due : Result DueRequest ClientFault) (now : ℕ)
    (nonce : List ℕ) (result : Result (List ℕ) ClientFault) → ClientFits config taken old → HasAsked due now nonce old new result → ClientFits config taken new

-- the answer tells that no reply was taken
abbrev pub IsUntaken : Result Took ClientFault → Type 0
IsUntaken (Ok took) = ⊥
IsUntaken (Err (faults.Refused code)) = ⊥
IsUntaken (Err fault) = Unit {0}

-- the one reply that was taken, with the outstanding request; none where none was
pub data TakesMore (old : Client) (bytes : List ℕ) (result : Result Took ClientFault) : List (Asked × ReadReply) → Type 0 where
  one : (asked : Asked) → (reading : ReadReply) → old.asked ≡ Some asked → Reads asked bytes reading → result ≡ took_of reading
      → TakesMore old bytes result ((asked, reading) ∷ [])
  none : IsUntaken result → TakesMore old bytes result []

-- a reply that is taken stands behind those before it
abbrev pub RepliesFit : Type 0
RepliesFit = (config : ClientConfig) (taken : List (Asked × ReadReply)) (old new : Client) (bytes : List ℕ) (result : Result Took ClientFault)
    → ClientFits config taken old → HasTaken old bytes new result
    → (more : List (Asked × ReadReply)) × TakesMore old bytes result more × ClientFits config (taken ++ more) new

-- ---- the last reply that tells something

-- what the last reply tells that tells anything of it, each with the request that it answered; none where none does
abbrev pub last_told : {A : Type 0} → (Asked × ReadReply → Option A) → List (Asked × ReadReply) → Option A
last_told told [] = None
last_told told (reply ∷ replies) = option_or (last_told told replies) (told reply)

-- the continuation value that a reply hands out
abbrev pub door_told : Asked × ReadReply → Option (List ℕ)
door_told (asked, Given (replies.Granted door tokens subject)) = Some door
door_told (asked, Given (replies.Pending door interaction)) = Some door
door_told (asked, Given (replies.Continuing door)) = Some door
door_told (asked, Given (replies.Rotated token)) = None
door_told (asked, Given replies.Done) = None
door_told (asked, Given (replies.Refused code)) = None
door_told (asked, Resource status body) = None

-- how many tokens are held from then on: those of a Granted reply, and none while the user is asked
abbrev pub count_told : Asked × ReadReply → Option ℕ
count_told (asked, Given (replies.Granted door tokens subject)) = Some (length tokens)
count_told (asked, Given (replies.Pending door interaction)) = Some 0
count_told (asked, reading) = None

-- the token that a rotation of this place gave
abbrev pub rotated_at : ℕ → Asked → TokenOut → Option TokenOut
rotated_at i (asks.Rotation j) token = some_if (i == j) token
rotated_at i asked token = None

-- the token for this place that a reply hands out
abbrev pub token_told : ℕ → Asked × ReadReply → Option TokenOut
token_told i (asked, Given (replies.Granted door tokens subject)) = slice_get tokens i
token_told i (asked, Given (replies.Rotated token)) = rotated_at i asked token
token_told i (asked, reading) = None

-- what a Pending reply hands out for the interaction, with the way in which its request wanted to be told of the end
abbrev pub pending_told : Asked × ReadReply → Option (Option Finish × Interaction)
pending_told (asked, Given (replies.Pending door interaction)) = Some (finish_of asked, interaction)
pending_told (asked, reading) = None

-- the interaction of a Pending reply; a Granted one ends it
abbrev pub interaction_told : Asked × ReadReply → Option (Option Interaction)
interaction_told (asked, Given (replies.Granted door tokens subject)) = Some None
interaction_told (asked, Given (replies.Pending door interaction)) = Some (Some interaction)
interaction_told (asked, reading) = None

-- the user that a Granted reply names, or that it names none
abbrev pub subject_told : Asked × ReadReply → Option (Option (List ℕ))
subject_told (asked, Given (replies.Granted door tokens subject)) = Some subject
subject_told (asked, reading) = None

-- ---- what is held

-- the continuation value is the last one that a reply handed out
abbrev pub DoorIsLast : Type 0
DoorIsLast = (taken : List (Asked × ReadReply)) → (received_after taken).door ≡ last_told door_told taken

-- where a continuation may be sent, there is a door to present
abbrev pub OpenHasDoor : Type 0
OpenHasDoor = (taken : List (Asked × ReadReply)) → is_open (received_after taken).state ≡ true → IsSome (received_after taken).door

-- so many tokens are held as the last Granted or Pending reply says
abbrev pub TokensAreCounted : Type 0
TokensAreCounted = (taken : List (Asked × ReadReply)) → length (received_after taken).tokens ≡ unwrap_or (last_told count_told taken) 0

-- the token at each place is the last one that a reply handed out for it
abbrev pub TokensAreLast : Type 0
TokensAreLast = (taken : List (Asked × ReadReply)) (i : ℕ) → i < length (received_after taken).tokens
    → slice_get (received_after taken).tokens i ≡ last_told (token_told i) taken

-- no token is held while the user is asked
abbrev pub PendingHasNoToken : Type 0
PendingHasNoToken = (taken : List (Asked × ReadReply)) → (received_after taken).state ≡ states.Pending → (received_after taken).tokens ≡ []

-- the interaction is that of the last Pending reply, and none after a later Granted one
abbrev pub InteractionIsLast : Type 0
InteractionIsLast = (taken : List (Asked × ReadReply)) → (received_after taken).interaction ≡ option_flatten (last_told interaction_told taken)

-- the way to be told of the end is that of the request which the last Pending reply answered
abbrev pub FinishIsLast : Type 0
FinishIsLast = (taken : List (Asked × ReadReply)) → (received_after taken).finish ≡ option_and_then (λ told. told.0) (last_told pending_told taken)

-- the user is the one that the last Granted reply names; none where it names none
abbrev pub SubjectIsLast : Type 0
SubjectIsLast = (taken : List (Asked × ReadReply)) → (received_after taken).subject ≡ option_flatten (last_told subject_told taken)

-- The hash is that of the interaction which the last Pending reply began, with this reference (RFC 9635, section 4.2.3).
pub record IsLastHash (taken : List (Asked × ReadReply)) (server hash reference : List ℕ) : Type 0 where
  pub finish : Finish
  pub interaction : Interaction
  pub nonce : List ℕ
  pub pending : last_told pending_told taken ≡ Some (Some finish, interaction)
  pub server_nonce : interaction.nonce ≡ Some nonce
  pub is : hash ≡ interaction_hash finish.long finish.nonce nonce reference (server ++ codes "/gnap")

-- a reference is sent only with the hash of the interaction
abbrev pub FinishesByHash : Type 0
FinishesByHash = (config : ClientConfig) (taken : List (Asked × ReadReply)) (old new : Client) (now : ℕ) (nonce hash reference bytes : List ℕ)
    → ClientFits config taken old → HasAsked (finish_call old hash reference) now nonce old new (Ok bytes) → IsLastHash taken config.server hash reference
