-- What a client holds is what the last reply told that told anything of it.
use Rattle.std.proofs.Common.{◌≡◌, ◌∙◌, List, [], ◌∷◌, Bool, true, false, refl, ap}
use Rattle.std.specs.Prelude.{fold, if◌then◌else◌, Option, Some, None}
use Rattle.std.specs.Option.{option_or, option_flatten, option_and_then, unwrap_or}
use Rattle.gnap_model.specs.declared.objects.Finish.{Finish}
use Rattle.reply_readers.specs.declared.grant_reply.Interaction.{Interaction}
use Rattle.reply_readers.specs.declared.grant_reply.GrantReply.TheVariants as replies
use Rattle.gnap_client.specs.declared.client.State.TheVariants as states
use Rattle.gnap_client.specs.declared.client.Asked.{Asked}
use Rattle.gnap_client.specs.declared.client.Received.{Received}
use Rattle.gnap_client.specs.declared.client.ReadReply.{ReadReply}
use Rattle.gnap_client.specs.declared.client.ReadReply.TheVariants.{Given, Resource}
use Rattle.gnap_client.specs.Received.{nothing_received, is_end, after_reply, after_read}
use Rattle.gnap_client.specs.Laws.{last_told, door_told, pending_told, interaction_told, subject_told, DoorIsLast, InteractionIsLast, FinishIsLast, SubjectIsLast}

-- ---- any part of what is held

unwrap_twice : {A : Type 0} (later earlier : Option A) (x : A) → unwrap_or later (unwrap_or earlier x) ≡ unwrap_or (option_or later earlier) x
unwrap_twice None earlier x = refl
unwrap_twice (Some y) earlier x = refl

or_twice : {A : Type 0} (later earlier first : Option A) → option_or later (option_or earlier first) ≡ option_or (option_or later earlier) first
or_twice None earlier first = refl
or_twice (Some y) earlier first = refl

or_none : {A : Type 0} (x : Option A) → option_or x None ≡ x
or_none None = refl
or_none (Some y) = refl

-- a part that each reply leaves, or sets to what it tells
pub told_last : {A : Type 0} (part : Received → A) (told : Asked × ReadReply → Option A)
    → ((r : Received) (reply : Asked × ReadReply) → part (after_read r reply) ≡ unwrap_or (told reply) (part r))
    → (r : Received) (taken : List (Asked × ReadReply)) → part (fold after_read r taken) ≡ unwrap_or (last_told told taken) (part r)
told_last part told step r [] = refl
told_last part told step r (reply ∷ taken) =
    told_last part told step (after_read r reply) taken ∙ ap (unwrap_or (last_told told taken)) (step r reply)
    ∙ unwrap_twice (last_told told taken) (told reply) (part r)

ended : {A : Type 0} (part : Received → A) (r : Received) → part (record r { state = states.Ended }) ≡ part r
    → (b : Bool) → part (if b then record r { state = states.Ended } else r) ≡ part r
ended part r same true = same
ended part r same false = refl

-- ---- the door

door_step : (r : Received) (reply : Asked × ReadReply) → (after_read r reply).door ≡ option_or (door_told reply) r.door
unfolding after_reply
door_step r (asked, Given (replies.Granted door tokens subject)) = refl
door_step r (asked, Given (replies.Pending door interaction)) = refl
door_step r (asked, Given (replies.Continuing door)) = refl
door_step r (asked, Given (replies.Rotated token)) = refl
door_step r (asked, Given replies.Done) = refl
door_step r (asked, Given (replies.Refused code)) = ended (λ (x : Received). x.door) r refl (is_end code)
door_step r (asked, Resource status body) = refl

door_from : (r : Received) (taken : List (Asked × ReadReply)) → (fold after_read r taken).door ≡ option_or (last_told door_told taken) r.door
door_from r [] = refl
door_from r (reply ∷ taken) =
    door_from (after_read r reply) taken ∙ ap (option_or (last_told door_told taken)) (door_step r reply)
    ∙ or_twice (last_told door_told taken) (door_told reply) r.door

pub door_is_last_law : DoorIsLast
door_is_last_law taken = door_from nothing_received taken ∙ or_none (last_told door_told taken)

-- ---- the interaction, and the way to be told of its end

interaction_step : (r : Received) (reply : Asked × ReadReply) → (after_read r reply).interaction ≡ unwrap_or (interaction_told reply) r.interaction
unfolding after_reply
interaction_step r (asked, Given (replies.Granted door tokens subject)) = refl
interaction_step r (asked, Given (replies.Pending door interaction)) = refl
interaction_step r (asked, Given (replies.Continuing door)) = refl
interaction_step r (asked, Given (replies.Rotated token)) = refl
interaction_step r (asked, Given replies.Done) = refl
interaction_step r (asked, Given (replies.Refused code)) = ended (λ (x : Received). x.interaction) r refl (is_end code)
interaction_step r (asked, Resource status body) = refl

flat : {A : Type 0} (told : Option (Option A)) → unwrap_or told None ≡ option_flatten told
flat None = refl
flat (Some x) = refl

pub interaction_is_last_law : InteractionIsLast
interaction_is_last_law taken =
    told_last (λ (x : Received). x.interaction) interaction_told interaction_step nothing_received taken ∙ flat (last_told interaction_told taken)

abbrev finish_in : Option (Option Finish × Interaction) → Option Finish → Option Finish
finish_in None before = before
finish_in (Some told) before = told.0

finish_twice : (later earlier : Option (Option Finish × Interaction)) (before : Option Finish)
    → finish_in later (finish_in earlier before) ≡ finish_in (option_or later earlier) before
finish_twice None earlier before = refl
finish_twice (Some told) earlier before = refl

finish_step : (r : Received) (reply : Asked × ReadReply) → (after_read r reply).finish ≡ finish_in (pending_told reply) r.finish
unfolding after_reply
finish_step r (asked, Given (replies.Granted door tokens subject)) = refl
finish_step r (asked, Given (replies.Pending door interaction)) = refl
finish_step r (asked, Given (replies.Continuing door)) = refl
finish_step r (asked, Given (replies.Rotated token)) = refl
finish_step r (asked, Given replies.Done) = refl
finish_step r (asked, Given (replies.Refused code)) = ended (λ (x : Received). x.finish) r refl (is_end code)
finish_step r (asked, Resource status body) = refl

finish_from : (r : Received) (taken : List (Asked × ReadReply)) → (fold after_read r taken).finish ≡ finish_in (last_told pending_told taken) r.finish
finish_from r [] = refl
finish_from r (reply ∷ taken) =
    finish_from (after_read r reply) taken ∙ ap (finish_in (last_told pending_told taken)) (finish_step r reply)
    ∙ finish_twice (last_told pending_told taken) (pending_told reply) r.finish

first_of_told : (told : Option (Option Finish × Interaction)) → finish_in told None ≡ option_and_then (λ (t : Option Finish × Interaction). t.0) told
first_of_told None = refl
first_of_told (Some told) = refl

pub finish_is_last_law : FinishIsLast
finish_is_last_law taken = finish_from nothing_received taken ∙ first_of_told (last_told pending_told taken)

-- ---- the user

subject_step : (r : Received) (reply : Asked × ReadReply) → (after_read r reply).subject ≡ unwrap_or (subject_told reply) r.subject
unfolding after_reply
subject_step r (asked, Given (replies.Granted door tokens subject)) = refl
subject_step r (asked, Given (replies.Pending door interaction)) = refl
subject_step r (asked, Given (replies.Continuing door)) = refl
subject_step r (asked, Given (replies.Rotated token)) = refl
subject_step r (asked, Given replies.Done) = refl
subject_step r (asked, Given (replies.Refused code)) = ended (λ (x : Received). x.subject) r refl (is_end code)
subject_step r (asked, Resource status body) = refl

pub subject_is_last_law : SubjectIsLast
subject_is_last_law taken = told_last (λ (x : Received). x.subject) subject_told subject_step nothing_received taken ∙ flat (last_told subject_told taken)
