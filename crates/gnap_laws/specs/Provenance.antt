-- What requests and replies alone show of a value. Lists of entries have the newest first, and
-- the place of an entry is the number of entries before it.
use Rattle.std.specs.Prelude.{ℕ, ◌≡◌, ◌+◌, ◌==◌, nat_lt, Bool, true, false, not, ◌&&◌, ◌||◌, List, [], ◌∷◌, ◌++◌, length, reverse, is_some, if◌then◌else◌}
use Rattle.std.specs.Option.{option_to_list}
use Rattle.std.specs.List.{list_any, flat_map}
use Rattle.std.specs.declared.option.Option.{Option}
use Rattle.std.specs.declared.option.Option.TheVariants.{None, Some}
use Rattle.gnap_model.specs.Common.{Text, same_text, some_if, is_text}
use Rattle.gnap_laws.specs.Types.{Setup, Call, Reply, ErrorCode, TokenOut, FinishOut, Note}
use Rattle.gnap_model.specs.Keys.{key_of, server_names}
use Rattle.gnap_model.specs.Judging.{suits}
use Rattle.gnap_model.specs.declared.calls.Call.TheVariants.{Introspect, Continue, Modify, Cancel, Rotate, Revoke}
use Rattle.gnap_model.specs.declared.objects.ErrorCode.TheVariants.{TooManyAttempts, InvalidContinuation}
use Rattle.gnap_model.specs.declared.calls.Reply.TheVariants.{Granted, Active, Error, Lapsed, Pending, Decided, Continuing, Done, Rotated}
use Rattle.gnap_model.specs.Notes.{Event, now_at}
use Rattle.gnap_model.specs.declared.notes.Note.TheVariants.{Finalized}

-- ---- where values come from

-- the continuation value that a reply hands out, and the tokens
abbrev pub handed_door : Reply → Option Text
handed_door (Granted door tokens single subject instance) = Some door
handed_door (Pending door modes handle code nonce expires_in instance) = Some door
handed_door (Continuing door) = Some door
handed_door _ = None

abbrev pub handed_tokens : Reply → List TokenOut
handed_tokens (Granted door tokens single subject instance) = tokens
handed_tokens (Rotated token) = token ∷ []
handed_tokens _ = []

-- the continuation value that a call presents, or the management value
abbrev pub presented_door : Call → Option Text
presented_door (Continue key value reference) = Some value
presented_door (Modify key value request) = Some value
presented_door (Cancel key value) = Some value
presented_door _ = None

abbrev pub presented_manage : Call → Option Text
presented_manage (Rotate key value new_key) = Some value
presented_manage (Revoke key value) = Some value
presented_manage _ = None

abbrev pub is_among : List Text → Option Text → Bool
is_among texts None = false
is_among texts (Some value) = list_any (same_text value) texts

-- The chain of an entry: the entry, and later ones that present a continuation value handed out on the chain. These values, the newest first.
abbrev pub chain_doors : ℕ → List Event → List Text
chain_doors place [] = []
chain_doors place (entry ∷ past) =
    if (length past == place) || is_among (chain_doors place past) (presented_door entry.call)
    then option_to_list (handed_door entry.reply) ++ chain_doors place past
    else chain_doors place past

-- the entry, after these, is on the chain of the entry at the place
abbrev pub is_on_chain : ℕ → List Event → Event → Bool
is_on_chain place past entry = is_among (chain_doors place past) (presented_door entry.call)

abbrev pub has_manage : Text → TokenOut → Bool
has_manage manage token = same_text token.manage manage

-- where a token comes from that the call was answered with: a Rotate goes on from the token that it presented
abbrev pub origin_in : Call → ℕ → (Text → ℕ) → ℕ
origin_in (Rotate key value new_key) place from = from value
origin_in _ place from = place

-- the place of the Granted entry from which the token with this management value comes
abbrev pub origin_of : List Event → Text → ℕ
origin_of [] manage = 0
origin_of (entry ∷ past) manage = if list_any (has_manage manage) (handed_tokens entry.reply)
    then origin_in entry.call (length past) (λ value. origin_of past value)
    else origin_of past manage

-- ---- what ends a token

-- a reply to a rotation or a revocation that ends the token
abbrev pub ends_token : Reply → Bool
ends_token (Rotated token) = true
ends_token Done = true
ends_token _ = false

abbrev pub is_modify : Call → Bool
is_modify (Modify key value request) = true
is_modify _ = false

abbrev pub is_cancel : Call → Bool
is_cancel (Cancel key value) = true
is_cancel _ = false

-- the one error that ends a grant and its tokens
abbrev pub is_too_many : ErrorCode → Bool
is_too_many TooManyAttempts = true
is_too_many _ = false

-- a reply to a call with a continuation value that ends the tokens of the grant
abbrev pub ends_tokens : Call → Reply → Bool
ends_tokens call (Granted door tokens single subject instance) = is_modify call
ends_tokens call (Pending door modes handle code nonce expires_in instance) = is_modify call
ends_tokens call Done = is_cancel call
ends_tokens call (Error code) = is_too_many code
ends_tokens call _ = false

-- The later entry, after these, ends the token that comes from the place `origin`: by its management value, or by a change of its grant.
abbrev pub ends : Text → ℕ → List Event → Event → Bool
ends manage origin past entry = (is_text manage (presented_manage entry.call) && ends_token entry.reply)
    || (is_on_chain origin past entry && ends_tokens entry.call entry.reply)

-- an entry after the place ends the token
abbrev pub is_ended : Text → ℕ → ℕ → List Event → Bool
is_ended manage origin place [] = false
is_ended manage origin place (entry ∷ past) =
    (nat_lt place (length past) && ends manage origin past entry) || is_ended manage origin place past

-- the token, handed out by the entry after these, lasts to now: its time has not run out, and no entry of the whole ended it
abbrev pub has_come : List Event → ℕ → List Event → Event → TokenOut → Bool
has_come whole now past entry token = nat_lt now (now_at past entry.moment + token.expires_in)
    && not (is_ended token.manage (origin_of whole token.manage) (length past) whole)

-- a token that was handed out, has this value, passes the test and lasts to now
abbrev pub comes_from : List Event → ℕ → Text → (TokenOut → Bool) → List Event → Bool
comes_from whole now value test [] = false
comes_from whole now value test (entry ∷ past) =
    list_any (λ token. same_text token.value value && test token && has_come whole now past entry token) (handed_tokens entry.reply)
    || comes_from whole now value test past

-- a token with this value that passes the test lasts to now
abbrev pub came : List Event → ℕ → Text → (TokenOut → Bool) → Bool
came past now value test = comes_from past now value test past

-- ---- what replies draw, in the order of drawing

abbrev pub token_values : TokenOut → List Text
token_values token = token.value ∷ token.manage ∷ []

abbrev pub reference_in : Option FinishOut → List Text
reference_in None = []
reference_in (Some finish) = finish.reference ∷ []

abbrev pub drawn_in : Reply → List Text
drawn_in (Granted door tokens single subject instance) = flat_map token_values tokens ++ door ∷ []
drawn_in (Pending door modes handle code nonce expires_in instance) = door ∷ handle ∷ option_to_list (some_if (is_some modes.finish) nonce)
drawn_in (Continuing door) = door ∷ []
drawn_in (Rotated token) = token_values token
drawn_in (Decided finish) = reference_in finish
drawn_in _ = []

-- the values that the replies so far drew, the newest first
abbrev pub drawn_by : List Event → List Text
drawn_by [] = []
drawn_by (entry ∷ past) = reverse (drawn_in entry.reply) ++ drawn_by past

-- ---- use of a continuation value

abbrev pub is_success : Reply → Bool
is_success (Granted door tokens single subject instance) = true
is_success (Pending door modes handle code nonce expires_in instance) = true
is_success (Continuing door) = true
is_success Done = true
is_success _ = false

abbrev pub is_ending : Note → Bool
is_ending (Finalized grant) = true
is_ending _ = false

-- the entry presents the value, and succeeds
abbrev pub succeeds : Text → Event → Bool
succeeds value entry = is_text value (presented_door entry.call) && is_success entry.reply

-- the entry presents the value, and succeeds or finalizes the grant
abbrev pub uses_up : Text → Event → Bool
uses_up value entry = is_text value (presented_door entry.call) && (is_success entry.reply || list_any is_ending entry.notes)

-- each entry that presents the value after it was used up is refused
abbrev pub IsRefusedAfter : Text → List Event → Type 0
IsRefusedAfter value [] = Unit {0}
IsRefusedAfter value (entry ∷ past) =
    (list_any (uses_up value) past ≡ true → presented_door entry.call ≡ Some value → entry.reply ≡ Error InvalidContinuation)
    × IsRefusedAfter value past

-- at most one entry succeeds on the value
abbrev pub IsOnce : Text → List Event → Type 0
IsOnce value [] = Unit {0}
IsOnce value (entry ∷ past) = (succeeds value entry ≡ true → list_any (succeeds value) past ≡ true → ⊥) × IsOnce value past

-- ---- introspections

-- both are true, or neither
abbrev pub eq_bool : Bool → Bool → Bool
eq_bool a b = if a then b else not b

abbrev pub is_active : Reply → Bool
is_active (Active access iat exp instance bearer) = true
is_active _ = false

-- Answered neither by an error nor by a Lapse, an introspection is answered Active exactly where a token with the value lasts that suits it.
abbrev pub tells : Setup → List Event → ℕ → Call → Reply → Bool
tells rules past now (Introspect server value binding wanted) (Error code) = true
tells rules past now (Introspect server value binding wanted) Lapsed = true
tells rules past now (Introspect server value binding wanted) reply = eq_bool (is_active reply)
    (came past now value (λ token. suits (server_names (key_of rules server)) binding wanted token.rights token.bearer))
tells rules past now _ _ = true

-- each introspection tells what requests and replies alone show
abbrev pub tells_all : Setup → List Event → Bool
tells_all rules [] = true
tells_all rules (entry ∷ past) = tells rules past (now_at past entry.moment) entry.call entry.reply && tells_all rules past
