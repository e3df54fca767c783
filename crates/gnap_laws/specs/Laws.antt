-- The laws of the grant machine.
use Rattle.std.specs.Prelude.{ℕ, ◌≤◌, ◌<◌, ◌^◌, ◌≡◌, ◌↔◌, true, ◌&&◌, List, ◌∷◌, ◌++◌, length, reverse, IsTrue, Contains}
use Rattle.std.specs.declared.option.Option.{Option}
use Rattle.std.specs.declared.option.Option.TheVariants.{None, Some}
use Rattle.histories.specs.History.{Legal, notes_of, now}
use Rattle.gnap_model.specs.Common.{Text, AreDistinct}
use Rattle.gnap_model.specs.Limits.{live_limit, wrong_limit}
use Rattle.gnap_laws.specs.Types.{Right, Binding, Setup, ErrorCode, TokenOut, Note, RoundNote}
use Rattle.gnap_model.specs.Rights.{covers, Includes}
use Rattle.gnap_model.specs.Keys.{key_of, server_names}
use Rattle.gnap_model.specs.declared.calls.Call.TheVariants.{Introspect}
use Rattle.gnap_model.specs.declared.calls.Reply.TheVariants.{Error}
use Rattle.gnap_model.specs.Notes.{Event}
use Rattle.gnap_model.specs.declared.notes.Note.TheVariants.{Pended}
use Rattle.gnap_model.specs.Standing.{grant_state, live_grants, live_tokens, wrongs_of, round_by_code}
use Rattle.gnap_model.specs.Standing.GrantState.{IsPending}
use Rattle.gnap_model.specs.Judging.{serves_all, active}
use Rattle.gnap_model.specs.Answer.{gnap_answer}
use Rattle.gnap_model.specs.Legal.{grant_law}
use Rattle.gnap_laws.specs.Refusals.{HasCause}
use Rattle.gnap_laws.specs.BoundKeys.{RotatesTo, IsBoundTo}
use Rattle.gnap_laws.specs.Provenance.{is_active, IsOnce, IsRefusedAfter, drawn_by, tells_all}

-- Granted rights cover the wanted ones exactly where each atom of the wanted ones is an atom of the granted ones (RFC 9635, section 8).
abbrev pub CoversIsInclusion : Type 0
CoversIsInclusion = (granted wanted : List Right) → IsTrue (covers granted wanted) ↔ Includes granted wanted

-- After any notes, the oldest first: an introspection says active exactly for a live token that serves the asking server and suits what it
-- asks, where the server serves every right that it asks about (RFC 9767, section 3.3).
abbrev pub SaysActive : Type 0
SaysActive = (rules : Setup) (notes : List Note) (now : ℕ) (draw : List ℕ)
    (server value : Text) (binding : Option Binding) (wanted : Option (List Right))
    → is_active (gnap_answer rules notes now draw (Introspect server value binding wanted)).reply
    ≡ (serves_all (server_names (key_of rules server)) wanted && active rules (reverse notes) now server value binding wanted)

-- Each error reply of a legal history has its cause, in the notes of the entries before it and at the greatest moment so far (RFC 9635, section 3.6).
abbrev pub RefusalsHaveCauses : Type 0
RefusalsHaveCauses = (rules : Setup) (before : List Event) (entry : Event) (after : List Event) (code : ErrorCode)
    → Legal grant_law rules (before ++ entry ∷ after) → entry.reply ≡ Error code
    → HasCause rules (reverse (notes_of before)) (now before entry.moment) entry.call code

-- At most 65,536 grants are live, and at most 65,536 tokens.
pub record IsWithinLimits (trail : List Note) (now : ℕ) : Type 0 where
  pub grants : live_grants trail now ≤ live_limit
  pub tokens : length (live_tokens trail now) ≤ live_limit

-- The limits hold after every legal history, at each moment from its greatest one on.
abbrev pub LimitsHold : Type 0
LimitsHold = (rules : Setup) (history : List Event) (moment : ℕ) → Legal grant_law rules history → now history 0 ≤ moment
    → IsWithinLimits (reverse (notes_of history)) moment

-- In a round that goes on fewer than five references were wrong (RFC 9635, section 5.1).
abbrev pub WrongReferencesAreFew : Type 0
WrongReferencesAreFew = (rules : Setup) (history : List Event) (moment grant : ℕ) (round : RoundNote) → Legal grant_law rules history
    → grant_state (reverse (notes_of history)) grant moment ≡ IsPending round → wrongs_of (reverse (notes_of history)) grant < wrong_limit

-- The user code of a new round is that of no live interaction, by the notes before it and at the greatest moment so far (RFC 9635, section 3.3.3).
abbrev pub DrawnCodesAreFree : Type 0
DrawnCodesAreFree = (rules : Setup) (before : List Event) (entry : Event) (after : List Event) (round : RoundNote) (code : Text)
    → Legal grant_law rules (before ++ entry ∷ after) → Contains entry.notes (Pended round) → round.code ≡ Some code
    → round_by_code (reverse (notes_of before)) (now before entry.moment) code ≡ None

-- Each introspection tells what requests and replies alone show.
abbrev pub TellsWhatCame : Type 0
TellsWhatCame = (rules : Setup) (history : List Event) → Legal grant_law rules history → length history ≤ 2 ^ 58
    → tells_all rules (reverse history) ≡ true

-- A continuation value succeeds at most once, and is refused after it was used up.
abbrev pub DoorsOpenOnce : Type 0
DoorsOpenOnce = (rules : Setup) (history : List Event) (value : Text) → Legal grant_law rules history → length history ≤ 2 ^ 58
    → IsOnce value (reverse history) × IsRefusedAfter value (reverse history)

-- All values that replies draw differ.
abbrev pub DrawnValuesDiffer : Type 0
DrawnValuesDiffer = (rules : Setup) (history : List Event) → Legal grant_law rules history → length history ≤ 2 ^ 58
    → AreDistinct (drawn_by (reverse history))

-- After a rotation that named a key, the new token is that key's (RFC 9635, section 6.1.1).
abbrev pub RotatedKeysBind : Type 0
RotatedKeysBind = (rules : Setup) (before : List Event) (entry : Event) (after : List Event) (rotation : Event) (token : TokenOut) (key : Text)
    → Legal grant_law rules (before ++ entry ∷ after) → length before ≤ 2 ^ 58
    → Contains before rotation → RotatesTo rotation.call rotation.reply token key
    → IsBoundTo (reverse (notes_of before)) (now before entry.moment) entry.call entry.reply token key
