-- The laws of the machine with marks.
use Rattle.std.specs.Prelude.{ℕ, ◌≡◌, ◌⊎◌, ◌≤◌, ◌<◌, ◌^◌, Bool, true, false, not, ◌&&◌, ◌==◌, List, [], ◌∷◌, ◌++◌, length, reverse, Contains, if◌then◌else◌}
use Rattle.std.specs.List.{list_any}
use Rattle.std.specs.declared.option.Option.{Option}
use Rattle.std.specs.declared.option.Option.TheVariants.{None, Some}
use Rattle.histories.specs.History.{Legal, now, notes_of}
use Rattle.gnap_model.specs.Common.{Text, AreDistinct, same_text}
use Rattle.gnap_model.specs.Limits.{wrong_limit}
use Rattle.gnap_model.specs.declared.rights.Right.{Right}
use Rattle.gnap_model.specs.declared.objects.Binding.{Binding}
use Rattle.gnap_model.specs.declared.objects.ErrorCode.{ErrorCode}
use Rattle.gnap_model.specs.Keys.{key_of, server_names}
use Rattle.gnap_model.specs.Judging.{serves_all, active}
use Rattle.gnap_model.specs.Standing.{grant_state, wrongs_of, round_by_code}
use Rattle.gnap_model.specs.Standing.GrantState.{IsPending}
use Rattle.gnap_model.specs.declared.notes.RoundNote.{RoundNote}
use Rattle.gnap_model.specs.declared.notes.Note.TheVariants.{Pended}
use Rattle.gnap_model.specs.declared.calls.Call.TheVariants.{Introspect}
use Rattle.gnap_laws.specs.Laws.{IsWithinLimits}
use Rattle.gnap_laws.specs.Provenance.{is_active, tells_all, drawn_by, presented_door, uses_up, IsOnce}
use Rattle.gnap_model.specs.declared.objects.Setup.{Setup}
use Rattle.gnap_model.specs.declared.calls.TokenOut.{TokenOut}
use Rattle.gnap_model.specs.declared.calls.Reply.{Reply}
use Rattle.gnap_model.specs.declared.calls.Reply.TheVariants.{Error}
use Rattle.gnap_model.specs.declared.objects.ErrorCode.TheVariants.{InvalidClient, InvalidContinuation}
use Rattle.gnap_laws.specs.Refusals.{caller, HasCause}
use Rattle.gnap_laws.specs.BoundKeys.{RotatesTo, IsBoundTo}
use Rattle.gnap_model.specs.Legal.{HasFewAsks}
use Rattle.signed_calls.specs.Marks.{Mark, SignedEvent, is_remembered, plain_notes, signed_law}
use Rattle.signed_calls.specs.PlainPast.{IsPlain, is_refused_after, is_refused, bare_past}

-- Each legal history of the machine with marks is, entry by entry, one of the machine without.
abbrev pub PlainHistories : Type 0
PlainHistories = (rules : Setup) (history : List SignedEvent) → Legal signed_law rules history → IsPlain HasFewAsks rules (reverse history)

abbrev pub is_mark : Mark → Option Mark → Bool
is_mark mark None = false
is_mark mark (Some other) = same_text other.nonce mark.nonce && (other.created == mark.created)

abbrev pub is_invalid_client : Reply → Bool
is_invalid_client (Error InvalidClient) = true
is_invalid_client _ = false

-- The entry's call has this key and mark, is neither a cancellation nor a revocation, and is answered otherwise than by invalid_client.
abbrev pub passes_with : Text → Mark → SignedEvent → Bool
passes_with key mark entry = is_remembered entry.call.call && same_text (caller entry.call.call) key && is_mark mark entry.call.mark
    && not (is_invalid_client entry.reply)

-- at most one entry passes with the key and the mark
abbrev pub IsMarkOnce : Text → Mark → List SignedEvent → Type 0
IsMarkOnce key mark [] = Unit {0}
IsMarkOnce key mark (entry ∷ past) =
    (passes_with key mark entry ≡ true → list_any (passes_with key mark) past ≡ true → ⊥) × IsMarkOnce key mark past

abbrev pub MarksPassOnce : Type 0
MarksPassOnce = (rules : Setup) (history : List SignedEvent) (key : Text) (mark : Mark) → Legal signed_law rules history
    → IsMarkOnce key mark (reverse history)

-- after the value was used up, an entry that presents it is refused: by its mark, or by the value
abbrev pub IsRefusedSince : Text → List SignedEvent → Type 0
IsRefusedSince value [] = Unit {0}
IsRefusedSince value (entry ∷ past) =
    (list_any (uses_up value) (bare_past past) ≡ true → presented_door entry.call.call ≡ Some value
    → entry.reply ≡ Error (if is_refused past entry then InvalidClient else InvalidContinuation)) × IsRefusedSince value past

-- the mark is refused, or the call has its own cause of the code
abbrev pub HasSignedCause : Setup → List SignedEvent → SignedEvent → ErrorCode → Type 0
HasSignedCause rules before e code =
    ((is_refused_after before e ≡ true) × (code ≡ InvalidClient))
    ⊎ ((is_refused_after before e ≡ false)
    × HasCause rules (reverse (plain_notes (notes_of before))) (now before e.moment) e.call.call code)

-- After the entries before it an introspection whose mark isn't refused is answered Active exactly where the server serves every right that it asks
-- about, and the value is a live token's that suits it (RFC 9767, section 3.3).
abbrev pub SaysActiveAt : Setup → List SignedEvent → SignedEvent → Type 0
SaysActiveAt rules before e = (server value : Text) (binding : Option Binding) (wanted : Option (List Right))
    → is_refused_after before e ≡ false → e.call.call ≡ Introspect server value binding wanted
    → is_active e.reply ≡ (serves_all (server_names (key_of rules server)) wanted
    && active rules (reverse (plain_notes (notes_of before))) (now before e.moment) server value binding wanted)

-- What holds of a legal history of the machine with marks that has at most 2 ^ 58 entries.
pub record SignedHolds (rules : Setup) (h : List SignedEvent) : Type 0 where
  -- an introspection is answered Active exactly where requests and replies alone show a token that serves
  pub tells : tells_all rules (bare_past (reverse h)) ≡ true
  pub says_active : (before : List SignedEvent) (e : SignedEvent) (after : List SignedEvent) → h ≡ before ++ e ∷ after → SaysActiveAt rules before e
  -- an error reply has the cause that belongs to its code (RFC 9635, section 3.6)
  pub have_causes : (before : List SignedEvent) (e : SignedEvent) (after : List SignedEvent) (code : ErrorCode) → h ≡ before ++ e ∷ after
      → e.reply ≡ Error code → HasSignedCause rules before e code
  -- all values that the replies draw differ
  pub values_differ : AreDistinct (drawn_by (bare_past (reverse h)))
  -- a continuation value succeeds at most once, and is refused after it was used up (RFC 9635, section 5)
  pub values_once : (value : Text) → IsOnce value (bare_past (reverse h)) × IsRefusedSince value (reverse h)
  -- at most 65,536 grants and 65,536 tokens are live, at each moment from the greatest one on
  pub within_limits : (moment : ℕ) → now h 0 ≤ moment → IsWithinLimits (reverse (plain_notes (notes_of h))) moment
  -- in a round that goes on fewer than five interaction references were wrong (RFC 9635, section 5.1)
  pub few_wrong : (moment grant : ℕ) (round : RoundNote) → grant_state (reverse (plain_notes (notes_of h))) grant moment ≡ IsPending round
      → wrongs_of (reverse (plain_notes (notes_of h))) grant < wrong_limit
  -- the user code of a new round is that of no live interaction (RFC 9635, section 3.3.3)
  pub codes_are_free : (before : List SignedEvent) (e : SignedEvent) (after : List SignedEvent) (round : RoundNote) (code : Text)
      → h ≡ before ++ e ∷ after → Contains (plain_notes e.notes) (Pended round) → round.code ≡ Some code
      → round_by_code (reverse (plain_notes (notes_of before))) (now before e.moment) code ≡ None
  -- after a rotation that named a key every introspection tells the new token's key as that, and no other key rotates or revokes it (RFC 9635,
  -- section 6.1.1)
  pub keys_bind : (before : List SignedEvent) (e : SignedEvent) (after : List SignedEvent) (rotation : SignedEvent) (token : TokenOut) (key : Text)
      → h ≡ before ++ e ∷ after → Contains before rotation → RotatesTo rotation.call.call rotation.reply token key
      → IsBoundTo (reverse (plain_notes (notes_of before))) (now before e.moment) e.call.call e.reply token key
  -- of the entries with one key and mark, neither cancellations nor revocations, at most one is answered otherwise than by invalid_client
  pub marks_once : (key : Text) (mark : Mark) → IsMarkOnce key mark (reverse h)

abbrev pub SignedHistoriesHold : Type 0
SignedHistoriesHold = (rules : Setup) (history : List SignedEvent) → Legal signed_law rules history → length history ≤ 2 ^ 58
    → SignedHolds rules history
