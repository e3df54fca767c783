-- Why a call is refused, code by code (RFC 9635, section 3.6; RFC 9767, section 3.5): what holds of the call and of the notes before it where it is
-- answered with an error. The trail has the newest note first.
use Rattle.std.specs.Prelude.{ℕ, ◌≡◌, ◌≢◌, ◌≤◌, ◌<◌, ◌+◌, ◌⊎◌, List, [], length, is_some, IsTrue, IsFalse}
use Rattle.std.specs.declared.option.Option.TheVariants.{None, Some}
use Rattle.gnap_model.specs.Common.{Text, first_of}
use Rattle.gnap_model.specs.Limits.{wrong_limit, live_limit}
use Rattle.gnap_model.specs.Rights.{covers}
use Rattle.gnap_model.specs.Asked.{asked_rights}
use Rattle.gnap_laws.specs.Types.{Verdict, Setup, Call, ErrorCode, OpeningNote, TermsNote, RoundNote, DecisionNote, TokenNote, Note}
use Rattle.gnap_model.specs.declared.objects.Verdict.TheVariants.{Grant, Deny, Unknown}
use Rattle.gnap_model.specs.Keys.{key_of, is_client, server_names}
use Rattle.gnap_model.specs.declared.calls.Call.TheVariants.{Begin, Introspect, Look, FindCode, Decide, Continue, Modify, Cancel, Rotate, Revoke, Lapse}
use Rattle.gnap_model.specs.declared.objects.ErrorCode.TheVariants.{InvalidRequest, InvalidClient, InvalidInteraction, InvalidRotation, InvalidContinuation, UserDenied, RequestDenied, UnknownUser, UnknownInteraction, TooFast, TooManyAttempts, InvalidAccess}
use Rattle.gnap_model.specs.Standing.{grant_state, named_grant, earliest_in, decision_of, wrongs_of, terms_of, consent_of, live_grants, live_tokens, managed_token, is_live, round_by_handle, round_by_code}
use Rattle.gnap_model.specs.Standing.GrantState.{IsPending, IsApproved}
use Rattle.gnap_model.specs.Judging.{settle, serves_all}
use Rattle.gnap_model.specs.Judging.Settled.{AtOnce, Never}
use Rattle.gnap_model.specs.Continue.{decided_asks, is_wrong}
use Rattle.gnap_model.specs.Change.{other_live_tokens}
use Rattle.gnap_model.specs.Front.{rights_or}

-- ---- what several causes speak of

-- who makes the call
abbrev pub caller : Call → Text
caller (Begin key request not_after) = key
caller (Continue key value reference) = key
caller (Modify key value request) = key
caller (Cancel key value) = key
caller (Rotate key value new_key) = key
caller (Revoke key value) = key
caller (Introspect server value binding wanted) = server
caller (Look front handle) = front
caller (FindCode front code) = front
caller (Decide front request) = front
caller Lapse = []

-- the continuation value names the grant, which is pending in the round
abbrev pub NamesRound : List Note → ℕ → Text → OpeningNote → RoundNote → Type 0
NamesRound trail now value opening round = (named_grant trail now value ≡ Some opening) × (grant_state trail opening.grant now ≡ IsPending round)

-- the same, and the round was decided so
abbrev pub NamesDecision : List Note → ℕ → Text → OpeningNote → DecisionNote → Verdict → Type 0
NamesDecision trail now value opening decision verdict = ((round : RoundNote) × NamesRound trail now value opening round)
    × (decision_of trail opening.grant ≡ Some decision) × (decision.verdict ≡ verdict)

-- the continuation value names a grant of this key
abbrev pub NamesGrantOf : List Note → ℕ → Text → (owner : Text) → Type 0
NamesGrantOf trail now value owner = (opening : OpeningNote) × (named_grant trail now value ≡ Some opening) × (opening.key ≡ owner)

-- the management value names a token of this key
abbrev pub NamesTokenOf : List Note → ℕ → Text → (owner : Text) → Type 0
NamesTokenOf trail now value owner = (token : TokenNote) × (managed_token trail now value ≡ Some token) × (token.key ≡ owner)

-- this key's is the grant, or the token, that is named by the value which the call presents
abbrev pub IsOwner : List Note → ℕ → Call → (owner : Text) → Type 0
IsOwner trail now (Continue key value reference) owner = NamesGrantOf trail now value owner
IsOwner trail now (Modify key value request) owner = NamesGrantOf trail now value owner
IsOwner trail now (Cancel key value) owner = NamesGrantOf trail now value owner
IsOwner trail now (Rotate key value new_key) owner = NamesTokenOf trail now value owner
IsOwner trail now (Revoke key value) owner = NamesTokenOf trail now value owner
IsOwner trail now _ owner = ⊥

-- so many tokens more would be more than may be live
abbrev pub AreTooMany : List TokenNote → ℕ → Type 0
AreTooMany live more = live_limit < length live + more

-- ---- the cause of each code

-- invalid_client: the call presents a value of a grant or of a token, and its key isn't that grant's or that token's
abbrev pub HasAnotherKey : List Note → ℕ → Call → Type 0
HasAnotherKey trail now call = (owner : Text) × IsOwner trail now call owner × (owner ≢ caller call)

-- invalid_request: a poll in a round whose end is told by a reference; a revocation whose value names no token; a decision that grants more than was asked
abbrev pub IsOutOfPlace : List Note → ℕ → Call → Type 0
IsOutOfPlace trail now (Continue key value reference) = (opening : OpeningNote) × (round : RoundNote)
    × NamesRound trail now value opening round × (reference ≡ None) × IsTrue (is_some round.modes.finish)
IsOutOfPlace trail now (Revoke key value) = managed_token trail now value ≡ None
IsOutOfPlace trail now (Decide front request) = (round : RoundNote) × (terms : TermsNote)
    × (round_by_handle trail now request.handle ≡ Some round) × (terms_of trail round.grant ≡ Some terms)
    × (request.verdict ≡ Grant) × IsFalse (covers (asked_rights terms.asks) (rights_or (asked_rights terms.asks) request.rights))
IsOutOfPlace trail now _ = ⊥

-- invalid_access: an introspection asks about a right that the server doesn't serve
abbrev pub AsksUnserved : Setup → Call → Type 0
AsksUnserved rules (Introspect server value binding wanted) = IsFalse (serves_all (server_names (key_of rules server)) wanted)
AsksUnserved rules _ = ⊥

-- invalid_continuation: the continuation value that is presented names no grant
abbrev pub NamesNoGrant : List Note → ℕ → Call → Type 0
NamesNoGrant trail now (Continue key value reference) = named_grant trail now value ≡ None
NamesNoGrant trail now (Modify key value request) = named_grant trail now value ≡ None
NamesNoGrant trail now (Cancel key value) = named_grant trail now value ≡ None
NamesNoGrant trail now _ = ⊥

-- too_many_attempts: a reference for a grant that is approved, or the fifth wrong one of a round
abbrev pub TriesTooOften : List Note → ℕ → Call → Type 0
TriesTooOften trail now (Continue key value reference) =
    ((opening : OpeningNote) × (named_grant trail now value ≡ Some opening)
    × (grant_state trail opening.grant now ≡ IsApproved) × IsTrue (is_some reference))
    ⊎ ((opening : OpeningNote) × (round : RoundNote) × NamesRound trail now value opening round
    × IsTrue (is_wrong reference (decision_of trail opening.grant)) × (wrongs_of trail opening.grant + 1 ≡ wrong_limit))
TriesTooOften trail now _ = ⊥

-- too_fast: a poll before the moment that was set with the continuation value
abbrev pub PollsTooSoon : List Note → ℕ → Call → Type 0
PollsTooSoon trail now (Continue key value reference) = (opening : OpeningNote) × (earliest : ℕ)
    × (named_grant trail now value ≡ Some opening) × (reference ≡ None)
    × (first_of (earliest_in opening.grant) trail ≡ Some earliest) × (now < earliest)
PollsTooSoon trail now _ = ⊥

-- invalid_interaction: the time for the decision is over and there is none, or one of the first four wrong references of a round
abbrev pub LacksInteraction : List Note → ℕ → Call → Type 0
LacksInteraction trail now (Continue key value reference) = (opening : OpeningNote) × (round : RoundNote)
    × NamesRound trail now value opening round
    × (((decision_of trail opening.grant ≡ None) × (round.until ≤ now))
    ⊎ (IsTrue (is_wrong reference (decision_of trail opening.grant)) × (wrongs_of trail opening.grant + 1 < wrong_limit)))
LacksInteraction trail now _ = ⊥

-- user_denied, unknown_user: the round's decision is such
abbrev pub CollectsRefusal : List Note → ℕ → Call → Verdict → Type 0
CollectsRefusal trail now (Continue key value reference) verdict = (opening : OpeningNote) × (decision : DecisionNote)
    × NamesDecision trail now value opening decision verdict
CollectsRefusal trail now _ verdict = ⊥

-- request_denied: neither the client's rights nor the user can grant what is asked; the grant would have ended; as many grants are live as may be; too
-- many tokens would be live
abbrev pub IsDenied : Setup → List Note → ℕ → Call → Type 0
IsDenied rules trail now (Begin key request not_after) =
    (settle rules key [] request ≡ Never)
    ⊎ ((end : ℕ) × (not_after ≡ Some end) × (end ≤ now))
    ⊎ (live_grants trail now ≡ live_limit)
    ⊎ ((settle rules key [] request ≡ AtOnce) × AreTooMany (live_tokens trail now) (length request.asks))
IsDenied rules trail now (Modify key value request) = (opening : OpeningNote) × (named_grant trail now value ≡ Some opening)
    × ((settle rules opening.key (consent_of trail opening.grant) request ≡ Never)
    ⊎ ((settle rules opening.key (consent_of trail opening.grant) request ≡ AtOnce)
    × AreTooMany (other_live_tokens trail now opening) (length request.asks)))
IsDenied rules trail now (Continue key value reference) = (opening : OpeningNote) × (decision : DecisionNote) × (terms : TermsNote)
    × NamesDecision trail now value opening decision Grant × (terms_of trail opening.grant ≡ Some terms)
    × AreTooMany (live_tokens trail now) (length (decided_asks decision.rights terms))
IsDenied rules trail now _ = ⊥

-- unknown_interaction: no live interaction has the handle or the code
abbrev pub FindsNoInteraction : List Note → ℕ → Call → Type 0
FindsNoInteraction trail now (Look front handle) = round_by_handle trail now handle ≡ None
FindsNoInteraction trail now (FindCode front code) = round_by_code trail now code ≡ None
FindsNoInteraction trail now (Decide front request) = round_by_handle trail now request.handle ≡ None
FindsNoInteraction trail now _ = ⊥

-- invalid_rotation: the management value that is presented names no token, or one that isn't live; or the token's own key asks that a live bearer token be
-- bound to a key, or a live token to a key that isn't a client's
abbrev pub RotatesNothing : Setup → List Note → ℕ → Call → Type 0
RotatesNothing rules trail now (Rotate key value new_key) = (managed_token trail now value ≡ None)
    ⊎ ((token : TokenNote) × (managed_token trail now value ≡ Some token) × IsFalse (is_live trail now token))
    ⊎ ((token : TokenNote) × (named : Text) × (managed_token trail now value ≡ Some token) × IsTrue (is_live trail now token)
    × (token.key ≡ key) × (new_key ≡ Some named) × (IsTrue token.bearer ⊎ IsFalse (is_client (key_of rules named))))
RotatesNothing rules trail now _ = ⊥

-- the cause of a code; the machine gives no other
abbrev pub HasCause : Setup → List Note → ℕ → Call → ErrorCode → Type 0
HasCause rules trail now call InvalidClient = HasAnotherKey trail now call
HasCause rules trail now call InvalidRequest = IsOutOfPlace trail now call
HasCause rules trail now call InvalidAccess = AsksUnserved rules call
HasCause rules trail now call InvalidContinuation = NamesNoGrant trail now call
HasCause rules trail now call TooManyAttempts = TriesTooOften trail now call
HasCause rules trail now call TooFast = PollsTooSoon trail now call
HasCause rules trail now call InvalidInteraction = LacksInteraction trail now call
HasCause rules trail now call UserDenied = CollectsRefusal trail now call Deny
HasCause rules trail now call UnknownUser = CollectsRefusal trail now call Unknown
HasCause rules trail now call RequestDenied = IsDenied rules trail now call
HasCause rules trail now call UnknownInteraction = FindsNoInteraction trail now call
HasCause rules trail now call InvalidRotation = RotatesNothing rules trail now call
HasCause rules trail now call _ = ⊥
