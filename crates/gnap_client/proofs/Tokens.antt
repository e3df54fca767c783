-- Which tokens a client holds.
use Rattle.std.proofs.Common.{◌≡◌, ◌≢◌, ◌⊎◌, inl, inr, ◌∙◌, ℕ, zero, suc, ◌<◌, List, [], ◌∷◌, length, Bool, true, false, refl, ap, arith}
use Rattle.std.specs.Prelude.{fold, nat_lt, ◌==◌, ◌≤◌, slice_get, slice_set, if◌then◌else◌, IsSome, Option, Some, None}
use Rattle.std.specs.Option.{option_or, unwrap_or}
use Rattle.std.proofs.lemmas.Bool.{eqb-true, eqb-false, ltb-true, ltb-false}
use Rattle.std.proofs.lemmas.List.{length-set}
use Rattle.std.proofs.lemmas.Option.{slice_get_past}
use Rattle.gnap_model.specs.Common.{some_if}
use Rattle.gnap_model.specs.declared.calls.TokenOut.{TokenOut}
use Rattle.reply_readers.specs.declared.grant_reply.GrantReply.TheVariants as replies
use Rattle.gnap_client.specs.declared.client.State.TheVariants as states
use Rattle.gnap_client.specs.declared.client.Asked.{Asked}
use Rattle.gnap_client.specs.declared.client.Asked.TheVariants as asks
use Rattle.gnap_client.specs.declared.client.Received.{Received}
use Rattle.gnap_client.specs.declared.client.ReadReply.{ReadReply}
use Rattle.gnap_client.specs.declared.client.ReadReply.TheVariants.{Given, Resource}
use Rattle.gnap_client.specs.Received.{nothing_received, is_end, after_reply, after_read, replaced, rotated, received_after}
use Rattle.gnap_client.specs.Laws.{last_told, count_told, token_told, TokensAreCounted, TokensAreLast, PendingHasNoToken}
use Rattle.gnap_client.proofs.Memory.{told_last}

-- ---- how many

length-replaced : (ts : List TokenOut) (i : ℕ) (token : TokenOut) → length (replaced ts i token) ≡ length ts
length-replaced ts i token = by (nat_lt i (length ts))
  where
    by : (b : Bool) → length (if b then slice_set ts i token else ts) ≡ length ts
    by true = length-set ts i token
    by false = refl

length-rotated : (asked : Asked) (ts : List TokenOut) (token : TokenOut) → length (rotated asked ts token) ≡ length ts
length-rotated (asks.Grant finish) ts token = refl
length-rotated asks.Continuation ts token = refl
length-rotated asks.Cancellation ts token = refl
length-rotated (asks.Rotation i) ts token = length-replaced ts i token
length-rotated asks.Revocation ts token = refl
length-rotated asks.Resource ts token = refl

ended_tokens : (r : Received) (b : Bool) → (if b then record r { state = states.Ended } else r).tokens ≡ r.tokens
ended_tokens r true = refl
ended_tokens r false = refl

count_step : (r : Received) (reply : Asked × ReadReply) → length (after_read r reply).tokens ≡ unwrap_or (count_told reply) (length r.tokens)
unfolding after_reply
count_step r (asked, Given (replies.Granted door tokens subject)) = refl
count_step r (asked, Given (replies.Pending door interaction)) = refl
count_step r (asked, Given (replies.Continuing door)) = refl
count_step r (asked, Given (replies.Rotated token)) = length-rotated asked r.tokens token
count_step r (asked, Given replies.Done) = refl
count_step r (asked, Given (replies.Refused code)) = ap (λ (ts : List TokenOut). length ts) (ended_tokens r (is_end code))
count_step r (asked, Resource status body) = refl

pub tokens_are_counted_law : TokensAreCounted
tokens_are_counted_law taken = told_last (λ (r : Received). length r.tokens) count_told count_step nothing_received taken

-- ---- which

-- what a write leaves at a place
get_same : (ts : List TokenOut) (j : ℕ) (token : TokenOut) → j < length ts → slice_get (slice_set ts j token) j ≡ Some token
get_same [] j token within = absurd (omega (arith, within))
get_same (t ∷ ts) zero token within = refl
get_same (t ∷ ts) (suc j) token within = get_same ts j token (omega (arith, within))

get_other : (ts : List TokenOut) (i j : ℕ) (token : TokenOut) → i ≢ j → slice_get (slice_set ts j token) i ≡ slice_get ts i
get_other [] i j token other = refl
get_other (t ∷ ts) zero zero token other = absurd (other refl)
get_other (t ∷ ts) (suc i) zero token other = refl
get_other (t ∷ ts) zero (suc j) token other = refl
get_other (t ∷ ts) (suc i) (suc j) token other = get_other ts i j token (λ e. other (ap suc e))

get-set : (ts : List TokenOut) (i j : ℕ) (token : TokenOut) → j < length ts
    → slice_get (slice_set ts j token) i ≡ option_or (some_if (i == j) token) (slice_get ts i)
get-set ts i j token within = by (i == j) refl
  where
    by : (b : Bool) → (i == j) ≡ b → slice_get (slice_set ts j token) i ≡ option_or (some_if b token) (slice_get ts i)
    by true e = rw (eqb-true i j e) (get_same ts j token within)
    by false e = get_other ts i j token (eqb-false i j e)

-- A reply leaves at a place what it told for it, or what was there; else it leaves nothing there.
abbrev Leaves : ℕ → Received → Asked × ReadReply → Type 0
Leaves i r reply =
    (slice_get (after_read r reply).tokens i ≡ option_or (token_told i reply) (slice_get r.tokens i)) ⊎ (slice_get (after_read r reply).tokens i ≡ None)

past : (ts : List TokenOut) (i j : ℕ) (token : TokenOut) → length ts ≤ j
    → (slice_get ts i ≡ option_or (some_if (i == j) token) (slice_get ts i)) ⊎ (slice_get ts i ≡ None)
past ts i j token beyond = by (i == j) refl
  where
    by : (b : Bool) → (i == j) ≡ b → (slice_get ts i ≡ option_or (some_if b token) (slice_get ts i)) ⊎ (slice_get ts i ≡ None)
    by true e = inr (slice_get_past ts i (omega (arith, beyond, eqb-true i j e)))
    by false e = inl refl

rotation_leaves : (ts : List TokenOut) (i j : ℕ) (token : TokenOut)
    → (slice_get (replaced ts j token) i ≡ option_or (some_if (i == j) token) (slice_get ts i)) ⊎ (slice_get (replaced ts j token) i ≡ None)
rotation_leaves ts i j token = by (nat_lt j (length ts)) refl
  where
    by : (b : Bool) → nat_lt j (length ts) ≡ b
        → (slice_get (if b then slice_set ts j token else ts) i ≡ option_or (some_if (i == j) token) (slice_get ts i))
        ⊎ (slice_get (if b then slice_set ts j token else ts) i ≡ None)
    by true e = inl (get-set ts i j token (ltb-true j (length ts) e))
    by false e = past ts i j token (ltb-false j (length ts) e)

rotated_leaves : (i : ℕ) (r : Received) (asked : Asked) (token : TokenOut) → Leaves i r (asked, Given (replies.Rotated token))
unfolding after_reply
rotated_leaves i r (asks.Grant finish) token = inl refl
rotated_leaves i r asks.Continuation token = inl refl
rotated_leaves i r asks.Cancellation token = inl refl
rotated_leaves i r (asks.Rotation j) token = rotation_leaves r.tokens i j token
rotated_leaves i r asks.Revocation token = inl refl
rotated_leaves i r asks.Resource token = inl refl

shown : (tokens : List TokenOut) (before : Option TokenOut) (i : ℕ)
    → (slice_get tokens i ≡ option_or (slice_get tokens i) before) ⊎ (slice_get tokens i ≡ None)
shown tokens before i = by (slice_get tokens i)
  where
    by : (o : Option TokenOut) → (o ≡ option_or o before) ⊎ (o ≡ None)
    by None = inr refl
    by (Some token) = inl refl

leaves : (i : ℕ) (r : Received) (reply : Asked × ReadReply) → Leaves i r reply
unfolding after_reply
leaves i r (asked, Given (replies.Granted door tokens subject)) = shown tokens (slice_get r.tokens i) i
leaves i r (asked, Given (replies.Pending door interaction)) = inr refl
leaves i r (asked, Given (replies.Continuing door)) = inl refl
leaves i r (asked, Given (replies.Rotated token)) = rotated_leaves i r asked token
leaves i r (asked, Given replies.Done) = inl refl
leaves i r (asked, Given (replies.Refused code)) = inl (ap (λ (ts : List TokenOut). slice_get ts i) (ended_tokens r (is_end code)))
leaves i r (asked, Resource status body) = inl refl

-- a token that is there in the end was there after the reply, or was handed out later
through : (final later told here before : Option TokenOut) → IsSome final → final ≡ option_or later here
    → (here ≡ option_or told before) ⊎ (here ≡ None) → final ≡ option_or (option_or later told) before
through final (Some token) told here before is e cases = e
through final None told here before is e (inl same) = e ∙ same
through final None told here before is e (inr none) = absurd (no_token final is (e ∙ none))
  where
    no_token : (o : Option TokenOut) → IsSome o → o ≡ None → ⊥
    no_token None is e = cc
    no_token (Some token) is e = cc

last_from : (r : Received) (taken : List (Asked × ReadReply)) (i : ℕ) → IsSome (slice_get (fold after_read r taken).tokens i)
    → slice_get (fold after_read r taken).tokens i ≡ option_or (last_told (token_told i) taken) (slice_get r.tokens i)
last_from r [] i is = refl
last_from r (reply ∷ taken) i is =
    through (slice_get (fold after_read r (reply ∷ taken)).tokens i) (last_told (token_told i) taken) (token_told i reply)
    (slice_get (after_read r reply).tokens i) (slice_get r.tokens i) is (last_from (after_read r reply) taken i is) (leaves i r reply)

within : (ts : List TokenOut) (i : ℕ) → i < length ts → IsSome (slice_get ts i)
within [] i h = absurd (omega (arith, h))
within (t ∷ ts) zero h = refl
within (t ∷ ts) (suc i) h = within ts i (omega (arith, h))

or_none : (x : Option TokenOut) → option_or x None ≡ x
or_none None = refl
or_none (Some y) = refl

pub tokens_are_last_law : TokensAreLast
tokens_are_last_law taken i h =
    last_from nothing_received taken i (within (received_after taken).tokens i h) ∙ or_none (last_told (token_told i) taken)

-- ---- none while the user is asked

abbrev HasNone : Received → Type 0
HasNone r = r.state ≡ states.Pending → r.tokens ≡ []

refused_none : (b : Bool) (r : Received) → HasNone r → HasNone (if b then record r { state = states.Ended } else r)
refused_none true r none = λ e. absurd (cc)
refused_none false r none = none

done_none : (asked : Asked) (r : Received) → HasNone r → HasNone (after_reply asked replies.Done r)
unfolding after_reply
done_none (asks.Grant finish) r none = none
done_none asks.Continuation r none = none
done_none asks.Cancellation r none = λ e. absurd (cc)
done_none (asks.Rotation token) r none = none
done_none asks.Revocation r none = none
done_none asks.Resource r none = none

no_tokens : (ts : List TokenOut) → length ts ≡ 0 → ts ≡ []
no_tokens [] e = refl
no_tokens (t ∷ ts) e = absurd (omega (arith, e))

rotated_none : (asked : Asked) (r : Received) (token : TokenOut) → HasNone r → HasNone (after_reply asked (replies.Rotated token) r)
unfolding after_reply
rotated_none asked r token none =
    λ e. no_tokens (rotated asked r.tokens token) (length-rotated asked r.tokens token ∙ ap (λ (ts : List TokenOut). length ts) (none e))

none_step : (r : Received) (asked : Asked) (reading : ReadReply) → HasNone r → HasNone (after_read r (asked, reading))
unfolding after_reply
none_step r asked (Given (replies.Granted door tokens subject)) none = λ e. absurd (cc)
none_step r asked (Given (replies.Pending door interaction)) none = λ e. refl
none_step r asked (Given (replies.Continuing door)) none = none
none_step r asked (Given (replies.Rotated token)) none = rotated_none asked r token none
none_step r asked (Given replies.Done) none = done_none asked r none
none_step r asked (Given (replies.Refused code)) none = refused_none (is_end code) r none
none_step r asked (Resource status body) none = none

none_steps : (taken : List (Asked × ReadReply)) (r : Received) → HasNone r → HasNone (fold after_read r taken)
none_steps [] r none = none
none_steps ((asked, reading) ∷ taken) r none = none_steps taken (after_read r (asked, reading)) (none_step r asked reading none)

pub pending_has_no_token_law : PendingHasNoToken
pending_has_no_token_law taken = none_steps taken nothing_received (λ e. absurd (cc))
