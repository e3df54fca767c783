-- A reference is sent only with the hash of the interaction.
use Rattle.std.proofs.Common.{◌≡◌, ◌⊎◌, inl, inr, ◌∙◌, ℕ, List, [], ◌∷◌, Bool, true, false, refl, sym, ap}
use Rattle.std.specs.Prelude.{if◌then◌else◌, IsSome, Option, Some, None, Ok, Err}
use Rattle.std.specs.Option.{option_or, option_flatten, option_and_then}
use Rattle.std.specs.Str.{bytes_eq}
use Rattle.std.proofs.lemmas.Slice.Eq.{bytes_eq-Decides}
use Rattle.gnap_model.specs.declared.objects.Finish.{Finish}
use Rattle.reply_readers.specs.declared.grant_reply.Interaction.{Interaction}
use Rattle.reply_readers.specs.declared.grant_reply.GrantReply.TheVariants as replies
use Rattle.gnap_objects.proofs.ReadParts.{bind_ok}
use Rattle.gnap_client.specs.declared.calls.DueRequest.{DueRequest}
use Rattle.gnap_client.specs.declared.client.State.{State}
use Rattle.gnap_client.specs.declared.client.Asked.{Asked}
use Rattle.gnap_client.specs.declared.client.Client.{Client}
use Rattle.gnap_client.specs.declared.client.Received.{Received}
use Rattle.gnap_client.specs.declared.client.ReadReply.{ReadReply}
use Rattle.gnap_client.specs.declared.client.ReadReply.TheVariants.{Given, Resource}
use Rattle.gnap_client.specs.declared.config.ClientConfig.{ClientConfig}
use Rattle.gnap_client.specs.declared.client.ClientFault.TheVariants as faults
use Rattle.gnap_client.specs.Received.{finish_of}
use Rattle.gnap_client.specs.Calls.{is_pending, nonce_of, both_of, awaits, awaited, awaited_hash, checked_hash, own_hash, finish_call}
use Rattle.gnap_client.specs.Laws.{last_told, pending_told, interaction_told, FinishesByHash}
use Rattle.gnap_client.proofs.Memory.{finish_is_last_law, interaction_is_last_law}

-- ---- the last Pending reply, where no Granted one came later

none_told : (reply : Asked × ReadReply) → interaction_told reply ≡ None → pending_told reply ≡ None
none_told (asked, Given (replies.Granted door tokens subject)) e = refl
none_told (asked, Given (replies.Pending door interaction)) e = cc
none_told (asked, Given (replies.Continuing door)) e = refl
none_told (asked, Given (replies.Rotated token)) e = refl
none_told (asked, Given replies.Done) e = refl
none_told (asked, Given (replies.Refused code)) e = refl
none_told (asked, Resource status body) e = refl

same_told : (reply : Asked × ReadReply) (interaction : Interaction) → interaction_told reply ≡ Some (Some interaction)
    → pending_told reply ≡ Some (finish_of reply.0, interaction)
same_told (asked, Given (replies.Granted door tokens subject)) interaction e = cc
same_told (asked, Given (replies.Pending door shown)) interaction e = cc
same_told (asked, Given (replies.Continuing door)) interaction e = cc
same_told (asked, Given (replies.Rotated token)) interaction e = cc
same_told (asked, Given replies.Done) interaction e = cc
same_told (asked, Given (replies.Refused code)) interaction e = cc
same_told (asked, Resource status body) interaction e = cc

no_some : {A : Type 0} (o : Option A) → o ≡ None → IsSome o → ⊥
no_some None e is = cc
no_some (Some x) e is = cc

or_cases : {A : Type 0} (later told : Option A) (x : Option A) → option_or later told ≡ x → ((later ≡ None) × (told ≡ x)) ⊎ ((later ≡ x) × IsSome later)
or_cases None told x e = inl (refl, e)
or_cases (Some y) told x e = inr (e, refl)

no_interaction : (taken : List (Asked × ReadReply)) → last_told interaction_told taken ≡ None → last_told pending_told taken ≡ None
no_interaction [] e = refl
no_interaction (reply ∷ taken) e = by (no_interaction taken) (or_cases (last_told interaction_told taken) (interaction_told reply) None e)
  where
    by : (last_told interaction_told taken ≡ None → last_told pending_told taken ≡ None)
        → ((last_told interaction_told taken ≡ None) × (interaction_told reply ≡ None))
        ⊎ ((last_told interaction_told taken ≡ None) × IsSome (last_told interaction_told taken))
        → option_or (last_told pending_told taken) (pending_told reply) ≡ None
    by before (inl (later, here)) = rw (before later) (none_told reply here)
    by before (inr (later, is)) = absurd (no_some (last_told interaction_told taken) later is)

-- the last reply that tells of an interaction is a Pending one, of this one
abbrev IsLastPending : List (Asked × ReadReply) → Interaction → Type 0
IsLastPending taken interaction = (finish : Option Finish) × (last_told pending_told taken ≡ Some (finish, interaction))

last_pending : (taken : List (Asked × ReadReply)) (interaction : Interaction) → last_told interaction_told taken ≡ Some (Some interaction)
    → IsLastPending taken interaction
last_pending [] interaction e = absurd (cc)
last_pending (reply ∷ taken) interaction e =
    by (last_pending taken interaction) (or_cases (last_told interaction_told taken) (interaction_told reply) (Some (Some interaction)) e)
  where
    kept : IsLastPending taken interaction → IsLastPending (reply ∷ taken) interaction
    kept (finish, is) = (finish, rw is refl)

    by : (last_told interaction_told taken ≡ Some (Some interaction) → IsLastPending taken interaction)
        → ((last_told interaction_told taken ≡ None) × (interaction_told reply ≡ Some (Some interaction)))
        ⊎ ((last_told interaction_told taken ≡ Some (Some interaction)) × IsSome (last_told interaction_told taken))
        → IsLastPending (reply ∷ taken) interaction
    by before (inl (later, here)) = (finish_of reply.0, rw (no_interaction taken later) (same_told reply interaction here))
    by before (inr (later, is)) = kept (before later)

flattened : (told : Option (Option Interaction)) (interaction : Interaction) → option_flatten told ≡ Some interaction → told ≡ Some (Some interaction)
flattened None interaction e = cc
flattened (Some o) interaction e = cc

-- ---- what finish asks

awaited_ok : (state : State) (o : Option (Finish × List ℕ)) (both : Finish × List ℕ) → awaited state o ≡ Ok both → o ≡ Some both
awaited_ok state None both e = cc
awaited_ok state (Some x) both e = cc

checked_ok : (wanted hash same : List ℕ) → checked_hash wanted hash ≡ Ok same → bytes_eq wanted hash ≡ true
checked_ok wanted hash same e = by (bytes_eq wanted hash) e
  where
    by : (b : Bool) → (if b then Ok wanted else Err (faults.HashDiffers wanted hash)) ≡ Ok same → b ≡ true
    by true e = refl
    by false e = cc

both_some : (finish : Option Finish) (nonce : Option (List ℕ)) (both : Finish × List ℕ) → both_of finish nonce ≡ Some both
    → (finish ≡ Some both.0) × (nonce ≡ Some both.1)
both_some None None both e = cc
both_some None (Some n) both e = cc
both_some (Some f) None both e = cc
both_some (Some f) (Some n) both e =
    let same : ◌≡◌ {A = Finish × List ℕ} (f, n) both = cc in
    (ap (λ (p : Finish × List ℕ). Some p.0) same, ap (λ (p : Finish × List ℕ). Some p.1) same)

awaits_some : (r : Received) (both : Finish × List ℕ) → awaits r ≡ Some both → both_of r.finish (nonce_of r.interaction) ≡ Some both
awaits_some r both e = by (is_pending r.state) e
  where
    by : (b : Bool) → (if b then both_of r.finish (nonce_of r.interaction) else None) ≡ Some both
        → both_of r.finish (nonce_of r.interaction) ≡ Some both
    by true e = e
    by false e = cc

nonce_some : (o : Option Interaction) (nonce : List ℕ) → nonce_of o ≡ Some nonce
    → (interaction : Interaction) × (o ≡ Some interaction) × (interaction.nonce ≡ Some nonce)
nonce_some None nonce e = cc
nonce_some (Some interaction) nonce e = (interaction, refl, e)

-- what holds of the client where the request is due
record IsDue (c : Client) (hash reference : List ℕ) : Type 0 where
  both : Finish × List ℕ
  awaits_it : awaits c.received ≡ Some both
  same : awaited_hash c.config.server both reference ≡ hash

finish_due : (c : Client) (hash reference : List ℕ) (request : DueRequest) → finish_call c hash reference ≡ Ok request → IsDue c hash reference
unfolding finish_call
finish_due c hash reference request e =
    let own = bind_ok (own_hash c hash reference) _ request e in
    let waits = bind_ok (awaited c.received.state (awaits c.received)) _ own.0 own.1 in
    record {
      both = waits.0;
      awaits_it = awaited_ok c.received.state (awaits c.received) waits.0 waits.1;
      same = (bytes_eq-Decides (awaited_hash c.config.server waits.0 reference) hash).0
          (checked_ok (awaited_hash c.config.server waits.0 reference) hash own.0 waits.2);
    }

pub finishes_by_hash_law : FinishesByHash
finishes_by_hash_law config taken old new now nonce hash reference bytes fits asks =
    let due = finish_due old hash reference asks.request asks.is_due in
    let both = both_some old.received.finish (nonce_of old.received.interaction) due.both (awaits_some old.received due.both due.awaits_it) in
    let shown = nonce_some old.received.interaction due.both.1 both.1 in
    let held : old.received.interaction ≡ option_flatten (last_told interaction_told taken) =
    ap (λ (r : Received). r.interaction) fits.received_is ∙ interaction_is_last_law taken in
    let last = last_pending taken shown.0 (flattened (last_told interaction_told taken) shown.0 (sym held ∙ shown.1)) in
    let wanted : old.received.finish ≡ option_and_then (λ (t : Option Finish × Interaction). t.0) (last_told pending_told taken) =
    ap (λ (r : Received). r.finish) fits.received_is ∙ finish_is_last_law taken in
    let finish : last.0 ≡ Some due.both.0 =
    sym (wanted ∙ ap (option_and_then (λ (t : Option Finish × Interaction). t.0)) last.1) ∙ both.0 in
    record {
      finish = due.both.0;
      interaction = shown.0;
      nonce = due.both.1;
      pending = last.1 ∙ ap (λ (f : Option Finish). Some (f, shown.0)) finish;
      server_nonce = shown.2;
      is = sym due.same ∙ ap (λ (c : ClientConfig). awaited_hash c.server due.both reference) fits.config_is;
    }
