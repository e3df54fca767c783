-- What a client holds is the fold of the replies that it took.
use Rattle.std.proofs.Common.{◌≡◌, ◌∙◌, ℕ, List, [], ◌∷◌, ◌++◌, sym, ap, append-nil, subst}
use Rattle.std.specs.Prelude.{Result, Ok, Err}
use Rattle.std.proofs.lemmas.List.Sums.{fold-append}
use Rattle.gnap_client.specs.declared.config.ClientConfig.{ClientConfig}
use Rattle.gnap_client.specs.declared.client.Asked.{Asked}
use Rattle.gnap_client.specs.declared.client.Received.{Received}
use Rattle.gnap_client.specs.declared.client.Took.{Took}
use Rattle.gnap_client.specs.declared.client.ReadReply.{ReadReply}
use Rattle.gnap_client.specs.declared.client.ClientFault.{ClientFault}
use Rattle.gnap_client.specs.declared.client.ClientFault.TheVariants as faults
use Rattle.gnap_client.specs.declared.client.Client.{Client}
use Rattle.gnap_client.specs.Received.{nothing_received, after_read, ClientFits}
use Rattle.gnap_client.specs.Taking.{Takes, HasTaken}
use Rattle.gnap_client.specs.Laws.{CallsFit, RepliesFit, IsUntaken, TakesMore, one, none}

-- a client that holds the same
kept : (config : ClientConfig) (taken : List (Asked × ReadReply)) (old new : Client) → ClientFits config taken old
    → new.config ≡ old.config → new.received ≡ old.received → ClientFits config taken new
kept config taken old new fits same_config same_held = record { config_is = same_config ∙ fits.config_is; received_is = same_held ∙ fits.received_is }

unchanged : (config : ClientConfig) (taken : List (Asked × ReadReply)) (old new : Client) → ClientFits config taken old → new ≡ old
    → ClientFits config taken new
unchanged config taken old new fits same = kept config taken old new fits (ap (λ (c : Client). c.config) same) (ap (λ (c : Client). c.received) same)

pub calls_fit_law : CallsFit
calls_fit_law config taken old new due now nonce (Ok bytes) fits asked =
    kept config taken old new fits (ap (λ (c : Client). c.config) asked.leaves) (ap (λ (c : Client). c.received) asked.leaves)
calls_fit_law config taken old new due now nonce (Err fault) fits asked = unchanged config taken old new fits asked.1

More : ClientConfig → List (Asked × ReadReply) → Client → Client → List ℕ → Result Took ClientFault → Type 0
More config taken old new bytes result = (more : List (Asked × ReadReply)) × TakesMore old bytes result more × ClientFits config (taken ++ more) new

with_one : (config : ClientConfig) (taken : List (Asked × ReadReply)) (old new : Client) (bytes : List ℕ) (result : Result Took ClientFault)
    → ClientFits config taken old → Takes old bytes new result → More config taken old new bytes result
unfolding More
with_one config taken old new bytes result fits t = (
  (t.asked, t.reading) ∷ [],
  one t.asked t.reading t.outstanding t.reads t.answer,
  record {
    config_is = ap (λ (c : Client). c.config) t.leaves ∙ fits.config_is;
    received_is = ap (λ (c : Client). c.received) t.leaves ∙ ap (λ (h : Received). after_read h (t.asked, t.reading)) fits.received_is
        ∙ sym (fold-append after_read nothing_received taken ((t.asked, t.reading) ∷ []));
  },
)

with_none : (config : ClientConfig) (taken : List (Asked × ReadReply)) (old new : Client) (bytes : List ℕ) (result : Result Took ClientFault)
    → IsUntaken result → ClientFits config taken old → new ≡ old → More config taken old new bytes result
unfolding More
with_none config taken old new bytes result untaken fits same = (
  [],
  none untaken,
  subst (λ (ts : List (Asked × ReadReply)). ClientFits config ts new) (sym (append-nil taken)) (unchanged config taken old new fits same),
)

by_answer : (config : ClientConfig) (taken : List (Asked × ReadReply)) (old new : Client) (bytes : List ℕ) (result : Result Took ClientFault)
    → ClientFits config taken old → HasTaken old bytes new result → More config taken old new bytes result
by_answer config taken old new bytes (Ok took) fits t = with_one config taken old new bytes (Ok took) fits t
by_answer config taken old new bytes (Err (faults.Refused code)) fits t = with_one config taken old new bytes (Err (faults.Refused code)) fits t
by_answer config taken old new bytes (Err faults.NotInGrammar) fits t = with_none config taken old new bytes (Err faults.NotInGrammar) tt fits t.same
by_answer config taken old new bytes (Err (faults.WrongState state)) fits t = with_none config taken old new bytes (Err (faults.WrongState state)) tt fits t.2
by_answer config taken old new bytes (Err faults.OutOfMemory) fits t = with_none config taken old new bytes (Err faults.OutOfMemory) tt fits t
by_answer config taken old new bytes (Err (faults.HashDiffers wanted found)) fits t = absurd t
by_answer config taken old new bytes (Err (faults.NoToken held)) fits t = absurd t
by_answer config taken old new bytes (Err faults.LinkFault) fits t = absurd t

pub replies_fit_law : RepliesFit
unfolding More
replies_fit_law config taken old new bytes result fits t = by_answer config taken old new bytes result fits t
