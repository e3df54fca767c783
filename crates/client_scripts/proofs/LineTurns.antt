-- One line's turn, put together.
use Rattle.std.proofs.Common.{◌≡◌, ◌⊎◌, inl, inr, ◌∙◌, ℕ, List, [], ◌++◌, Bool, true, false, refl, sym, ap, subst, append-nil}
use Rattle.std.specs.Prelude.{Option, Some, None, IfSome, Result, Ok, Err, ◌≢◌}
use Rattle.json_objects.specs.Reading.{Fails}
use Rattle.outside.specs.Links.{Exchange, LinkState, Exchanges}
use Rattle.outside.specs.declared.link.LinkFault.{LinkFault}
use Rattle.outside.specs.declared.link.LinkFault.TheVariants as link_faults
use Rattle.gnap_client.specs.declared.client.Took.{Took}
use Rattle.gnap_client.specs.declared.client.Client.{Client}
use Rattle.gnap_client.specs.declared.client.ClientFault.{ClientFault}
use Rattle.gnap_client.specs.declared.client.ClientFault.TheVariants as faults
use Rattle.client_scripts.specs.declared.deeds.ScriptStep.{ScriptStep}
use Rattle.client_scripts.specs.declared.line_faults.BadLine.{BadLine}
use Rattle.client_scripts.specs.declared.line_faults.LineFault.{LineFault}
use Rattle.client_scripts.specs.declared.turns.LineSaid.{LineSaid}
use Rattle.client_scripts.specs.Deeds.{Called, said_line, is_fine, bad_line}
use Rattle.client_scripts.specs.Lines.{line_step}
use Rattle.client_scripts.specs.Carrying.{CarriesStep, unasked, sent}
use Rattle.client_scripts.specs.Starving.{is_memory}
use Rattle.client_scripts.specs.Turns.{exchanges_of, HasScriptTurn}
use Rattle.client_scripts.specs.Turns as turns

-- an exchange adds what its answer says
pub adds_exchange : (request : List ℕ) (before after : LinkState) (answer : Result (List ℕ) LinkFault) → Exchanges request before after answer
    → after.asked ≡ before.asked ++ exchanges_of request answer
adds_exchange request before after (Ok reply) is = ap (λ (s : LinkState). s.asked) is
adds_exchange request before after (Err link_faults.Failed) is = ap (λ (s : LinkState). s.asked) is.0
adds_exchange request before after (Err link_faults.OutOfMemory) is = ap (λ (s : LinkState). s.asked) is ∙ sym (append-nil before.asked)

pub bad_turn : (number : ℕ) (line text : List ℕ) (c : Client) (asked : List Exchange) (why : BadLine)
    → line_step number line ≡ Err (LineFault.BadLine why) → text ≡ bad_line
    → HasScriptTurn number line c c asked asked (Some (record { text = text; fine = false }))
bad_turn number line text c asked why none is = rw is (record { at = 0; exchanges = []; turn = turns.bad line 0 c why none; adds = sym (append-nil asked) })

pub starved_turn : (number : ℕ) (line : List ℕ) (c : Client) (asked : List Exchange) → HasScriptTurn number line c c asked asked None
starved_turn number line c asked = record { at = 0; exchanges = []; turn = turns.starved line 0 c; adds = sym (append-nil asked) }

-- a line that can't be carried out was told to be none, or memory ran out
pub unread_turn : (number : ℕ) (line : List ℕ) (c : Client) (asked : List Exchange) (fault : LineFault) (said : Option LineSaid)
    → Fails LineFault.OutOfMemory fault (line_step number line)
    → IfSome said (λ s. (why : BadLine) × (fault ≡ LineFault.BadLine why) × (s ≡ record { text = bad_line; fine = false }))
    → HasScriptTurn number line c c asked asked said
unread_turn number line c asked fault None fails is = starved_turn number line c asked
unread_turn number line c asked fault (Some said) (inl memory) is = absurd (cc)
unread_turn number line c asked fault (Some said) (inr reads) is =
    rw is.2 (bad_turn number line bad_line c asked is.0 (reads ∙ ap Err is.1) refl)

not_memory : (fault : ClientFault) → is_memory (Err fault) ≡ false → fault ≢ faults.OutOfMemory
not_memory fault some e = let both : true ≡ false = sym (ap (λ (f : ClientFault). is_memory (Err f)) e) ∙ some in absurd (cc)

not_memory_answer : (answer : Result Took ClientFault) → is_memory answer ≡ false → answer ≢ Err faults.OutOfMemory
not_memory_answer answer some e = let both : true ≡ false = sym (ap is_memory e) ∙ some in absurd (cc)

module _ (number : ℕ) (line : List ℕ) (step : ScriptStep) (before after : LinkState) (old new : Client) (says : line_step number line ≡ Ok step) where
  -- what was carried out was said
  pub said_turn : (answer : Result Took ClientFault) (text : List ℕ) (fine : Bool) → CarriesStep step before after old new answer
      → is_memory answer ≡ false → text ≡ said_line step.deed new.received.state answer → fine ≡ is_fine answer
      → HasScriptTurn number line old new before.asked after.asked (Some (record { text = text; fine = fine }))
  said_turn _ text fine (unasked fault called same) some is good =
      let stays : new ≡ old = called.1 in
      let C : Client → Type 0 = λ c. Called step old c (Err fault) in
      let text_is : List ℕ = said_line step.deed old.received.state (Err fault) in
      let here : HasScriptTurn number line old old before.asked before.asked (Some (record { text = text_is; fine = false })) =
      record {
        at = step.at;
        exchanges = [];
        turn = turns.unasked line step says old fault (subst C stays called) (not_memory fault some);
        adds = sym (append-nil before.asked);
      } in
      rw (is, good, same, stays) here
  said_turn _ text fine (sent between request called answer sends) some is good =
      rw (is, good) (record {
        at = step.at;
        exchanges = exchanges_of request sends.answer;
        turn = turns.sent line step says old between new request called sends.answer answer sends.takes (not_memory_answer answer some);
        adds = adds_exchange request before after sends.answer sends.exchanges;
      })

  -- or memory ran out
  pub unsaid_turn : (answer : Result Took ClientFault) → CarriesStep step before after old new answer
      → HasScriptTurn number line old new before.asked after.asked None
  unsaid_turn _ (unasked fault called same) =
      let stays : new ≡ old = called.1 in
      rw (same, stays) (starved_turn number line old before.asked)
  unsaid_turn _ (sent between request called answer sends) = record {
    at = step.at;
    exchanges = exchanges_of request sends.answer;
    turn = turns.starved_later line step says old between new request called sends.answer answer sends.takes;
    adds = adds_exchange request before after sends.answer sends.exchanges;
  }

  pub answer_turn : (answer : Result Took ClientFault) (said : Option LineSaid) → CarriesStep step before after old new answer
      → IfSome said (λ s. (is_memory answer ≡ false)
      × (s ≡ record { text = said_line step.deed new.received.state answer; fine = is_fine answer }))
      → HasScriptTurn number line old new before.asked after.asked said
  answer_turn answer None carries is = unsaid_turn answer carries
  answer_turn answer (Some said) carries is = rw is.1 (said_turn answer _ _ carries is.0 refl refl)
