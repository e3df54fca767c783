-- One line's turn, by what its calls did.
use Rattle.std.proofs.Common.{◌≡◌, ◌≢◌, ℕ, List, [], ◌∷◌, ◌++◌, refl, sym}
use Rattle.std.specs.Prelude.{Bool, true}
use Rattle.std.proofs.lemmas.List.{append-nil}
use Rattle.outside.specs.Outside.{Told}
use Rattle.histories.specs.History.{entry_of}
use Rattle.histories.specs.Steps.{Enters, EntersLapse, NoneOf}
use Rattle.histories.specs.Whole.{own_of}
use Rattle.histories.proofs.OwnEntries.{own-next}
use Rattle.gnap_model.specs.declared.objects.Setup.{Setup}
use Rattle.gnap_model.specs.declared.calls.Reply.{Reply}
use Rattle.signed_calls.specs.declared.signed.Signed.{Signed}
use Rattle.signed_calls.specs.Marks.{unmarked_lapse}
use Rattle.grant_machine.specs.Gnap.{GnapEntry, gnap}
use Rattle.command_inputs.specs.declared.printed_text.After.{After}
use Rattle.command_inputs.specs.declared.printed_text.After.TheVariants.{On, Starved, Cut}
use Rattle.call_replay.specs.Replays.{IsLineTurn}
use Rattle.command_inputs.specs.LineRuns.{GoesBy, Prints}
use Rattle.call_replay.specs.Replaying.{AnswersLine}

pub goes_on : (after : After) → after ≢ Starved → GoesBy after true
goes_on On isnt = refl
goes_on Starved isnt = absurd (isnt refl)
goes_on Cut isnt = tt

module _ (setup : Setup) (worker number : ℕ) (line : List ℕ) (seen : List GnapEntry → Type 0) (h : List GnapEntry) (before after : Told) (result : After)
    (moment : ℕ) (bytes : List ℕ) (on : Bool) (goes : GoesBy result on) (prints : Prints result bytes before after) where
  pub without_entry : seen h → IsLineTurn setup number (record { message = line; moment = moment; entries = []; bytes = bytes; on = on })
      → AnswersLine setup worker number line seen h before after result
  without_entry was is = record {
    turn = record { message = line; moment = moment; entries = []; bytes = bytes; on = on };
    is_turn = is;
    message = refl;
    goes = goes;
    history = h;
    seen_now = was;
    own = sym (append-nil (own_of worker h));
    prints = prints;
  }

  with_one : (others : List GnapEntry) (e : GnapEntry) → NoneOf worker others → e.number ≡ worker → seen (h ++ others ++ e ∷ [])
      → IsLineTurn setup number (record { message = line; moment = moment; entries = e ∷ []; bytes = bytes; on = on })
      → AnswersLine setup worker number line seen h before after result
  with_one others e not_mine mine seen_now is = record {
    turn = record { message = line; moment = moment; entries = e ∷ []; bytes = bytes; on = on };
    is_turn = is;
    message = refl;
    goes = goes;
    history = h ++ others ++ e ∷ [];
    seen_now = seen_now;
    own = own-next worker h others e not_mine mine;
    prints = prints;
  }

  pub with_entry : (rules : Setup) (draw : List ℕ) (signed : Signed) (reply : Reply) → (x : Enters gnap rules worker h moment draw signed reply seen)
      → IsLineTurn setup number (record
      { message = line; moment = moment; entries = entry_of gnap rules (h ++ x.others) worker moment draw signed ∷ []; bytes = bytes; on = on })
      → AnswersLine setup worker number line seen h before after result
  with_entry rules draw signed reply x is = with_one x.others (entry_of gnap rules (h ++ x.others) worker moment draw signed) x.not_mine refl x.seen_now is

  pub with_lapse : (rules : Setup) (draw : List ℕ) → (x : EntersLapse gnap rules worker h moment draw seen)
      → IsLineTurn setup number (record
      { message = line; moment = moment; entries = entry_of gnap rules (h ++ x.others) worker moment draw unmarked_lapse ∷ []; bytes = bytes; on = on })
      → AnswersLine setup worker number line seen h before after result
  with_lapse rules draw x is = with_one x.others (entry_of gnap rules (h ++ x.others) worker moment draw unmarked_lapse) x.not_mine refl x.seen_now is
