-- What a decision has by its round.
use Rattle.std.proofs.Common.{◌≡◌, refl, Option, Some, None}
use Rattle.std.specs.Prelude.{is_some, option_map}
use Rattle.gnap_model.specs.Common.{some_if}
use Rattle.gnap_model.specs.declared.objects.Finish.{Finish}
use Rattle.gnap_model.specs.Actions.{Supply, drawn_value, finish_of}
use Rattle.gnap_model.specs.declared.notes.RoundNote.{RoundNote}

-- The reference that the front is told is drawn where there is a finish.
pub reference_told : (supply : Supply) (round : RoundNote) (finish : Option Finish)
    → option_map (λ ending. ending.reference) (finish_of supply round finish) ≡ some_if (is_some finish) (drawn_value supply 0)
reference_told supply round None = refl
reference_told supply round (Some finish) = refl
