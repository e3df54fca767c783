-- There are legal histories, so the laws are not empty.
use Rattle.std.proofs.Common.{[], ◌∷◌, reverse, refl, lit≤}
use Rattle.gnap_model.specs.declared.calls.Call.TheVariants.{Modify, Cancel}
use Rattle.histories.specs.History.{Legal}
use Rattle.gnap_model.specs.Legal.{IsLegalPast, grant_law}
use Rattle.gnap_laws.proofs.NewestFirst.{past_legal}
use Rattle.test_machine.proofs.ExampleHistories.{played, setup, for_photos, begin, introspect, at, c1, v1, v3, v6}

past_example : IsLegalPast setup
    (played setup [] (begin 1000 for_photos ∷ introspect 1001 v1 ∷ at 1002 (Modify c1 v3 for_photos) ∷ at 1003 (Cancel c1 v6) ∷ []))
past_example = (
  record { fits = tt; moment = lit≤ tt; reply = refl; notes = refl },
  (
    record { fits = lit≤ tt; moment = lit≤ tt; reply = refl; notes = refl },
    (
      record { fits = tt; moment = lit≤ tt; reply = refl; notes = refl },
      (record { fits = lit≤ tt; moment = lit≤ tt; reply = refl; notes = refl }, tt),
    ),
  ),
)

pub legal_example : Legal grant_law setup
    (reverse (played setup [] (begin 1000 for_photos ∷ introspect 1001 v1 ∷ at 1002 (Modify c1 v3 for_photos) ∷ at 1003 (Cancel c1 v6) ∷ [])))
legal_example = past_legal setup
    (played setup [] (begin 1000 for_photos ∷ introspect 1001 v1 ∷ at 1002 (Modify c1 v3 for_photos) ∷ at 1003 (Cancel c1 v6) ∷ [])) past_example
