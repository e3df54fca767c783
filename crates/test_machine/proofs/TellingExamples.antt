-- What introspections tell on some histories, by evaluation.
use Rattle.std.specs.Prelude.{ℕ, ◌≡◌, refl, true, List, [], ◌∷◌, ◌++◌, codes}
use Rattle.std.specs.declared.option.Option.TheVariants.{None, Some}
use Rattle.base64.specs.Rfc4648.{encode_symbols}
use Rattle.gnap_model.specs.Values.{value_text, code_text}
use Rattle.gnap_model.specs.declared.objects.Verdict.TheVariants.{Grant}
use Rattle.gnap_model.specs.declared.calls.Call.TheVariants.{Begin, Modify, Cancel, Rotate, Revoke}
use Rattle.gnap_laws.specs.Provenance.{tells_all}
use Rattle.test_machine.proofs.ExampleHistories.{Line, at, played, setup, for_photos, by_code, photos, mail, ask_for, c1, c2, begin, introspect, continue, decide, v1, v2, v3, v4, v5, v6, v7, v8, v9}

-- every value is asked for
abbrev pub ask_all : ℕ → List Line
ask_all n = introspect n v1 ∷ introspect n v2 ∷ introspect n v3 ∷ introspect n v4 ∷ introspect n v5 ∷ introspect n v6 ∷ introspect n v7 ∷ introspect n v8
    ∷ introspect n v9 ∷ []

-- rotations, a revocation and the end of a token
pub told_1 : tells_all setup (played setup []
    (begin 1000 for_photos ∷ ask_all 1001 ++ at 1002 (Rotate c1 v2 None) ∷ ask_all 1003 ++ at 1004 (Rotate c1 v5 None) ∷ ask_all 1004 ++ at 1005 (Revoke c1 v7)
    ∷ ask_all 1005 ++ ask_all 4600)) ≡ true
unfolding value_text encode_symbols
told_1 = refl

-- modifications and a cancellation, after a rotation
pub told_2 : tells_all setup (played setup []
    (begin 1000 for_photos ∷ at 1002 (Rotate c1 v2 None) ∷ continue 1008 v3 None ∷ ask_all 1008 ++ at 1009 (Modify c1 v6 for_photos) ∷ ask_all 1010
    ++ at 1011 (Cancel c1 v9) ∷ ask_all 1011)) ≡ true
unfolding value_text encode_symbols
told_2 = refl

-- a round after an approval, a decision, and a refusal that finalizes
pub told_3 : tells_all setup (played setup []
    (begin 1000 (ask_for mail (Some by_code)) ∷ decide 1001 v2 Grant None ∷ continue 1005 v1 None ∷ ask_all 1006
    ++ at 1007 (Modify c1 v5 (ask_for (mail ++ photos) (Some by_code))) ∷ ask_all 1008 ++ decide 1009 v7 Grant None ∷ continue 1015 v6 None ∷ ask_all 1016
    ++ continue 1017 (codes "AAAAAAAAAAoAAAAAAAAAAAAAAAAAAAAA") (Some v1) ∷ ask_all 1018)) ≡ true
unfolding value_text encode_symbols code_text
told_3 = refl

-- two grants, a foreign key, and refusals that end nothing
pub told_4 : tells_all setup (played setup []
    (begin 1000 for_photos ∷ at 1000 (Begin c2 for_photos None) ∷ ask_all 1001 ++ at 1002 (Cancel c2 v3) ∷ at 1002 (Rotate c2 v2 None)
    ∷ at 1002 (Rotate c1 v2 (Some c2)) ∷ continue 1003 v3 None ∷ ask_all 1003 ++ continue 1004 v6 (Some v1) ∷ at 1004 (Cancel c2 v6) ∷ ask_all 1005)) ≡ true
unfolding value_text encode_symbols
told_4 = refl
