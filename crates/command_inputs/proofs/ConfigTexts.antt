-- A setup is read off a text, of which no more than one byte past the limit is looked at.
use Rattle.std.proofs.Common.{◌≡◌, ◌∙◌, ℕ, ◌<◌, ◌≤◌, List, length, take, ap, sym, arith, ◌⊎◌, inl, inr}
use Rattle.std.specs.Prelude.{None, Result}
use Rattle.std.proofs.lemmas.Bool.Decides.{nat_tests}
use Rattle.std.proofs.lemmas.List.{take_all, length-take-le}
use Rattle.gnap_objects.specs.Setups.{setup_of}
use Rattle.gnap_objects.specs.declared.setups.SetupFault.{SetupFault}
use Rattle.command_inputs.specs.Configs.{config_in, setup_in}

pub config_long : {S : Type 0} (read : List ℕ → Result S SetupFault) (text : List ℕ) → 1048576 < length text → config_in read text ≡ None
config_long read text long = grind (arith, nat_tests)

pub setup_kept : (full : List ℕ) → setup_in full ≡ setup_in (take 1048577 full)
setup_kept full =
    let either : (length full ≤ 1048577) ⊎ (1048577 < length full) = grind arith in
    elim either [
      | inl short ↦ ap setup_in (sym (take_all 1048577 full short))
      | inr long ↦
          let size : length (take 1048577 full) ≡ 1048577 = length-take-le 1048577 full (omega (arith, long)) in
          config_long setup_of full (omega (arith, long)) ∙ sym (config_long setup_of (take 1048577 full) (omega (arith, size)))
    ]
