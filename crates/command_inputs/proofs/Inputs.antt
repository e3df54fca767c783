-- What was taken of an input, and what is left of it.
use Rattle.std.proofs.Common.{◌≡◌, ◌∙◌, ℕ, List, [], ◌++◌, ap, sym, subst}
use Rattle.std.specs.Prelude.{Result, Ok}
use Rattle.std.proofs.lemmas.List.{append-nil}
use Rattle.outside.specs.Outside.{Told, Takes, Leaves, IsRest}
use Rattle.outside.proofs.Devices.{leaves_then}
use Rattle.command_inputs.specs.declared.whole_input.InputFault.{InputFault}
use Rattle.command_inputs.specs.Inputs.{ReadsInput}
use Rattle.command_inputs.proofs.LineRuns.{none_left}

-- what was taken is what was left at first, but for what is left
pub leaves_taken : (bytes : List ℕ) (x y : Told) → x.taken ≡ [] → Takes bytes x y → Leaves y.taken x.left y.left
leaves_taken bytes x y fresh takes =
    let taken : y.taken ≡ bytes = takes.taken ∙ ap (λ t. t ++ bytes) fresh in
    subst (λ (t : List ℕ). Leaves t x.left y.left) (sym taken) takes.left

pub leaves_more : (bytes : List ℕ) (x y z : Told) → Leaves y.taken x.left y.left → Takes bytes y z → Leaves z.taken x.left z.left
leaves_more bytes x y z leaves takes =
    subst (λ (t : List ℕ). Leaves t x.left z.left) (sym takes.taken) (leaves_then y.taken bytes x.left y.left z.left leaves takes.left)

-- ---- an input that was read to its end

module _ (limit : ℕ) (s s1 : Told) (fresh : s.taken ≡ []) where
  pub input_taken : (result : Result (List ℕ) InputFault) → (read : ReadsInput limit s s1 result) → s1.taken ≡ read.bytes
  input_taken result read = read.takes.taken ∙ ap (λ x. x ++ read.bytes) fresh

  pub input_whole : (text rest : List ℕ) → ReadsInput limit s s1 (Ok text) → IsRest s1 rest → text ≡ s1.taken ++ rest
  input_whole text rest read known =
      read.ends.0 ∙ sym (input_taken (Ok text) read) ∙ sym (ap (λ x. s1.taken ++ x) (none_left s1 rest known read.ends.2) ∙ append-nil s1.taken)
