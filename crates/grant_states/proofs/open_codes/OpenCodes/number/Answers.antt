use Rattle.std.proofs.Common.{◌≡◌, ◌∙◌, Some, None, sym, subst}
use Rattle.grant_states.specs.OpenCodes.{HasCode}
use Rattle.grant_states.proofs.open_codes.OpenCodes.number.Goals as goal

pub returns-in-Some : goal.returns-in-Some
returns-in-Some c = λ n number is h.
    let k : Some c.in-Some.listed ≡ Some n = c.in-Some.ensures ∙ is in
    c.number_under.ensures number (subst (λ m. HasCode c.args.self.now m number) (sym (cc k)) h)

pub returns-in-None : goal.returns-in-None
returns-in-None c = λ n number is h.
    let k : None ≡ Some n = c.in-None.ensures ∙ is in cc k
