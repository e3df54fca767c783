use Rattle.std.proofs.Common.{◌≡◌, ◌∙◌, ℕ, List, codes, refl, sym, ap, rules}
use Rattle.std.proofs.lemmas.Slice.Eq.{bytes_eq-Decides}
use Rattle.serde_json.specs.Data.{no_members}
use Rattle.serde_json.specs.Read.{read}
use Rattle.serde_json.proofs.OnLiterals.{serde_json_on_literals}
use Rattle.access_rights.specs.Printing.{members_read}
use Rattle.access_rights.proofs.printing.further_members.Goals as goal

none : members_read (read (codes "{}")) ≡ no_members
unfolding serde_json_on_literals
none = refl

pub returns-then-eq : goal.returns-then-eq
returns-then-eq c =
    let empty : c.as_slice.result.now ≡ c.as_slice-2.result.now = (bytes_eq-Decides _ _).0 (sym c.eq.ensures ∙ c.if-eq.true) in
    search rules ∙ sym none ∙ ap (λ (t : List ℕ). members_read (read t)) (sym c.as_slice-2.ensures ∙ sym empty ∙ c.as_slice.ensures.value)
