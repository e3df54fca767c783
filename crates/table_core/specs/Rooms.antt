-- The room that a change of the tables takes.
use Rattle.std.specs.Prelude.{ℕ, ◌≤◌, length, IfSome}
use Rattle.std.specs.declared.option.Option.{Option}
use Rattle.std.specs.declared.option.Option.TheVariants.{None, Some}
use Rattle.table_core.specs.declared.entering.TableChange.{TableChange}
use Rattle.table_core.specs.declared.entering.TableChange.TheVariants.{Open, Renew, Pend}

-- how many rows of tokens are issued, where there is a new continuation value
abbrev pub issued_by : TableChange → Option ℕ
issued_by (Open row serial tokens) = Some (length tokens)
issued_by (Renew renewal) = Some (length renewal.tokens)
issued_by (Pend terms round door serial earliest) = Some 0
issued_by _ = None

-- room for a continuation value and a row or a round of a grant, and for the rows of tokens
abbrev pub HasRoomFor : TableChange → (spare_grants : ℕ) → (spare_tokens : ℕ) → Type 0
HasRoomFor change spare_grants spare_tokens = IfSome (issued_by change) (λ more. (2 ≤ spare_grants) × (more ≤ spare_tokens))
