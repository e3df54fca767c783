-- What an introspection is told of a row (RFC 9767, section 3.3).
use Rattle.std.specs.Prelude.{ℕ, Bool, not, ◌&&◌, nat_lt, List, if◌then◌else◌}
use Rattle.std.specs.declared.option.Option.{Option}
use Rattle.std.specs.declared.option.Option.TheVariants.{None, Some}
use Rattle.gnap_model.specs.Common.{Text}
use Rattle.gnap_model.specs.declared.objects.Binding.{Binding}
use Rattle.gnap_model.specs.declared.rights.Right.{Right}
use Rattle.gnap_model.specs.Judging.{suits, serves_all}
use Rattle.gnap_tables.specs.declared.rows.TokenRow.{TokenRow}
use Rattle.introspection.specs.declared.judgement.Judged.{Judged}
use Rattle.introspection.specs.declared.judgement.Judged.TheVariants.{Active, Inactive, NotServed}

-- where the server serves all that it asks about
abbrev pub judged_row : Option TokenRow → Bool → ℕ → List Text → Option Binding → Option (List Right) → Judged
judged_row None approved now names binding wanted = Inactive
judged_row (Some row) approved now names binding wanted =
    if not row.retired && nat_lt now row.until && approved && suits names binding wanted row.rights row.bearer then Active else Inactive

abbrev pub judged : Option TokenRow → Bool → ℕ → List Text → Option Binding → Option (List Right) → Judged
judged row approved now names binding wanted = if serves_all names wanted then judged_row row approved now names binding wanted else NotServed
