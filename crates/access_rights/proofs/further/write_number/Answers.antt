use Rattle.std.proofs.Common.{◌≡◌, true, None, w64, Some, sym, ap, ◌∙◌, arith, rules, subst}
use mir.Val.{to_z, of_z}
use Rattle.std.proofs.lemmas.Result.{on_ok_weaker}
use Rattle.std.specs.Float.{float_is_finite}
use Rattle.std.specs.Fmt.{signed_decimal}
use Rattle.std.specs.Prelude.{unwrap_or}
use Rattle.serde_json.specs.Data.{float}
use Rattle.serde_json.specs.Find.{as_u64, as_i64, to_float}
use Rattle.serde_json.specs.Read.{number_of}
use Rattle.serde_json.specs.View.{number_view}
use Rattle.serde_json.specs.Written.{number_text}
use Rattle.serde_json.proofs.Numbers.{number_of-decimal, number_of-plus}
use Rattle.serde_json.proofs.Texts.{unless_float-number_of}
use Rattle.access_rights.proofs.Numbers.{from_u64, from_i64, from_neither, below_zero, is_finite, number_of-below_zero}
use Rattle.access_rights.proofs.further.write_number.Goals as goal

pub returns-in-Some-clause-ok : goal.returns-in-Some-clause-ok
returns-in-Some-clause-ok c =
    let read = number_of-decimal c.in-Some.n (omega arith) in
    let seen = from_u64 (number_view c.args.number.now) c.in-Some.n (sym c.as_u64.ensures ∙ c.in-Some.is) in
    on_ok_weaker c.u64.result (λ e. (_, e, read ∙ ap Some seen, unless_float-number_of _ _ read ∙ ap number_text seen)) c.u64.ensures.ok

pub returns-in-Some-as_i64-clause-ok : goal.returns-in-Some-as_i64-clause-ok
returns-in-Some-as_i64-clause-ok c =
    let absent : as_u64 (number_view c.args.number.now) ≡ None = sym c.as_u64.ensures ∙ c.in_default.is in
    let seen = from_i64 (number_view c.args.number.now) c.in-Some-as_i64.n absent (sym c.as_i64.ensures ∙ c.in-Some-as_i64.is) in
    let told : signed_decimal (to_z w64 (of_z w64 c.in-Some-as_i64.n)) ≡ signed_decimal c.in-Some-as_i64.n = ap signed_decimal (search rules) in
    let read = ap number_of told ∙ number_of-below_zero c.in-Some-as_i64.n (below_zero c.args.number.now.n c.in-Some-as_i64.n c.args.number.now.valid seen)
    (search rules) in
    on_ok_weaker c.i64.result (λ e. (_, e, read ∙ ap Some seen, unless_float-number_of _ _ read ∙ told ∙ ap number_text seen)) c.i64.ensures.ok

pub float_with_plus-requires : goal.float_with_plus-requires
float_with_plus-requires c =
    let absent : as_u64 (number_view c.args.number.now) ≡ None = sym c.as_u64.ensures ∙ c.in_default.is in
    let none : as_i64 (number_view c.args.number.now) ≡ None = sym c.as_i64.ensures ∙ c.in_default-as_i64.is in
    let same : to_float (number_view c.args.number.now)
    ≡ c.in-Some-as_f64.x = ap (λ o. unwrap_or o c.in-Some-as_f64.x) (sym c.as_f64.ensures ∙ c.in-Some-as_f64.is) in
    subst (λ x. float_is_finite x ≡ true) same
    (is_finite c.args.number.now.n c.args.number.now.valid (from_neither (number_view c.args.number.now) absent none))

pub returns-clause-ok : goal.returns-clause-ok
returns-clause-ok c =
    let absent : as_u64 (number_view c.args.number.now) ≡ None = sym c.as_u64.ensures ∙ c.in_default.is in
    let none : as_i64 (number_view c.args.number.now) ≡ None = sym c.as_i64.ensures ∙ c.in_default-as_i64.is in
    let same : to_float (number_view c.args.number.now)
    ≡ c.in-Some-as_f64.x = ap (λ o. unwrap_or o c.in-Some-as_f64.x) (sym c.as_f64.ensures ∙ c.in-Some-as_f64.is) in
    let number = from_neither (number_view c.args.number.now) absent none in
    let finite : float_is_finite c.in-Some-as_f64.x
    ≡ true = subst (λ x. float_is_finite x ≡ true) same (is_finite c.args.number.now.n c.args.number.now.valid number) in
    let seen : float c.in-Some-as_f64.x ≡ number_view c.args.number.now = ap float (sym same) ∙ number in
    on_ok_weaker c.float_with_plus.result (λ w.
    let read = number_of-plus _ _ w.0 c.in-Some-as_f64.x w.2 w.3 finite in
    (w.0, w.1, read ∙ ap Some seen, unless_float-number_of _ _ read ∙ ap number_text seen)) c.float_with_plus.ensures.layout
