use Rattle.std.proofs.Common.{rules, ◌≡◌, ◌∙◌, max, sym, subst, refl}
use Rattle.std.proofs.lemmas.Result.{IfOk-weaker, on_err_weaker}
use Rattle.gnap_model.specs.declared.calls.Call.{Call}
use Rattle.gnap_tables.specs.ActionsByRows.{row_action, row_supply}
use Rattle.table_core.specs.CallEffects.{ActsBy, tables_in}
use Rattle.table_core.proofs.Undrawn.{undrawn_of}
use Rattle.table_core.proofs.Stepping.{step_led, step_told, step_err, step_lapsed, step_room, on_err_always}
use Rattle.table_core.proofs.row_core.RowCoreCore.step.Goals as goal

pub act-requires-clause-room : goal.act-requires-clause-room
act-requires-clause-room c =
    let s = c.args.self.now in
    let at : c.max-self.result ≡ max s.latest c.args.moment = search rules in
    step_room s.rules s.grants c.advance.new.grants s.tokens c.advance.new.tokens s.next s.first s.latest c.max-self.result c.args.moment c.requires.short.0
    c.requires.short.1 c.requires.short.2 at c.advance.ensures.rows c.advance.ensures.doors

pub returns-in-Introspect-clause-ok : goal.returns-in-Introspect-clause-ok
returns-in-Introspect-clause-ok c =
    let s = c.args.self.now in
    let at : c.max-self.result ≡ max s.latest c.args.moment = search rules in
    let t = tables_in c.advance.new.grants.rows c.advance.new.tokens.rows in
    let supply = row_supply s.first t c.max-self.result c.args.draw.now in
    IfOk-weaker c.introspect.result _ _ (λ reply acts. λ h stands.
    step_told s.rules s.grants c.advance.new.grants s.tokens c.advance.new.tokens s.next s.first s.latest c.max-self.result c.args.moment
    c.args.draw.now c.args.call.now reply h stands c.requires.fits c.requires.in_time at c.advance.ensures.rows c.advance.ensures.doors
    (subst (λ (call : Call). ActsBy supply (row_action s.rules s.next t c.max-self.result call) t t (undrawn_of reply)) (sym c.in-Introspect.is)
    (acts s.next supply refl)))
    c.introspect.ensures

pub returns-in-Introspect-clause-err : goal.returns-in-Introspect-clause-err
returns-in-Introspect-clause-err c =
    let s = c.args.self.now in
    let at : c.max-self.result ≡ max s.latest c.args.moment = search rules in
    on_err_always c.introspect.result (λ h stands. step_err s.rules s.grants c.advance.new.grants s.tokens c.advance.new.tokens
    (tables_in c.advance.new.grants.rows c.advance.new.tokens.rows) s.next s.first s.latest c.max-self.result c.args.moment
    c.args.draw.now h stands c.requires.in_time at c.advance.ensures.rows refl c.advance.ensures.doors)

pub returns-in-Introspect-clause-frugal : goal.returns-in-Introspect-clause-frugal
returns-in-Introspect-clause-frugal c = rw c.in-Introspect.is (λ frugal. absurd frugal)

pub returns-clause-ok : goal.returns-clause-ok
returns-clause-ok c =
    let s = c.args.self.now in
    let at : c.max-self.result ≡ max s.latest c.args.moment = search rules in
    let then = c.act.new.self in
    IfOk-weaker c.act.result _ _ (λ reply leads. λ h stands.
    step_led s.rules then.rules s.grants then.grants s.tokens then.tokens (tables_in c.advance.new.grants.rows c.advance.new.tokens.rows)
    s.next s.first then.next then.first s.latest c.max-self.result then.latest c.args.moment
    c.args.draw.now c.args.call.now reply h stands c.requires.fits c.requires.in_time at c.advance.ensures.rows leads.0 leads.1
    c.act.ensures.rules c.act.ensures.latest)
    c.act.ensures.ok

pub returns-clause-err : goal.returns-clause-err
returns-clause-err c =
    let s = c.args.self.now in
    let at : c.max-self.result ≡ max s.latest c.args.moment = search rules in
    let then = c.act.new.self in
    on_err_weaker c.act.result (λ same. λ h stands.
    step_lapsed s.rules then.rules s.grants then.grants s.tokens then.tokens (tables_in c.advance.new.grants.rows c.advance.new.tokens.rows)
    s.next s.first then.next then.first s.latest c.max-self.result then.latest c.args.moment
    c.args.draw.now h stands c.requires.in_time at c.advance.ensures.rows same.0 (same.1 ∙ c.advance.ensures.doors)
    c.act.ensures.rules c.act.ensures.latest)
    c.act.ensures.err
