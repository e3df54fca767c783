use Rattle.std.proofs.Common.{◌≡◌, ◌∙◌, ◌+◌, ◌||◌, nat_lt, max, true, false, sym}
use Rattle.gnap_laws.specs.Refusals.{caller}
use Rattle.signed_calls.specs.Marks.{mark_notes}
use Rattle.signed_calls.specs.Remembering.{is_live_at}
use Rattle.signed_calls.proofs.Remembered.{tells-less}
use Rattle.histories.specs.History.{notes_of}
use Rattle.remembering_core.proofs.Facts.{absent, live_key, mark_test, test_old, test_new, no_mark_open, unmarked_notes, unremembered_notes, tells_unmarked, tells_marked, tells_equal, short_within, next_refused, next_lapses, next_accepted, if_ok_map, on_err_map}
use Rattle.remembering_core.proofs.remembering.RememberingCore.step.Goals.{then-until-self-via-then-until-self, then-until-self-via-else-until-self+then-knows}
use Rattle.remembering_core.proofs.remembering.RememberingCore.step.Goals as goal

pub step-requires-clause-short : goal.step-requires-clause-short
step-requires-clause-short g c =
    short_within g.C.Core.stands g.C.Core.rules c.args.self.now.core c.advance.new.self.core (g.N.Nonces.until c.args.self.now.nonces)
    (g.N.Nonces.many c.args.self.now.nonces) c.args.self.now.latest c.advance.ensures.core c.requires.short

pub step-requires-then-not-leaves_nonce-clause-short : goal.step-requires-then-not-leaves_nonce-clause-short
step-requires-then-not-leaves_nonce-clause-short g c =
    short_within g.C.Core.stands g.C.Core.rules c.args.self.now.core c.advance.new.self.core (g.N.Nonces.until c.args.self.now.nonces)
    (g.N.Nonces.many c.args.self.now.nonces) c.args.self.now.latest c.advance.ensures.core c.requires.short

pub step-requires-in-Ok-clause-short : goal.step-requires-in-Ok-clause-short
step-requires-in-Ok-clause-short g c =
    short_within g.C.Core.stands g.C.Core.rules c.args.self.now.core c.advance.new.self.core (g.N.Nonces.until c.args.self.now.nonces)
    (g.N.Nonces.many c.args.self.now.nonces) c.args.self.now.latest c.advance.ensures.core c.requires.short

pub returns-in-None-clause-err : goal.returns-in-None-clause-err
returns-in-None-clause-err g c = on_err_map c.step.result _ _ (λ lapses. λ h here.
    next_lapses g.C.Core.stands g.C.Core.rules c.args.self.now.core c.advance.new.self.core c.step.new.self
    (g.N.Nonces.until c.args.self.now.nonces) (g.N.Nonces.until c.advance.new.self.nonces) (g.N.Nonces.many c.args.self.now.nonces)
    (g.N.Nonces.many c.advance.new.self.nonces)
    c.args.self.now.latest c.advance.new.self.latest h c.args.moment c.args.draw.now
    c.advance.ensures.core c.step.ensures.rules c.advance.ensures.latest lapses c.requires.in_time (c.advance.ensures.tells (notes_of h) here.tells) here)
    c.step.ensures.err

pub returns-in-Err-clause-err : goal.returns-in-Err-clause-err
returns-in-Err-clause-err g c = λ h here.
    next_lapses g.C.Core.stands g.C.Core.rules c.args.self.now.core c.advance.new.self.core c.pass-in-Err.new.self
    (g.N.Nonces.until c.args.self.now.nonces) (g.N.Nonces.until c.remember.new.self) (g.N.Nonces.many c.args.self.now.nonces)
    (g.N.Nonces.many c.remember.new.self)
    c.args.self.now.latest c.advance.new.self.latest h c.args.moment c.args.draw.now
    c.advance.ensures.core c.pass-in-Err.ensures.rules c.advance.ensures.latest (λ p. c.pass-in-Err.ensures.lapses p c.args.draw.now) c.requires.in_time
    (tells_equal (g.N.Nonces.until c.advance.new.self.nonces) (g.N.Nonces.until c.remember.new.self) (g.N.Nonces.many c.advance.new.self.nonces)
    (g.N.Nonces.many c.remember.new.self) (notes_of h) (max c.args.self.now.latest c.args.moment) c.in-Err.ensures.err.0 c.in-Err.ensures.err.1
    (c.advance.ensures.tells (notes_of h) here.tells)) here

pub returns-in-None-clause-ok : goal.returns-in-None-clause-ok
returns-in-None-clause-ok g c = if_ok_map c.step.result _ _ (λ reply answers. λ h here.
    next_accepted g.C.Core.stands g.C.Core.rules c.args.self.now.core c.advance.new.self.core c.step.new.self
    (g.N.Nonces.until c.args.self.now.nonces) (g.N.Nonces.until c.advance.new.self.nonces) (g.N.Nonces.many c.args.self.now.nonces)
    (g.N.Nonces.many c.advance.new.self.nonces)
    c.args.self.now.latest c.advance.new.self.latest h c.args.moment c.args.draw.now c.args.signed.now reply
    c.advance.ensures.core c.step.ensures.rules c.advance.ensures.latest answers c.requires.fits c.requires.in_time
    (no_mark_open h c.args.moment c.args.signed.now c.in-None.is)
    (tells_unmarked (g.N.Nonces.until c.advance.new.self.nonces) (g.N.Nonces.many c.advance.new.self.nonces) (notes_of h) (mark_notes c.args.signed.now)
    (max c.args.self.now.latest c.args.moment) (unmarked_notes c.args.signed.now c.in-None.is) (c.advance.ensures.tells (notes_of h) here.tells)) here)
    c.step.ensures.ok

pub returns-then-until-self-clause-ok : goal.returns-then-until-self-clause-ok
returns-then-until-self-clause-ok g c = λ h here.
    let test : (nat_lt (c.in-Some.mark.created + 300) c.advance.new.self.latest
    || is_live_at c.advance.new.self.latest (g.N.Nonces.until c.advance.new.self.nonces (caller c.args.signed.now.call) c.in-Some.mark.nonce)) ≡ true
    = elim c.then-until-self.branch [
      | then-until-self-via-then-until-self w ↦ test_old (c.in-Some.mark.created + 300) c.advance.new.self.latest
          (is_live_at c.advance.new.self.latest (g.N.Nonces.until c.advance.new.self.nonces (caller c.args.signed.now.call) c.in-Some.mark.nonce))
          w.if-until-self.true
      | then-until-self-via-else-until-self+then-knows w ↦ test_new (c.in-Some.mark.created + 300) c.advance.new.self.latest
          (is_live_at c.advance.new.self.latest (g.N.Nonces.until c.advance.new.self.nonces (caller c.args.signed.now.call) c.in-Some.mark.nonce)) true
          w.if-until-self.false
          (live_key (g.N.Nonces.until c.advance.new.self.nonces) c.advance.new.self.latest c.caller_of-key.result.now (caller c.args.signed.now.call)
          c.in-Some.mark.nonce w.knows.result true c.caller_of-key.ensures w.knows.ensures w.if-knows.true)
    ] in
    next_refused g.C.Core.stands g.C.Core.rules c.args.self.now.core c.advance.new.self.core c.pass.new.self
    (g.N.Nonces.until c.args.self.now.nonces) (g.N.Nonces.until c.advance.new.self.nonces) (g.N.Nonces.many c.args.self.now.nonces)
    (g.N.Nonces.many c.advance.new.self.nonces)
    c.args.self.now.latest c.advance.new.self.latest h c.args.moment c.args.draw.now c.args.signed.now
    c.advance.ensures.core c.pass.ensures.rules c.advance.ensures.latest c.pass.ensures.lapses c.requires.fits c.requires.in_time
    (mark_test (g.N.Nonces.until c.advance.new.self.nonces) (g.N.Nonces.many c.advance.new.self.nonces) h c.args.self.now.latest c.advance.new.self.latest
    c.args.moment c.args.signed.now c.in-Some.mark true c.in-Some.is c.advance.ensures.latest here.latest_is
    (c.advance.ensures.tells (notes_of h) here.tells) test)
    (c.advance.ensures.tells (notes_of h) here.tells) here

pub returns-then-not-leaves_nonce-clause-ok : goal.returns-then-not-leaves_nonce-clause-ok
returns-then-not-leaves_nonce-clause-ok g c = if_ok_map c.step-then-not-leaves_nonce.result _ _ (λ reply answers. λ h here.
    next_accepted g.C.Core.stands g.C.Core.rules c.args.self.now.core c.advance.new.self.core c.step-then-not-leaves_nonce.new.self
    (g.N.Nonces.until c.args.self.now.nonces) (g.N.Nonces.until c.advance.new.self.nonces) (g.N.Nonces.many c.args.self.now.nonces)
    (g.N.Nonces.many c.advance.new.self.nonces)
    c.args.self.now.latest c.advance.new.self.latest h c.args.moment c.args.draw.now c.args.signed.now reply
    c.advance.ensures.core c.step-then-not-leaves_nonce.ensures.rules c.advance.ensures.latest answers c.requires.fits c.requires.in_time
    (mark_test (g.N.Nonces.until c.advance.new.self.nonces) (g.N.Nonces.many c.advance.new.self.nonces) h c.args.self.now.latest c.advance.new.self.latest
    c.args.moment c.args.signed.now c.in-Some.mark false c.in-Some.is c.advance.ensures.latest here.latest_is
    (c.advance.ensures.tells (notes_of h) here.tells)
    (test_new (c.in-Some.mark.created + 300) c.advance.new.self.latest
    (is_live_at c.advance.new.self.latest (g.N.Nonces.until c.advance.new.self.nonces (caller c.args.signed.now.call) c.in-Some.mark.nonce)) false
    c.if-until-self.false (live_key (g.N.Nonces.until c.advance.new.self.nonces) c.advance.new.self.latest c.caller_of-key.result.now
    (caller c.args.signed.now.call) c.in-Some.mark.nonce c.knows.result false c.caller_of-key.ensures c.knows.ensures c.if-knows.false)))
    (tells_unmarked (g.N.Nonces.until c.advance.new.self.nonces) (g.N.Nonces.many c.advance.new.self.nonces) (notes_of h) (mark_notes c.args.signed.now)
    (max c.args.self.now.latest c.args.moment) (unremembered_notes c.args.signed.now (sym c.if-not-leaves_nonce.ensures))
    (c.advance.ensures.tells (notes_of h) here.tells)) here) c.step-then-not-leaves_nonce.ensures.ok

pub returns-then-not-leaves_nonce-clause-err : goal.returns-then-not-leaves_nonce-clause-err
returns-then-not-leaves_nonce-clause-err g c = on_err_map c.step-then-not-leaves_nonce.result _ _ (λ lapses. λ h here.
    next_lapses g.C.Core.stands g.C.Core.rules c.args.self.now.core c.advance.new.self.core c.step-then-not-leaves_nonce.new.self
    (g.N.Nonces.until c.args.self.now.nonces) (g.N.Nonces.until c.advance.new.self.nonces) (g.N.Nonces.many c.args.self.now.nonces)
    (g.N.Nonces.many c.advance.new.self.nonces)
    c.args.self.now.latest c.advance.new.self.latest h c.args.moment c.args.draw.now
    c.advance.ensures.core c.step-then-not-leaves_nonce.ensures.rules c.advance.ensures.latest lapses c.requires.in_time
    (c.advance.ensures.tells (notes_of h) here.tells) here) c.step-then-not-leaves_nonce.ensures.err

pub returns-in-Ok-step-clause-ok : goal.returns-in-Ok-step-clause-ok
returns-in-Ok-step-clause-ok g c = λ h here.
    next_accepted g.C.Core.stands g.C.Core.rules c.args.self.now.core c.advance.new.self.core c.step-in-Ok.new.self
    (g.N.Nonces.until c.args.self.now.nonces) (g.N.Nonces.until c.remember.new.self) (g.N.Nonces.many c.args.self.now.nonces)
    (g.N.Nonces.many c.remember.new.self)
    c.args.self.now.latest c.advance.new.self.latest h c.args.moment c.args.draw.now c.args.signed.now c.in-Ok-step.reply
    c.advance.ensures.core c.step-in-Ok.ensures.rules c.advance.ensures.latest c.in-Ok-step.ensures.ok c.requires.fits c.requires.in_time
    (mark_test (g.N.Nonces.until c.advance.new.self.nonces) (g.N.Nonces.many c.advance.new.self.nonces) h c.args.self.now.latest c.advance.new.self.latest
    c.args.moment c.args.signed.now c.in-Some.mark false c.in-Some.is c.advance.ensures.latest here.latest_is
    (c.advance.ensures.tells (notes_of h) here.tells)
    (test_new (c.in-Some.mark.created + 300) c.advance.new.self.latest
    (is_live_at c.advance.new.self.latest (g.N.Nonces.until c.advance.new.self.nonces (caller c.args.signed.now.call) c.in-Some.mark.nonce)) false
    c.if-until-self.false (live_key (g.N.Nonces.until c.advance.new.self.nonces) c.advance.new.self.latest c.caller_of-key.result.now
    (caller c.args.signed.now.call) c.in-Some.mark.nonce c.knows.result false c.caller_of-key.ensures c.knows.ensures c.if-knows.false)))
    (tells_marked (g.N.Nonces.until c.advance.new.self.nonces) (g.N.Nonces.until c.remember.new.self) (g.N.Nonces.many c.advance.new.self.nonces)
    (g.N.Nonces.many c.remember.new.self) (notes_of h) (max c.args.self.now.latest c.args.moment) c.advance.new.self.latest c.args.signed.now c.in-Some.mark
    c.caller_of-key.result.now
    c.caller_of-key.ensures c.in-Some.is (sym c.if-not-leaves_nonce.ensures) c.in-Ok.ensures.ok c.advance.ensures.latest
    (sym c.knows.ensures ∙ c.if-knows.false) c.if-until-self.false (c.advance.ensures.tells (notes_of h) here.tells)) here

pub returns-in-Err-step-clause-err : goal.returns-in-Err-step-clause-err
returns-in-Err-step-clause-err g c = λ h here.
    next_lapses g.C.Core.stands g.C.Core.rules c.args.self.now.core c.advance.new.self.core c.step-in-Ok.new.self
    (g.N.Nonces.until c.args.self.now.nonces) (g.N.Nonces.until c.forget.new.self) (g.N.Nonces.many c.args.self.now.nonces) (g.N.Nonces.many c.forget.new.self)
    c.args.self.now.latest c.advance.new.self.latest h c.args.moment c.args.draw.now
    c.advance.ensures.core c.step-in-Ok.ensures.rules c.advance.ensures.latest c.in-Err-step.ensures.err c.requires.in_time
    (tells-less (g.N.Nonces.until c.advance.new.self.nonces) (g.N.Nonces.many c.advance.new.self.nonces) (notes_of h) (max c.args.self.now.latest c.args.moment)
    c.caller_of-key.result.now c.in-Some.mark.nonce (c.in-Some.mark.created + 300) (g.N.Nonces.until c.remember.new.self)
    (g.N.Nonces.many c.remember.new.self) (g.N.Nonces.until c.forget.new.self) (g.N.Nonces.many c.forget.new.self)
    c.in-Ok.ensures.ok c.forget.ensures
    (absent (g.N.Nonces.until c.advance.new.self.nonces) (g.N.Nonces.many c.advance.new.self.nonces) (notes_of h) (max c.args.self.now.latest c.args.moment)
    c.advance.new.self.latest c.caller_of-key.result.now c.in-Some.mark.nonce c.advance.ensures.latest (c.advance.ensures.tells (notes_of h) here.tells)
    (sym c.knows.ensures ∙ c.if-knows.false)) (c.advance.ensures.tells (notes_of h) here.tells)) here
