use Rattle.std.proofs.Common.{◌≡◌, ◌∙◌, true, false, length, sym, ap, None}
use Rattle.gnap_model.specs.Actions.{retire, terms_for}
use Rattle.gnap_model.specs.Begin.{pass_limit}
use Rattle.gnap_model.specs.Change.{tokens_of, other_live_tokens}
use Rattle.gnap_model.specs.Standing.{consent_of}
use Rattle.gnap_model.specs.declared.notes.TermsNote.{TermsNote}
use Rattle.gnap_model.specs.declared.notes.Note.TheVariants.{Terms, Approved}
use Rattle.gnap_history.specs.Drawings.{trail, supply}
use Rattle.gnap_history.proofs.Acting.{acts_as, answers_as}
use Rattle.gnap_history.proofs.Modifying.{refused_past_limit, modified_within_limit, two_more, granted_after}
use Rattle.gnap_history.proofs.changing.modify_at_once.Goals as goal

pub returns-then-others_pass_limit : goal.returns-then-others_pass_limit
returns-then-others_pass_limit c =
    let drawing = c.args.drawing.now in
    let passes : pass_limit (other_live_tokens (trail drawing) drawing.moment c.args.opening.now) (length c.args.request.now.asks) ≡ true =
    sym (rw (c.as_slice-notes.ensures, c.len.ensures) at c.others_pass_limit.ensures) ∙ c.if-others_pass_limit.true in
    answers_as (supply drawing) c.refuse.result _ _ (refused_past_limit (trail drawing) drawing.moment c.args.opening.now c.args.request.now passes)
    (c.refuse.ensures.reply, c.refuse.ensures.notes)

pub returns : goal.returns
returns c =
    let drawing = c.args.drawing.now in
    let o = c.args.opening.now in
    let request = c.args.request.now in
    let within : pass_limit (other_live_tokens (trail drawing) drawing.moment o) (length request.asks) ≡ false =
    sym (rw (c.as_slice-notes.ensures, c.len.ensures) at c.others_pass_limit.ensures) ∙ c.if-others_pass_limit.false in
    let before = two_more (retire (tokens_of (trail drawing) drawing.moment o)) c.in_ok-before.before c.push.new.self c.push-2.new.self
    (Terms c.in_ok-terms.field-0) (Approved o.grant c.in_ok-copy.field-0) (Terms (terms_for o request)) (Approved o.grant (consent_of (trail drawing) o.grant))
    (rw c.as_slice-notes.ensures at c.in_ok-before.ensures) c.in_ok-push.ensures.ok c.in_ok-push-2.ensures.ok
    (ap (λ (t : TermsNote). Terms t) c.in_ok-terms.ensures) (cc (c.in_ok-copy.ensures, c.requires.consent)) in
    acts_as (supply drawing) c.grant.result _ _ (modified_within_limit (trail drawing) drawing.moment o request within)
    (granted_after (supply drawing) o c.push-2.new.self _ c.as_slice.result.now request.asks request.single None None c.grant.result before c.as_slice.ensures
    c.grant.ensures)
