use Rattle.std.proofs.Common.{◌≡◌, ◌∙◌, ◌<◌, ◌≤◌, ◌^◌, List, [], length, refl, ap, sym, subst, reverse}
use Rattle.std.proofs.lemmas.List.{reverse-reverse}
use Rattle.histories.specs.History.{Legal, now, notes_of}
use Rattle.gnap_model.specs.declared.notes.Note.{Note}
use Rattle.gnap_model.specs.Common.{AreDistinct}
use Rattle.gnap_model.specs.Notes.{Event}
use Rattle.gnap_laws.specs.Laws.{IsWithinLimits}
use Rattle.gnap_model.specs.Standing.{grant_state, wrongs_of, round_by_code}
use Rattle.gnap_model.specs.Standing.GrantState.{IsPending}
use Rattle.gnap_model.specs.Limits.{wrong_limit}
use Rattle.gnap_laws.specs.Provenance.{tells_all, drawn_by, IsOnce, IsRefusedAfter}
use Rattle.signed_calls.specs.Marks.{SignedEvent, signed_law}
use Rattle.signed_calls.specs.PlainPast.{is_refused_after, plain_entry, plain_past, plain_history, bare_past}
use Rattle.signed_calls.proofs.Alike.{tells_all-alike, drawn-alike, once-alike}
use Rattle.signed_calls.proofs.SignedPasts.{past_alike, reversed_legal, history_legal, history_notes, history_now, history_few, few_before, history_next, signed_cause, signed_says, signed_bound, refused_since}
use Rattle.signed_calls.proofs.laws.signed_histories_hold.Goals as goal

pub returns : goal.returns
returns c = λ rules h legal few.
    let p : List Event = plain_past (reverse h) in
    let back : reverse (plain_history h) ≡ p = reverse-reverse p in
    let plain = history_legal rules h legal in
    let short = history_few h few in
    let turned = reversed_legal rules h legal in
    let alike = past_alike rules (reverse h) turned in
    record {
      tells = sym (tells_all-alike rules p (bare_past (reverse h)) alike) ∙ sym (ap (tells_all rules) back)
          ∙ c.tells_what_came.ensures rules (plain_history h) plain short;
      says_active = λ before e after is.
          signed_says rules before e c.says_active.ensures (legal before e after is);
      have_causes = λ before e after code is error.
          signed_cause rules before e after code c.refusals_have_causes.ensures
          (subst (λ (x : List SignedEvent). Legal signed_law rules x) is legal) error;
      values_differ = subst AreDistinct (ap drawn_by back ∙ drawn-alike p (bare_past (reverse h)) alike)
          (c.drawn_values_differ.ensures rules (plain_history h) plain short);
      values_once = λ value.
          let both = c.doors_open_once.ensures rules (plain_history h) value plain short in (
            once-alike value p (bare_past (reverse h)) alike (subst (λ (x : List Event). IsOnce value x) back both.0),
            refused_since rules (reverse h) value turned (subst (λ (x : List Event). IsRefusedAfter value x) back both.1),
          );
      within_limits = λ moment later.
          subst (λ (ns : List Note). IsWithinLimits (reverse ns) moment) (history_notes h)
          (c.limits_hold.ensures rules (plain_history h) moment plain (subst (λ n. n ≤ moment) (sym (history_now h 0)) later));
      few_wrong = λ moment grant round.
          subst (λ (ns : List Note). grant_state (reverse ns) grant moment ≡ IsPending round → wrongs_of (reverse ns) grant < wrong_limit) (history_notes h)
          (λ pending. c.wrong_references_are_few.ensures rules (plain_history h) moment grant round plain pending);
      codes_are_free = λ before e after round code is pended drawn.
          sym (ap (λ (ns : List Note). round_by_code (reverse ns) (now before e.moment) code) (history_notes before))
          ∙ sym (ap (λ n. round_by_code (reverse (notes_of (plain_history before))) n code) (history_now before e.moment))
          ∙ c.drawn_codes_are_free.ensures rules (plain_history before) (plain_entry (is_refused_after before e) e) [] round code
          (history_next rules before e after (is_refused_after before e) refl (subst (λ (x : List SignedEvent). Legal signed_law rules x) is legal)) pended
          drawn;
      keys_bind = λ before e after rotation token key is among rotates.
          signed_bound rules before e after rotation token key c.rotated_keys_bind.ensures
          (subst (λ (x : List SignedEvent). Legal signed_law rules x) is legal)
          (few_before before e after (subst (λ (x : List SignedEvent). length x ≤ 2 ^ 58) is few)) among rotates;
      marks_once = λ key mark. c.marks_pass_once.ensures rules h key mark legal;
    }
