use Rattle.std.proofs.Common.{◌≡◌, false, true, [], ◌∷◌, ◌++◌, string_bytes, refl, sym, ap, ◌∙◌, arith, rules, append_assoc}
use Rattle.std.proofs.lemmas.Result.{on_ok_weaker}
use Rattle.json.specs.Token.{key}
use Rattle.serde_json.specs.Data.{members_depth}
use Rattle.serde_json.specs.Read.{of_members}
use Rattle.serde_json.specs.View.{members_view}
use Rattle.serde_json.specs.Written.{members_outline}
use Rattle.serde_json.proofs.Views.{Entry}
use Rattle.access_rights.specs.Fits.{is_own}
use Rattle.access_rights.specs.Reading.{others}
use Rattle.access_rights.proofs.Others.{others_skip, others_put}
use Rattle.access_rights.proofs.WrittenParts.{member_written, members_written}
use Rattle.access_rights.proofs.further.write_others.Goals as goal

pub loop-key-preserved-in-Continue-branch-2 : goal.loop-key-preserved-in-Continue-branch-2
loop-key-preserved-in-Continue-branch-2 c =
    let l = c.loop-key in
    let e : Entry = (c.in-Some.key.now, c.in-Some.member.now) in
    let left = c.next.new.self in
    let other : is_own (string_bytes e.0) ≡ false = ap is_own (sym c.as_str.ensures.value) ∙ sym c.is_own.ensures ∙ c.if-not-is_own.true in
    let named : c.key.new.self.tokens ≡ l.out.tokens ++ key (string_bytes e.0) ∷ [] = search rules in (
      search rules,
      member_written others _ _ _ _ l.invariant.1 e left _ _ c.in-Some.ensures.steps c.iter-key-items.ensures.ordered (rw other)
          (λ done sorted. others_put done e left sorted other) named c.in_ok-write_value.ensures.ok,
    )

pub loop-key-preserved : goal.loop-key-preserved
loop-key-preserved c =
    let l = c.loop-key in
    let ends = l.invariant.1 in
    let e : Entry = (c.in-Some.key.now, c.in-Some.member.now) in
    let left = c.next.new.self in
    let step : l.key-iterator ≡ e ∷ left = c.in-Some.ensures.steps in
    let own : is_own (string_bytes e.0) ≡ true = ap is_own (sym c.as_str.ensures.value) ∙ sym c.is_own.ensures ∙ c.if-not-is_own.false in
    let ahead : others (members_view l.key-iterator) ≡ others (members_view left) = ap (λ es. others (members_view es)) step ∙ rw own in (
      l.invariant.0,
      (
        ends.0 ++ e ∷ [],
        ends.1 ∙ ap (λ es. ends.0 ++ es) step ∙ sym (append_assoc ends.0 (e ∷ []) left),
        λ ms reads shallow same. ends.2 ms (ap (of_members ms) (sym (others_skip ends.0 e own)) ∙ reads) (omega (arith, shallow, ap members_depth ahead))
            (same ∙ ap members_outline (sym ahead)),
      ),
    )

pub returns-clause-ok : goal.returns-clause-ok
returns-clause-ok c =
    on_ok_weaker c.end_object.result (members_written others _ _ _ _ c.loop-key.invariant.1 _ c.in-None.ensures.steps.0 refl) c.end_object.ensures.ok
