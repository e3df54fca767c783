use Rattle.std.proofs.Common.{ap, sym, refl, slice_get, ◌∙◌}
use Rattle.std.specs.Option.{option_map}
use Rattle.gnap_model.proofs.KeyPlaces.{found_none, found_within, found_row}
use Rattle.gnap_model.proofs.key_rows.KeyRows.get.Goals as goal

pub returns-in_err-place : goal.returns-in_err-place
returns-in_err-place c =
    ap (option_map (λ k. k.now)) c.from_residual.ensures
    ∙ found_none c.self.inside.places c.self.inside.rows c.args.self.now c.args.id.now c.self.invariant c.self.view_is c.in_err-place.ensures.value

pub at-requires : goal.at-requires
at-requires c = found_within c.self.inside.places c.self.inside.rows c.self.inside.rows c.args.id.now c.self.invariant refl c.in_ok-place.place.now
    c.in_ok-place.ensures.value

pub returns : goal.returns
returns c =
    found_row c.self.inside.places c.self.inside.rows c.args.self.now c.args.id.now c.self.invariant c.self.view_is c.in_ok-place.place.now c.at.result.now
    c.in_ok-place.ensures.value (sym (ap (λ l. slice_get l c.in_ok-place.place.now) c.self.view_is) ∙ c.at.ensures)
