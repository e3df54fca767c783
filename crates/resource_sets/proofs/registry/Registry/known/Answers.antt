use Rattle.std.proofs.Common.{subst, sym, ◌∙◌, get_or}
use Rattle.grant_states.specs.Listed.{under}
use Rattle.resource_sets.specs.Listing.{AreListed}
use Rattle.resource_sets.proofs.Places.{known-is, unknown-is, at-none-more}
use Rattle.resource_sets.proofs.registry.Registry.known.Goals as goal

pub returns-in-Some : goal.returns-in-Some
returns-in-Some c =
    let told = c.in_ok-set.ensures in
    let is = c.in-Some.is in
    let one = get_or c.of-one-items.result.now c.loop-one.one-index (under 0 0) in
    known-is c.args.server.now c.args.rights.now c.args.self.now one.number c.in-Some.set.now c.requires.kept (rw is at told)

pub loop-one-preserved : goal.loop-one-preserved
loop-one-preserved c =
    let told = c.in_ok-set.ensures in
    let is = c.in-None.is in
    at-none-more c.args.server.now c.args.rights.now c.args.self.now c.of-one-items.result.now c.loop-one.one-index (under 0 0)
    c.loop-one.invariant (rw is at told)

pub returns : goal.returns
returns c =
    unknown-is c.args.server.now c.args.rights.now c.args.self.now c.self.inside.places.listed c.of-one-items.result.now c.loop-one.one-index
    (subst (AreListed c.self.inside.places.listed) c.self.view_is c.self.invariant)
    (λ one has key. c.of-one-items.ensures one has (key ∙ sym c.requires.print))
    c.loop-one-test.false c.loop-one.invariant
