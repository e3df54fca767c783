use Rattle.std.proofs.Common.{rules, sym, subst}
use Rattle.structured_fields.specs.Named.{IsDistinct}
use Rattle.structured_fields.proofs.Entries.{distinct_set}
use Rattle.hmac_key.proofs.Rings.{set_new}
use Rattle.hmac_key.proofs.keyring.Keyring.add.Goals as goal

pub invariant_of-self-2 : goal.invariant_of-self-2
invariant_of-self-2 c = subst IsDistinct (sym c.in_ok-set.ensures.ok) (distinct_set c.self.inside.secrets c.in_ok-copy.field-0 c.new.result c.self.invariant)

pub returns-clause-ok : goal.returns-clause-ok
returns-clause-ok c = rw (c.in_ok-set.ensures.ok, c.in_ok-copy.ensures, c.new.ensures, c.in_ok-copy-2.ensures, c.self.view_is)
    (set_new c.args.self.now c.args.id.now c.args.secret.now (search rules))
