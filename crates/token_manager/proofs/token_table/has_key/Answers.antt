use Rattle.std.proofs.Common.{Some, None}
use Rattle.token_manager.proofs.TokenLemmas.{key_found}
use Rattle.token_manager.proofs.token_table.has_key.Goals as goal

pub returns-in-Some : goal.returns-in-Some
returns-in-Some g c = key_found g.T.Keyed.key_of c.args.items.now c.place_of.result c.args.key c.requires c.place_of.ensures (Some c.in-Some.found)
    c.in-Some.ensures

pub returns-in-None : goal.returns-in-None
returns-in-None g c = key_found g.T.Keyed.key_of c.args.items.now c.place_of.result c.args.key c.requires c.place_of.ensures None c.in-None.ensures
