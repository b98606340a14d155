use Rattle.network_check.proofs.Places.{one_of}
use Rattle.network_check.proofs.joining.one_actor.Goals as goal

pub returns : goal.returns
returns c = one_of c.args.found.now.actors.items c.args.found.now.of_leaf.items c.requires.actor c.index.result.now c.index-2.result.now c.requires.is c.requires.within c.index.ensures c.index-2.ensures
