use Rattle.lower_actor.specs.Calls.{unmade}
use Rattle.lower_actor.proofs.functions.+lower_left.Given as goal

abbrev pub decreases-lower_left : goal.decreases-lower_left
decreases-lower_left l = unmade l.made.now.items
