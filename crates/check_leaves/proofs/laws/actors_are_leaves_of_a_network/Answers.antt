use Rattle.check_leaves.proofs.NetLeaves.{actors_are_leaves}
use Rattle.check_leaves.proofs.laws.actors_are_leaves_of_a_network.Goals as goal

pub returns : goal.returns
returns c = actors_are_leaves c.sound_actors_have_priorities.ensures
