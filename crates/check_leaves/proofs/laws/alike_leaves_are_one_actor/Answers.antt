use Rattle.check_leaves.proofs.LikeLeaves.{alike_are_one}
use Rattle.check_leaves.proofs.laws.alike_leaves_are_one_actor.Goals as goal

pub returns : goal.returns
returns c = alike_are_one
