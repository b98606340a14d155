use Rattle.law_bodies.proofs.Actions.{firing_of_none, guards_of_none}
use Rattle.law_bodies.proofs.laws.nothing_is_left_out_of_actions.Goals as goal

pub returns : goal.returns
returns c = λ rs b a sound have. (guards_of_none rs b a sound have, firing_of_none rs b a sound have)
