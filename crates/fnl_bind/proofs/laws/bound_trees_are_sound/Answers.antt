use Rattle.fnl_bind.proofs.Once.{bound_stand_once}
use Rattle.fnl_bind.proofs.Conforming.{bound_are_sound}
use Rattle.fnl_bind.proofs.laws.bound_trees_are_sound.Goals as goal

pub returns-clause-once : goal.returns-clause-once
returns-clause-once c = bound_stand_once

pub returns-clause-sound : goal.returns-clause-sound
returns-clause-sound c = bound_are_sound
