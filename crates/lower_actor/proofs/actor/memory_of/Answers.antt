use Rattle.std.proofs.Common.{subst}
use Rattle.lower_actor.specs.Faults.{IsActorFault}
use Rattle.lower_actor.proofs.WholeActors.{no-part}
use Rattle.lower_actor.proofs.actor.memory_of.Goals as goal

pub unreachable-requires : goal.unreachable-requires
unreachable-requires c = no-part c.args.b.now c.in-NotLowered.at c.requires.sound (subst (IsActorFault c.args.b.now) c.in-NotLowered.is c.requires.fault)
