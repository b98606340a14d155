use Rattle.std.proofs.Common.{subst}
use Rattle.net_model.specs.Cell.{FitsQueues}
use Rattle.actor_cell.specs.Core.{Core, seen}
use Rattle.actor_cell.proofs.Moved.{fits-queues}
use Rattle.actor_cell.proofs.firing.CellFiring.outs.Goals as goal

pub returns-clause-fits : goal.returns-clause-fits
returns-clause-fits c = subst (λ (core : Core). FitsQueues (seen core)) c.self.view_is (fits-queues _ c.self.invariant)
