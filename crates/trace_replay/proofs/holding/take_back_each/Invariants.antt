use Rattle.std.proofs.Common.{◌≤◌, length}
use Rattle.net_state.specs.Held.{seen}
use Rattle.trace_replay.specs.Holding.{came_counts}
use Rattle.trace_replay.proofs.Stacks.{IsTakingEach}
use Rattle.trace_replay.proofs.holding.take_back_each.Given as goal

abbrev pub invariant-links : goal.invariant-links
invariant-links g l = record {
  so_far : IsTakingEach l.l (came_counts l.came) (seen g.A.Firing.cell l.initial.state) (seen g.A.Firing.cell l.state) l.initial.stacks l.stacks;
  low : l.l ≤ length l.links;
}

abbrev pub decreases-links : goal.decreases-links
decreases-links g l = l.l
