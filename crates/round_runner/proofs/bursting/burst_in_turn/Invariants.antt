use Rattle.net_model.specs.Paced.{count_picked}
use Rattle.net_state.specs.Held.{seen}
use Rattle.round_runner.proofs.UpTo.{IsBursting, IsSpent}
use Rattle.round_runner.proofs.bursting.burst_in_turn.Given as goal

abbrev pub invariant-loop-i : goal.invariant-loop-i
invariant-loop-i g l =
    IsBursting (record { burst = l.burst; left = l.left; picks = count_picked l.marks }) l.marks l.burst l.i l.k l.made.fired l.made.trap l.made.lacks
    (seen g.A.Firing.cell l.initial.net) (seen g.A.Firing.cell l.net)
    × IsSpent l.burst l.left l.picks l.k l.made.fired
