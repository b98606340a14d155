use Rattle.std.proofs.Common.{◌+◌, ◌*◌}
use Rattle.net_state.proofs.sharing.+shared.Given as goal

abbrev pub decreases-burst_part : goal.decreases-burst_part
decreases-burst_part g l = 4 * l.crew.count + 3

abbrev pub decreases-burst_halves : goal.decreases-burst_halves
decreases-burst_halves g l = 4 * l.crew.count + 2

abbrev pub decreases-burst_both : goal.decreases-burst_both
decreases-burst_both g l = 4 * (l.low_crew.count + l.high_crew.count) + 1

abbrev pub decreases-burst_both-join_mut+arg2 : goal.decreases-burst_both-join_mut+arg2
decreases-burst_both-join_mut+arg2 g l = 4 * l.high_crew.count + 4

abbrev pub decreases-burst_both-join_mut+arg3 : goal.decreases-burst_both-join_mut+arg3
decreases-burst_both-join_mut+arg3 g l = 4 * l.low_crew.count + 4
