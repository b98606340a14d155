use Rattle.std.proofs.Common.{◌+◌, ◌*◌}
use Rattle.claimed_bursts.proofs.joining.+crews.Given as goal

abbrev pub decreases-work_part : goal.decreases-work_part
decreases-work_part g l = 4 * l.crew.count + 3

abbrev pub decreases-work_halves : goal.decreases-work_halves
decreases-work_halves g l = 4 * l.crew.count + 2

abbrev pub decreases-work_both : goal.decreases-work_both
decreases-work_both g l = 4 * (l.low_crew.count + l.high_crew.count) + 1

abbrev pub decreases-work_both-join_mut+arg2 : goal.decreases-work_both-join_mut+arg2
decreases-work_both-join_mut+arg2 g l = 4 * l.high_crew.count + 4

abbrev pub decreases-work_both-join_mut+arg3 : goal.decreases-work_both-join_mut+arg3
decreases-work_both-join_mut+arg3 g l = 4 * l.low_crew.count + 4
