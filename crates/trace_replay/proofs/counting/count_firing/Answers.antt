use Rattle.std.proofs.Common.{arith}
use Rattle.trace_replay.proofs.Limits.{max_is}
use Rattle.trace_replay.proofs.counting.count_firing.Goals as goal

pub overflow_add-numbers : goal.overflow_add-numbers
overflow_add-numbers c = omega (arith, max_is, c.requires.few)
