use Rattle.std.proofs.Common.{arith}
use Rattle.trace_replay.proofs.Limits.{max_is}
use Rattle.trace_replay.proofs.reading.Trace.next_line.Goals as goal

pub overflow_add-self : goal.overflow_add-self
overflow_add-self g c = omega (arith, max_is, c.requires.counted.lines, c.requires.counted.within)

pub overflow_add-self-then-is_ok : goal.overflow_add-self-then-is_ok
overflow_add-self-then-is_ok g c = omega (arith, max_is, c.requires.counted.lines, c.requires.counted.within)
