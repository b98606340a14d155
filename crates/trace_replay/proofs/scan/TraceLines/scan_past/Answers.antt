use Rattle.std.proofs.Common.{arith}
use Rattle.trace_replay.proofs.Limits.{max_is}
use Rattle.trace_replay.proofs.scan.TraceLines.scan_past.Goals as goal

pub overflow_add-self : goal.overflow_add-self
overflow_add-self g c = omega (arith, max_is, c.requires.full)
