use Rattle.std.proofs.Common.{◌≡◌, ◌+◌, length}
use Rattle.cmd_ports.specs.Matching.{names_of}
use Rattle.cmd_report.specs.Report.{out_lines}
use Rattle.cmd_report.specs.Steps.{PutsSoFar}
use Rattle.cmd_report.proofs.lines.put_outputs.Given as goal

abbrev pub invariant-outs : goal.invariant-outs
invariant-outs g l = (l.number + length l.rest ≡ length l.initial.rest)
    × PutsSoFar (out_lines 0 (names_of l.initial.rest) l.counts) (out_lines l.number (names_of l.rest) l.counts)
    (g.D.Drains.channels l.initial.drains) (g.D.Drains.channels l.drains)

abbrev pub decreases-outs : goal.decreases-outs
decreases-outs g l = length l.rest
