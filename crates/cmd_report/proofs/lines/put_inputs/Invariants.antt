use Rattle.std.proofs.Common.{◌≡◌, ◌+◌, length}
use Rattle.cmd_ports.specs.Matching.{names_of}
use Rattle.cmd_report.specs.Report.{in_lines}
use Rattle.cmd_report.specs.Steps.{PutsSoFar}
use Rattle.cmd_report.proofs.lines.put_inputs.Given as goal

abbrev pub invariant-links : goal.invariant-links
invariant-links g l = (l.number + length l.rest ≡ length l.initial.rest)
    × PutsSoFar (in_lines 0 l.initial.rest (names_of l.ins) l.counts) (in_lines l.number l.rest (names_of l.ins) l.counts)
    (g.D.Drains.channels l.initial.drains) (g.D.Drains.channels l.drains)

abbrev pub decreases-links : goal.decreases-links
decreases-links g l = length l.rest
