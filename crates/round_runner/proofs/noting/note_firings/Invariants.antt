use Rattle.std.specs.Prelude.{flat_map, map, take}
use Rattle.trace_text.specs.Text.{line_text}
use Rattle.net_model.specs.Paced.{fire_lines}
use Rattle.round_runner.specs.Firings.{journals}
use Rattle.round_runner.proofs.Written.{IsWritten}
use Rattle.round_runner.proofs.noting.note_firings.Given as goal

abbrev pub invariant-loop-i : goal.invariant-loop-i
invariant-loop-i g l =
    IsWritten 1 (flat_map line_text (fire_lines 0 (take l.i (journals (map g.A.Firing.cell l.net.cells))))) l.initial.trace l.trace
    (g.D.Drains.channels l.initial.drains) (g.D.Drains.channels l.drains)
