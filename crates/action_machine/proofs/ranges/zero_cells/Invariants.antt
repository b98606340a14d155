use Rattle.std.proofs.Common.{◌≡◌, ◌+◌, ◌-◌}
use Rattle.code_ir.specs.Effect.{zeroed}
use Rattle.action_machine.proofs.ranges.zero_cells.Given as goal

abbrev pub invariant-loop-k : goal.invariant-loop-k
invariant-loop-k l = zeroed (l.target + l.k) (l.count - l.k) l.cells ≡ zeroed l.target l.count l.initial.cells
