use Rattle.std.proofs.Common.{◌≡◌, ◌+◌, ◌-◌}
use Rattle.code_ir.specs.Effect.{copied}
use Rattle.action_machine.proofs.ranges.copy_cells.Given as goal

abbrev pub invariant-loop-k : goal.invariant-loop-k
invariant-loop-k l = copied l.t (l.target + l.k) (l.source + l.k) (l.count - l.k) l.cells ≡ copied l.t l.target l.source l.count l.initial.cells
