use Rattle.code_ir.specs.Running.{Reaches, start}
use Rattle.code_ir.specs.Standing.{Stands, most_steps}
use Rattle.action_machine.specs.Machine.{state_of}
use Rattle.action_machine.proofs.run.run_in.Given as goal

abbrev pub invariant-steps : goal.invariant-steps
invariant-steps g l = record {
  stands : Stands l.code (state_of l.at l.stack l.frames l.cells);
  reaches : Reaches l.code (g.T.Tokens.tokens l.tokens) (start l.entry l.initial.cells) (state_of l.at l.stack l.frames l.cells);
}

abbrev pub decreases-steps : goal.decreases-steps
decreases-steps g l = most_steps l.code (state_of l.at l.stack l.frames l.cells)
