use Rattle.std.proofs.Common.{◌≡◌, ◌+◌, ◌-◌, ◌*◌}
use Rattle.code_ir.specs.Effect.{taken}
use Rattle.action_machine.proofs.reads.take_tokens.Given as goal

abbrev pub invariant-loop-i : goal.invariant-loop-i
invariant-loop-i g l = taken (g.T.Tokens.tokens l.tokens l.port) (l.target + l.i) (l.first + l.i * l.step) l.step (l.count - l.i) l.cells ≡ taken (g.T.Tokens.tokens l.tokens l.port) l.target l.first l.step l.count l.initial.cells
