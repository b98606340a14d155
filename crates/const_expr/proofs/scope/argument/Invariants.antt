use Rattle.std.proofs.Common.{◌≡◌, ◌≤◌, length, take}
use Rattle.cal_model.specs.Env.{find}
use Rattle.const_expr.specs.Scoping.{frame}
use Rattle.const_expr.proofs.scope.argument.Given as goal

abbrev pub invariant-backwards : goal.invariant-backwards
invariant-backwards l = (l.place ≤ length l.formals) × (l.place ≤ length l.arguments) × (find l.name (frame (take l.place l.formals) (take l.place l.arguments)) ≡ find l.name (frame l.formals l.arguments))

abbrev pub decreases-backwards : goal.decreases-backwards
decreases-backwards l = l.place
