use Rattle.std.proofs.Common.{◌≡◌}
use Rattle.cal_model.specs.Env.{find}
use Rattle.const_expr.specs.Scoping.{chain}
use Rattle.const_expr.proofs.scope.local_value.Given as goal

abbrev pub invariant-outwards : goal.invariant-outwards
invariant-outwards l = find l.name (chain l.at) ≡ find l.name (chain l.initial.at)
