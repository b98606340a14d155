use Rattle.std.proofs.Common.{map}
use Rattle.cal_ast.specs.View.{var_tree}
use Rattle.cal_scope.specs.View.{names_view}
use Rattle.cal_scope.proofs.EachOf.{var_part, var_next}
use Rattle.cal_scope.proofs.Loops.{IsJudgedUpTo}
use Rattle.cal_scope.proofs.vars.vars.Given as goal

abbrev pub invariant-loop-v : goal.invariant-loop-v
invariant-loop-v l = IsJudgedUpTo (var_part (names_view l.names)) var_next (map var_tree l.found.items) l.v-index l.vars l.here l.initial.here
