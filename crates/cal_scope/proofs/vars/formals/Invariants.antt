use Rattle.std.proofs.Common.{map}
use Rattle.cal_ast.specs.View.{port_tree}
use Rattle.cal_scope.specs.View.{names_view}
use Rattle.cal_scope.proofs.EachOf.{formal_part, formal_next}
use Rattle.cal_scope.proofs.Loops.{IsJudgedUpTo}
use Rattle.cal_scope.proofs.vars.formals.Given as goal

abbrev pub invariant-loop-f : goal.invariant-loop-f
invariant-loop-f l = IsJudgedUpTo (formal_part (names_view l.names)) formal_next (map port_tree l.found.items) l.f-index l.formals l.here l.initial.here
