use Rattle.std.proofs.Common.{map}
use Rattle.cal_ast.specs.View.{pattern_tree}
use Rattle.cal_scope.specs.PortView.{ports_view}
use Rattle.cal_scope.specs.View.{names_view}
use Rattle.cal_scope.proofs.EachOf.{pattern_next, pattern_part}
use Rattle.cal_scope.proofs.Loops.{IsJudgedUpTo}
use Rattle.cal_scope.proofs.actions.patterns.Given as goal

abbrev pub invariant-loop-p : goal.invariant-loop-p
invariant-loop-p l = IsJudgedUpTo (pattern_part (ports_view l.ports) (names_view l.names)) pattern_next (map pattern_tree l.found.items) l.p-index l.patterns l.here l.initial.here
