use Rattle.std.proofs.Common.{◌≡◌, length, map}
use Rattle.cal_ast.specs.Tree.{listed}
use Rattle.cal_ast.specs.View.{ident_tree}
use Rattle.cal_scope.specs.Expressions.{declared_by}
use Rattle.cal_scope.specs.Members.{names_judged}
use Rattle.cal_scope.proofs.actions.pattern_variables.Given as goal

abbrev pub invariant-names : goal.invariant-names
invariant-names l =
    (names_judged (listed (map ident_tree l.rest)) l.here ≡ names_judged (listed (map ident_tree l.initial.rest)) l.initial.here)
    × (declared_by (listed (map ident_tree l.rest)) l.here ≡ declared_by (listed (map ident_tree l.initial.rest)) l.initial.here)

abbrev pub decreases-names : goal.decreases-names
decreases-names l = length l.rest
