use Rattle.std.proofs.Common.{◌+◌, map, take}
use Rattle.cal_ast.specs.Tree.{listed}
use Rattle.cal_ast.specs.View.{body_tree, stmt_tree, var_tree}
use Rattle.lower_stmt.specs.StmtSeen.{called, seen}
use Rattle.lower_stmt.proofs.AddingStmts.{AreAdded}
use Rattle.lower_base.proofs.Weights.{spread, weight}
use Rattle.lower_stmt.proofs.stmts.+lower_stmt.Given as goal

abbrev pub invariant-lower_all-loop-s : goal.invariant-lower_all-loop-s
invariant-lower_all-loop-s l = AreAdded (called l.scope) (seen l.scope) (map stmt_tree (take l.s-index l.body)) l.initial.draft l.draft

abbrev pub decreases-lower_stmt : goal.decreases-lower_stmt
decreases-lower_stmt l = weight (stmt_tree l.s.now)

abbrev pub decreases-lower_all : goal.decreases-lower_all
decreases-lower_all l = weight (listed (map stmt_tree l.body.now))

abbrev pub decreases-branch : goal.decreases-branch
decreases-branch l = 6 + weight (listed (map stmt_tree l.yes.now)) + weight (body_tree l.no.now)

abbrev pub decreases-alone : goal.decreases-alone
decreases-alone l = 4 + weight (listed (map stmt_tree l.yes.now))

abbrev pub decreases-fork : goal.decreases-fork
decreases-fork l = 4 + weight (listed (map stmt_tree l.yes.now)) + weight (listed (map stmt_tree l.no.now))

abbrev pub decreases-repeat : goal.decreases-repeat
decreases-repeat l = 4 + weight (listed (map stmt_tree l.body.now))

abbrev pub decreases-each : goal.decreases-each
decreases-each l = 4 + weight (listed (map stmt_tree l.body.now))

abbrev pub decreases-each_counted : goal.decreases-each_counted
decreases-each_counted l = 3 + weight (listed (map stmt_tree l.body.now))

abbrev pub decreases-each_between : goal.decreases-each_between
decreases-each_between l = 3 + weight (listed (map stmt_tree l.body.now))

abbrev pub decreases-each_body : goal.decreases-each_body
decreases-each_body l = 2 + weight (listed (map stmt_tree l.body.now))

abbrev pub decreases-block : goal.decreases-block
decreases-block l = 4 + spread (listed (map var_tree l.vars.now)) + weight (listed (map stmt_tree l.body.now))

abbrev pub decreases-one_variable : goal.decreases-one_variable
decreases-one_variable l = 6 + spread (listed (map var_tree l.rest.now)) + weight (listed (map stmt_tree l.body.now))

abbrev pub decreases-list_variable : goal.decreases-list_variable
decreases-list_variable l = 6 + spread (listed (map var_tree l.rest.now)) + weight (listed (map stmt_tree l.body.now))

abbrev pub decreases-behind : goal.decreases-behind
decreases-behind l = 5 + spread (listed (map var_tree l.rest.now)) + weight (listed (map stmt_tree l.body.now))
