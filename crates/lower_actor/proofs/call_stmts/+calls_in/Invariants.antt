use Rattle.std.proofs.Common.{◌≡◌, ◌≤◌, ◌+◌, length}
use Rattle.cal_ast.specs.View.{body_tree, stmt_tree}
use Rattle.lower_actor.specs.Calls.{stmts_tree}
use Rattle.lower_actor.specs.Calls.{with_calls}
use Rattle.lower_actor.proofs.Sizes.{size}
use Rattle.lower_actor.proofs.call_stmts.+calls_in.Given as goal

abbrev pub invariant-add_stmts-stmts : goal.invariant-add_stmts-stmts
invariant-add_stmts-stmts l = (with_calls l.b (stmts_tree l.rest) l.calls ≡ with_calls l.b (stmts_tree l.body) l.initial.calls) × (size (stmts_tree l.rest) ≤ size (stmts_tree l.body))

abbrev pub decreases-add_stmts-stmts : goal.decreases-add_stmts-stmts
decreases-add_stmts-stmts l = length l.rest

-- how large the statements are, and a rank among the functions

abbrev pub decreases-add_stmt : goal.decreases-add_stmt
decreases-add_stmt l = size (stmt_tree l.s.now)

abbrev pub decreases-add_if : goal.decreases-add_if
decreases-add_if l = 4 + size (stmts_tree l.yes.now) + size (body_tree l.no.now)

abbrev pub decreases-add_while : goal.decreases-add_while
decreases-add_while l = 4 + size (stmts_tree l.body.now)

abbrev pub decreases-add_foreach : goal.decreases-add_foreach
decreases-add_foreach l = 4 + size (stmts_tree l.body.now)

abbrev pub decreases-add_block : goal.decreases-add_block
decreases-add_block l = 4 + size (stmts_tree l.body.now)

abbrev pub decreases-add_stmts : goal.decreases-add_stmts
decreases-add_stmts l = 2 + size (stmts_tree l.body.now)

abbrev pub decreases-add_optional_stmts : goal.decreases-add_optional_stmts
decreases-add_optional_stmts l = size (body_tree l.body.now)
