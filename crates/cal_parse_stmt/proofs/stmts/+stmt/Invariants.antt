use Rattle.std.proofs.Common.{◌+◌, ◌*◌, map, length}
use Rattle.cal_ast.specs.View.{stmt_tree}
use Rattle.cal_grammar.specs.Rules.{part}
use Rattle.cal_parse_stmt.specs.SoFar.{HasRead}
use Rattle.cal_grammar.specs.Spells.{repeated, a_stmt}
use Rattle.cal_parse_stmt.proofs.stmts.+stmt.Given as goal

abbrev pub invariant-stmts-all : goal.invariant-stmts-all
invariant-stmts-all l = HasRead l.fn.room (part (repeated a_stmt)) l.fn.tokens.now l.tokens.now (map stmt_tree l.found.items)

abbrev pub decreases-stmts-all : goal.decreases-stmts-all
decreases-stmts-all l = length l.tokens.now

abbrev pub decreases-otherwise : goal.decreases-otherwise
decreases-otherwise l = l.room * 6 + 5

abbrev pub decreases-else_rest : goal.decreases-else_rest
decreases-else_rest l = l.room * 6 + 4

abbrev pub decreases-stmts : goal.decreases-stmts
decreases-stmts l = l.room * 6 + 3

abbrev pub decreases-stmt : goal.decreases-stmt
decreases-stmt l = l.room * 6 + 2

abbrev pub decreases-if_rest : goal.decreases-if_rest
decreases-if_rest l = l.room * 6 + 1

abbrev pub decreases-while_rest : goal.decreases-while_rest
decreases-while_rest l = l.room * 6 + 1

abbrev pub decreases-foreach_rest : goal.decreases-foreach_rest
decreases-foreach_rest l = l.room * 6 + 1

abbrev pub decreases-block_rest : goal.decreases-block_rest
decreases-block_rest l = l.room * 6 + 1

abbrev pub decreases-body_before : goal.decreases-body_before
decreases-body_before l = l.room * 6
