use Rattle.std.proofs.Common.{[], ◌∷◌, ◌++◌, map}
use Rattle.cal_ast.specs.Tree.{listed, if_stmt, while_stmt, foreach_stmt, block}
use Rattle.cal_ast.specs.View.{expr_tree, type_tree, ident_tree, stmt_tree, var_tree, body_tree}
use Rattle.cal_lexer.specs.Lexeme.{Lexeme}
use Rattle.cal_print.specs.Tokens.{words, under}
use Rattle.cal_print.proofs.Texts.{then, as_tree}
use Rattle.cal_print.proofs.Between.{between_then, head_then}
use Rattle.cal_print.proofs.Loops.{words_more, loop_step}
use Rattle.cal_print.proofs.StmtForms.{stmt_if, stmt_while, stmt_foreach, stmt_block}
use Rattle.cal_print.proofs.stmt.+print_stmt.Goals as goal

pub print_stmt-returns-in-If : goal.print_stmt-returns-in-If
print_stmt-returns-in-If t c =
    as_tree (if_stmt (expr_tree c.in-If.test) (listed (map stmt_tree c.deref-in-If.result.now)) (body_tree c.in-If.no) c.args.stmt.now.at) (stmt_tree c.args.stmt.now)
    (between_then Lexeme.If (words (expr_tree c.in-If.test)) Lexeme.Then (words (listed (map stmt_tree c.deref-in-If.result.now)) ++ under Lexeme.Else (body_tree c.in-If.no) ++ (Lexeme.End ∷ []))
    c.print_between.ensures
    (then (then c.print_stmts.ensures
    c.print_body.ensures)
    c.put.ensures))
    (stmt_if c.args.stmt.now c.in-If.test c.in-If.yes c.in-If.no c.deref-in-If.result.now c.in-If.is c.deref-in-If.ensures.value)

pub print_stmt-returns-in-While : goal.print_stmt-returns-in-While
print_stmt-returns-in-While t c =
    as_tree (while_stmt (expr_tree c.in-While.test) (listed (map stmt_tree c.deref-in-While.result.now)) c.args.stmt.now.at) (stmt_tree c.args.stmt.now)
    (between_then Lexeme.While (words (expr_tree c.in-While.test)) Lexeme.Do (words (listed (map stmt_tree c.deref-in-While.result.now)) ++ (Lexeme.End ∷ []))
    c.print_between-in-While.ensures
    (then c.print_stmts-in-While.ensures
    c.put-in-While.ensures))
    (stmt_while c.args.stmt.now c.in-While.test c.in-While.body c.deref-in-While.result.now c.in-While.is c.deref-in-While.ensures.value)

pub print_stmt-returns-in-Foreach : goal.print_stmt-returns-in-Foreach
print_stmt-returns-in-Foreach t c =
    as_tree (foreach_stmt (type_tree c.in-Foreach.shape) (ident_tree c.in-Foreach.name) (expr_tree c.in-Foreach.from) (expr_tree c.in-Foreach.to) (listed (map stmt_tree c.deref-in-Foreach.result.now)) c.args.stmt.now.at) (stmt_tree c.args.stmt.now)
    (head_then (words (type_tree c.in-Foreach.shape)) (words (ident_tree c.in-Foreach.name)) (words (expr_tree c.in-Foreach.from)) (words (expr_tree c.in-Foreach.to))
    (words (listed (map stmt_tree c.deref-in-Foreach.result.now)) ++ (Lexeme.End ∷ []))
    c.print_foreach.ensures
    (then c.print_stmts-in-Foreach.ensures
    c.put-in-Foreach.ensures))
    (stmt_foreach c.args.stmt.now c.in-Foreach.shape c.in-Foreach.name c.in-Foreach.from c.in-Foreach.to c.in-Foreach.body c.deref-in-Foreach.result.now c.in-Foreach.is c.deref-in-Foreach.ensures.value)

pub print_stmt-returns-in-Block : goal.print_stmt-returns-in-Block
print_stmt-returns-in-Block t c =
    as_tree (block (listed (map var_tree c.deref-in-Block.result.now)) (listed (map stmt_tree c.deref-in-Block-2.result.now)) c.args.stmt.now.at) (stmt_tree c.args.stmt.now)
    (then c.put-in-Block.ensures
    (then (then c.print_block_vars.ensures
    c.print_stmts-in-Block.ensures)
    c.put-in-Block-2.ensures))
    (stmt_block c.args.stmt.now c.in-Block.vars c.in-Block.body c.deref-in-Block.result.now c.deref-in-Block-2.result.now c.in-Block.is c.deref-in-Block.ensures.value c.deref-in-Block-2.ensures.value)

pub print_stmts-loop-stmt-preserved : goal.print_stmts-loop-stmt-preserved
print_stmts-loop-stmt-preserved t c =
    loop_step stmt_tree words words (λ ys y. words_more (map stmt_tree ys) (stmt_tree y))
    c.args.stmts.now c.stmt-item.result c.loop-stmt.stmt-index c.loop-stmt-test.true c.stmt-item.is c.loop-stmt.invariant c.print_stmt.ensures
