use Rattle.std.proofs.Common.{[], ◌∷◌, ◌++◌, map}
use Rattle.cal_ast.specs.View.{ident_tree}
use Rattle.cal_lexer.specs.Lexeme.{Lexeme}
use Rattle.cal_print.specs.Tokens.{words, dotted}
use Rattle.cal_print.proofs.Texts.{then}
use Rattle.cal_print.proofs.Loops.{dotted_more, loop_step, loop_all}
use Rattle.cal_print.proofs.file.print_path.Goals as goal

pub returns : goal.returns
returns c = loop_all ident_tree dotted c.args.path.now c.loop-name.name-index c.loop-name-test.false c.loop-name.invariant

pub loop-name-preserved : goal.loop-name-preserved
loop-name-preserved c =
    loop_step ident_tree dotted (λ t. words t ++ (Lexeme.Dot ∷ [])) (λ ys y. dotted_more (map ident_tree ys) (ident_tree y))
    c.args.path.now c.name-item.result c.loop-name.name-index c.loop-name-test.true c.name-item.is c.loop-name.invariant
    (then c.print_ident.ensures c.put.ensures)
