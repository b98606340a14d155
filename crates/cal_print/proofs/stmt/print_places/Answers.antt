use Rattle.std.proofs.Common.{[], ◌∷◌, ◌++◌, map}
use Rattle.cal_ast.specs.View.{expr_tree}
use Rattle.cal_lexer.specs.Lexeme.{Lexeme}
use Rattle.cal_print.specs.Tokens.{words, each_place}
use Rattle.cal_print.proofs.Loops.{place_more, loop_step, loop_all}
use Rattle.cal_print.proofs.stmt.print_places.Goals as goal

pub returns : goal.returns
returns c = loop_all expr_tree each_place c.args.places.now c.loop-place.place-index c.loop-place-test.false c.loop-place.invariant

pub loop-place-preserved : goal.loop-place-preserved
loop-place-preserved c =
    loop_step expr_tree each_place (λ x. Lexeme.LeftBracket ∷ words x ++ (Lexeme.RightBracket ∷ [])) (λ ys y. place_more (map expr_tree ys) (expr_tree y))
    c.args.places.now c.place-item.result c.loop-place.place-index c.loop-place-test.true c.place-item.is c.loop-place.invariant c.print_between.ensures
