use Rattle.std.proofs.Common.{rules, ◌≡◌, ◌∷◌, map}
use Rattle.cal_print.specs.Tokens.{words, following}
use Rattle.cal_lexer.specs.Words.{lexeme_of}
use Rattle.cal_print.proofs.Texts.{then}
use Rattle.cal_print.proofs.Loops.{following_more, loop_step, joined_all}
use Rattle.cal_print.proofs.part.print_joined.Goals as goal

pub returns : goal.returns
returns g c =
    let split : c.args.parts.now ≡ c.in-Some.first.now ∷ c.in-Some.others.now = search rules in
    joined_all g.T.Part.tree (lexeme_of c.args.mark) c.args.parts.now c.in-Some.first.now c.in-Some.others.now c.loop-part.part-index split c.loop-part-test.false c.print.ensures c.loop-part.invariant

pub loop-part-preserved : goal.loop-part-preserved
loop-part-preserved g c =
    loop_step g.T.Part.tree (following (lexeme_of c.args.mark)) (λ x. lexeme_of c.args.mark ∷ words x) (λ ys y. following_more (lexeme_of c.args.mark) (map g.T.Part.tree ys) (g.T.Part.tree y))
    c.in-Some.others.now c.part-item.result c.loop-part.part-index c.loop-part-test.true c.part-item.is c.loop-part.invariant
    (then c.put.ensures c.print-in-loop-part.ensures)
