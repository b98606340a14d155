use Rattle.std.proofs.Common.{map}
use Rattle.cal_print.specs.Tokens.{words}
use Rattle.cal_print.proofs.Loops.{words_more, loop_step, loop_all}
use Rattle.cal_print.proofs.part.print_each.Goals as goal

pub returns : goal.returns
returns g c = loop_all g.T.Part.tree words c.args.parts.now c.loop-part.part-index c.loop-part-test.false c.loop-part.invariant

pub loop-part-preserved : goal.loop-part-preserved
loop-part-preserved g c =
    loop_step g.T.Part.tree words words (λ ys y. words_more (map g.T.Part.tree ys) (g.T.Part.tree y))
    c.args.parts.now c.part-item.result c.loop-part.part-index c.loop-part-test.true c.part-item.is c.loop-part.invariant c.print.ensures
