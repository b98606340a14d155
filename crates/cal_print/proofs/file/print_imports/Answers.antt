use Rattle.std.proofs.Common.{map}
use Rattle.cal_ast.specs.View.{import_tree}
use Rattle.cal_print.specs.Tokens.{words}
use Rattle.cal_print.proofs.Loops.{words_more, loop_step, loop_all}
use Rattle.cal_print.proofs.file.print_imports.Goals as goal

pub returns : goal.returns
returns c = loop_all import_tree words c.args.imports.now c.loop-import.import-index c.loop-import-test.false c.loop-import.invariant

pub loop-import-preserved : goal.loop-import-preserved
loop-import-preserved c =
    loop_step import_tree words words (λ ys y. words_more (map import_tree ys) (import_tree y))
    c.args.imports.now c.import-item.result c.loop-import.import-index c.loop-import-test.true c.import-item.is c.loop-import.invariant c.print_import.ensures
