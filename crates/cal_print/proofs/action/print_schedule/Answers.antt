use Rattle.cal_ast.specs.View.{move_tree}
use Rattle.cal_print.specs.Tokens.{words}
use Rattle.cal_print.proofs.Texts.{then}
use Rattle.cal_print.proofs.Pieces.{said_of}
use Rattle.cal_print.proofs.action.print_schedule.Goals as goal

pub returns : goal.returns
returns c =
    (then c.put.ensures (then c.put-2.ensures
    (then c.print_ident.ensures (then c.put-3.ensures
    (then (said_of move_tree words c.deref.ensures.value c.print_each.ensures) c.put-4.ensures)))))
