use Rattle.cal_print.proofs.Texts.{then}
use Rattle.cal_print.proofs.stmt.print_assign.Goals as goal

pub returns : goal.returns
returns c =
    (then (then c.print_ident.ensures c.print_places.ensures)
    c.print_between.ensures)
