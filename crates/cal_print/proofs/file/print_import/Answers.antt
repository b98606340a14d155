use Rattle.cal_ast.specs.View.{ident_tree}
use Rattle.cal_print.specs.Tokens.{dotted}
use Rattle.cal_print.proofs.Texts.{then}
use Rattle.cal_print.proofs.Pieces.{said_of}
use Rattle.cal_print.proofs.file.print_import.Goals as goal

pub returns : goal.returns
returns c =
    (then c.put.ensures
    (then (then (said_of ident_tree dotted c.deref.ensures.value c.print_path.ensures) c.print_last.ensures)
    c.put-2.ensures))
