use Rattle.cal_ast.specs.View.{import_tree}
use Rattle.cal_print.specs.Tokens.{words}
use Rattle.cal_print.proofs.Texts.{then}
use Rattle.cal_print.proofs.Pieces.{said_of}
use Rattle.cal_print.proofs.file.print_whole.Goals as goal

pub returns : goal.returns
returns c =
    (then (then c.print_package.ensures
    (said_of import_tree words c.deref.ensures.value c.print_imports.ensures))
    c.print_body.ensures)
