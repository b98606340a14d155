use Rattle.cal_ast.specs.View.{member_tree}
use Rattle.cal_print.specs.Tokens.{each_member}
use Rattle.cal_print.proofs.Texts.{then}
use Rattle.cal_print.proofs.Pieces.{said_of}
use Rattle.cal_print.proofs.file.print_unit.Goals as goal

pub returns : goal.returns
returns c =
    (then c.put.ensures (then c.print_ident.ensures
    (then c.put-2.ensures (then (said_of member_tree each_member c.deref.ensures.value c.print_members.ensures)
    c.put-3.ensures))))
