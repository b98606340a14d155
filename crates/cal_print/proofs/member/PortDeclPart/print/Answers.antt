use Rattle.cal_print.proofs.Texts.{then}
use Rattle.cal_print.proofs.member.PortDeclPart.print.Goals as goal

pub returns : goal.returns
returns c = (then c.print_type.ensures c.print_ident.ensures)
