use Rattle.std.proofs.Common.{option_map, sym, ap}
use Rattle.cal_ast.specs.View.{optional}
use Rattle.cal_print.specs.Tokens.{label}
use Rattle.cal_print.proofs.Texts.{then, reword}
use Rattle.cal_print.proofs.part.print_label.Goals as goal

pub returns-in-Some : goal.returns-in-Some
returns-in-Some g c =
    reword (then c.print.ensures c.put.ensures)
    (ap (λ part. label (optional (option_map g.T.Part.tree part))) (sym c.in-Some.is))
