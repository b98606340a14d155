use Rattle.std.proofs.Common.{option_map, sym, ap}
use Rattle.cal_ast.specs.View.{optional, tag_tree}
use Rattle.cal_print.specs.Tokens.{packaged}
use Rattle.cal_print.proofs.Texts.{then, reword}
use Rattle.cal_print.proofs.file.print_package.Goals as goal

pub returns-in-Some : goal.returns-in-Some
returns-in-Some c =
    reword (then c.put.ensures (then c.print_tag.ensures c.put-in-Some.ensures))
    (ap (λ named. packaged (optional (option_map tag_tree named))) (sym c.in-Some.is))
