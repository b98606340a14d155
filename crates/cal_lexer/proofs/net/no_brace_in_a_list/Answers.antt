use Rattle.cal_lexer.proofs.Braces.{list_braceless}
use Rattle.cal_lexer.proofs.net.no_brace_in_a_list.Goals as goal

pub returns : goal.returns
returns c = λ text tokens l. list_braceless l
