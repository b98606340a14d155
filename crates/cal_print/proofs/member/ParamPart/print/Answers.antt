use Rattle.cal_lexer.specs.Lexeme.{Lexeme}
use Rattle.cal_print.proofs.Texts.{then}
use Rattle.cal_print.proofs.Pieces.{said_start}
use Rattle.cal_print.proofs.member.ParamPart.print.Goals as goal

pub returns : goal.returns
returns c =
    (then (then c.print_type.ensures c.print_ident.ensures)
    (said_start Lexeme.Equal c.args.self.now.start c.print_under.ensures))
