use Rattle.cal_lexer.specs.Words.{lexeme_of}
use Rattle.cal_print.proofs.Texts.{then}
use Rattle.cal_print.proofs.Pieces.{said_signed}
use Rattle.cal_print.proofs.member.VarDeclPart.print.Goals as goal

pub returns : goal.returns
returns c =
    (then (then c.print_type.ensures c.print_ident.ensures)
    (said_signed c.args.self.now.changes (lexeme_of c.start_sign.result) c.args.self.now.start c.start_sign.ensures c.print_under.ensures))
