use Rattle.cal_lexer.specs.Lexeme.{lexeme}
use Rattle.cal_lexer.specs.Words.{lexeme_of}
use Rattle.cal_parse_base.proofs.Tests.{no_word, same_number}
use Rattle.cal_parse_base.proofs.cursor.is_same.Goals as goal

pub returns-in-None : goal.returns-in-None
returns-in-None c = no_word (lexeme_of c.args.word) (lexeme c.args.kind.now) c.in-None.ensures

pub returns-in-Some : goal.returns-in-Some
returns-in-Some c = same_number c.args.word c.in-Some.found (lexeme c.args.kind.now) c.number.result c.number-in-Some.result c.in-Some.ensures c.number.ensures c.number-in-Some.ensures
