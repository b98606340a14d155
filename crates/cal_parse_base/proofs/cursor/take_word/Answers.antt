use Rattle.cal_lexer.specs.Words.{lexeme_of}
use Rattle.cal_parse_base.proofs.Taking.{word_taken}
use Rattle.cal_parse_base.proofs.cursor.take_word.Goals as goal

pub returns : goal.returns
returns c = word_taken (lexeme_of c.args.word) c.in-Some.token.now c.args.tokens.now.now c.in-Some.rest.now c.in-Some.ensures.cases.0 c.requires
