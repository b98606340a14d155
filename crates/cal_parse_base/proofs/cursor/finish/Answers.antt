use Rattle.std.proofs.Common.{refl, sym, ◌∙◌}
use Rattle.cal_lexer.specs.Words.{lexeme_of}
use Rattle.cal_parse_base.proofs.Taking.{end_taken, long_taken, no_end}
use Rattle.cal_parse_base.proofs.cursor.finish.Goals as goal

pub returns-then-is_word : goal.returns-then-is_word
returns-then-is_word c = end_taken (lexeme_of c.args.opener) c.take_word.result c.args.tokens.now.now c.take_word.new.tokens.now c.take_word.ensures

pub returns-then-is_word-2 : goal.returns-then-is_word-2
returns-then-is_word-2 c = long_taken (lexeme_of c.args.opener) (lexeme_of c.long_end-long.result) c.take_word-then-is_word-2.result c.args.tokens.now.now c.take_word-then-is_word-2.new.tokens.now c.long_end-long.ensures c.take_word-then-is_word-2.ensures

pub returns : goal.returns
returns c = (no_end (lexeme_of c.args.opener) (lexeme_of c.long_end-long.result) c.args.tokens.now.now c.long_end-long.ensures (sym c.is_word.ensures ∙ c.if-is_word.false) (sym c.is_word-2.ensures ∙ c.if-is_word-2.false), refl)
