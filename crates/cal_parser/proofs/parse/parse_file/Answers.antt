use Rattle.cal_ast.specs.View.{file_tree}
use Rattle.cal_lexer.specs.Lexeme.{plain_tokens}
use Rattle.cal_parser.proofs.FileAnswers.{given_spelled, given_low, given_same, rightly, only_memory}
use Rattle.cal_parser.proofs.parse.parse_file.Goals as goal

pub returns-in-Ok : goal.returns-in-Ok
returns-in-Ok c = record {
  spelled = given_spelled (plain_tokens c.args.tokens.now) (plain_tokens c.whole.new.tokens.now) (file_tree c.in-Ok.found) c.in-Ok.ensures;
  low = given_low (plain_tokens c.args.tokens.now) (plain_tokens c.whole.new.tokens.now) (file_tree c.in-Ok.found) c.in-Ok.ensures;
  refused = tt;
  read = λ x h low. given_same (plain_tokens c.args.tokens.now) (plain_tokens c.whole.new.tokens.now) (file_tree c.in-Ok.found) x c.in-Ok.ensures h low;
}

pub returns-in-Err : goal.returns-in-Err
returns-in-Err c = record {
  spelled = tt;
  low = tt;
  refused = rightly c.args.file c.args.end c.args.tokens.now c.whole.new.tokens.now c.in-Err.fault c.place.result c.answer.result c.in-Err.ensures c.place.ensures c.answer.ensures;
  read = λ x h low. only_memory c.args.file c.args.tokens.now c.whole.new.tokens.now c.in-Err.fault c.place.result c.answer.result x c.in-Err.ensures c.answer.ensures h low;
}
