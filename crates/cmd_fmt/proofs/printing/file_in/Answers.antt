use Rattle.cal_ast.specs.View.{file_tree}
use Rattle.cal_lexer.specs.Lexeme.{plain_tokens}
use Rattle.std.proofs.Common.{◌≡◌}
use Rattle.cmd_fmt.proofs.Printed.{all_of_grammar, read-file}
use Rattle.cmd_fmt.proofs.printing.file_in.Goals as goal

pub returns-clause-refused : goal.returns-clause-refused
returns-clause-refused c = all_of_grammar c.parse_file.result 1 c.args.text.now (plain_tokens c.args.tokens.now) c.requires.lexed c.parse_file.ensures.refused

pub returns-clause-read : goal.returns-clause-read
returns-clause-read c = λ tree is. read-file c.parse_file.result (λ f. file_tree f ≡ tree) c.args.text.now (plain_tokens c.args.tokens.now) tree c.requires.lexed is (c.parse_file.ensures.read tree)
