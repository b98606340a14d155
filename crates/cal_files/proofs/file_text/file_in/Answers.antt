use Rattle.cal_ast.specs.View.{file_tree}
use Rattle.cal_lexer.specs.Lexeme.{plain_tokens}
use Rattle.cal_files.proofs.Texts.{all_of_grammar, spelled_file}
use Rattle.cal_files.proofs.file_text.file_in.Goals as goal

pub returns-clause-spelled : goal.returns-clause-spelled
returns-clause-spelled c = spelled_file file_tree c.parse_file.result c.args.text.now (plain_tokens c.args.tokens.now) c.requires.lexed c.parse_file.ensures.spelled c.parse_file.ensures.low

pub returns-clause-refused : goal.returns-clause-refused
returns-clause-refused c = all_of_grammar c.parse_file.result c.args.number c.args.text.now (plain_tokens c.args.tokens.now) c.requires.lexed c.parse_file.ensures.refused
