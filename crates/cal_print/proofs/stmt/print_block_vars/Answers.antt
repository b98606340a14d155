use Rattle.std.proofs.Common.{[], ◌∷◌, ◌++◌, map, sym}
use Rattle.cal_ast.specs.Tree.{listed}
use Rattle.cal_ast.specs.View.{var_tree}
use Rattle.cal_lexer.specs.Lexeme.{Lexeme}
use Rattle.cal_print.specs.Tokens.{joined}
use Rattle.cal_print.proofs.Texts.{then, reword}
use Rattle.cal_print.proofs.Present.{where_not_empty}
use Rattle.cal_print.proofs.stmt.print_block_vars.Goals as goal

pub returns : goal.returns
returns c =
    reword (then c.put.ensures (then c.print_joined.ensures c.put-2.ensures))
    (sym (where_not_empty var_tree c.args.vars.now (Lexeme.Var ∷ joined Lexeme.Comma (listed (map var_tree c.args.vars.now)) ++ (Lexeme.Do ∷ [])) c.if-is_empty.ensures))
