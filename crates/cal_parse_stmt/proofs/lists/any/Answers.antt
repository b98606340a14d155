use Rattle.std.proofs.Common.{sym, ap, map, ◌∙◌}
use Rattle.cal_grammar.specs.Program.{Gave}
use Rattle.cal_ast.specs.Tree.{listed}
use Rattle.cal_lexer.specs.Lexeme.{plain_tokens}
use Rattle.cal_grammar.specs.Rules.{part}
use Rattle.cal_grammar.specs.Spells.{comma, any, separated}
use Rattle.cal_parse_base.specs.Tells.{each}
use Rattle.cal_parse_stmt.proofs.Declarations.{tells_jump}
use Rattle.cal_parse_stmt.proofs.Loops.{any_none, any_some}
use Rattle.cal_parse_stmt.proofs.lists.any.Goals as goal

pub returns-then-not-starts : goal.returns-then-not-starts
returns-then-not-starts g c =
    any_none c.args.room comma g.T.Read.part (plain_tokens c.args.tokens.now.now) (sym c.starts.ensures ∙ c.if-not-starts.true)
    ∙ ap (λ l. Gave (listed (map g.T.Read.tree l)) (plain_tokens c.args.tokens.now.now)) (sym c.new.ensures.items)

pub returns : goal.returns
returns g c =
    tells_jump (each g.T.Read.tree) c.args.room (part (any comma g.T.Read.part)) (part (separated comma g.T.Read.part)) c.args.tokens.now.now c.args.tokens.now.now c.separated.new.tokens.now c.separated.result
    (any_some c.args.room comma g.T.Read.part (plain_tokens c.args.tokens.now.now) (sym c.starts.ensures ∙ c.if-not-starts.false)) c.separated.ensures
