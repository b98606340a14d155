use Rattle.std.proofs.Common.{sym, ◌∙◌}
use Rattle.cal_ast.specs.View.{var_tree}
use Rattle.cal_grammar.specs.Rules.{part}
use Rattle.cal_grammar.specs.Spells.{comma, separated, a_var, some_vars}
use Rattle.cal_parse_base.specs.Tells.{each}
use Rattle.cal_parse_stmt.proofs.Declarations.{no_vars, some_vars_at, tells_jump}
use Rattle.cal_parse_stmt.proofs.decls.some_vars.Goals as goal

pub returns-then-not-is_word : goal.returns-then-not-is_word
returns-then-not-is_word c = no_vars c.args.room c.new.result c.args.tokens.now.now c.new.ensures.items (sym c.is_word.ensures ∙ c.if-not-is_word.true)

pub returns : goal.returns
returns c =
    tells_jump (each var_tree) c.args.room (part some_vars) (part (separated comma a_var)) c.args.tokens.now.now c.take_word.new.tokens.now c.separated.new.tokens.now c.separated.result
    (some_vars_at c.args.room c.take_word.result c.args.tokens.now.now c.take_word.new.tokens.now (sym c.is_word.ensures ∙ c.if-not-is_word.false) c.take_word.ensures) c.separated.ensures
