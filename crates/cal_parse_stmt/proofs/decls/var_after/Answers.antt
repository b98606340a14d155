use Rattle.std.proofs.Common.{◌≡◌, true, false, Err, rules, sym, ap, ◌∙◌}
use Rattle.cal_grammar.specs.Program.{Gave}
use Rattle.cal_ast.specs.Places.{begins}
use Rattle.cal_ast.specs.Tree as tree
use Rattle.cal_ast.specs.Tree.{present, absent}
use Rattle.cal_ast.specs.View.{ident_tree, type_tree, var_tree}
use Rattle.cal_lexer.specs.Lexeme.{plain_tokens}
use Rattle.cal_parse_stmt.specs.Pieces.{value_then}
use Rattle.cal_grammar.specs.Rules.{var_tail}
use Rattle.cal_parse_stmt.proofs.Declarations.{tells_rest, var_no_name, var_assign, var_plain, var_constant}
use Rattle.cal_parse_stmt.proofs.decls.var_after.Goals as goal

pub returns-in_err-name : goal.returns-in_err-name
returns-in_err-name c =
    let same : c.from_residual.result ≡ Err c.in_err-name.field-0.0 = search rules in
    rw same (var_no_name c.args.room (type_tree c.args.shape) c.args.tokens.now.now c.name.new.tokens.now c.in_err-name.field-0.0 c.in_err-name.ensures)

pub returns-then-is_word : goal.returns-then-is_word
returns-then-is_word c =
    tells_rest var_tree c.args.room (var_tail (type_tree c.args.shape)) (value_then (λ x. tree.var (type_tree c.args.shape) (ident_tree c.in_ok-name.name) (present x) true (begins (type_tree c.args.shape)))) c.args.tokens.now.now c.take_word.new.tokens.now c.var_with_start.new.tokens.now c.var_with_start.result
    (var_assign c.args.room (type_tree c.args.shape) c.in_ok-name.name c.args.tokens.now.now c.name.new.tokens.now c.in_ok-name.ensures c.take_word.result c.take_word.new.tokens.now (sym c.is_word.ensures ∙ c.if-is_word.true) c.take_word.ensures)
    c.var_with_start.ensures

pub returns-then-is_word-2 : goal.returns-then-is_word-2
returns-then-is_word-2 c =
    tells_rest var_tree c.args.room (var_tail (type_tree c.args.shape)) (value_then (λ x. tree.var (type_tree c.args.shape) (ident_tree c.in_ok-name.name) (present x) false (begins (type_tree c.args.shape)))) c.args.tokens.now.now c.take_word-then-is_word-2.new.tokens.now c.var_with_start-then-is_word-2.new.tokens.now c.var_with_start-then-is_word-2.result
    (var_constant c.args.room (type_tree c.args.shape) c.in_ok-name.name c.args.tokens.now.now c.name.new.tokens.now c.in_ok-name.ensures (sym c.is_word.ensures ∙ c.if-is_word.false) c.take_word-then-is_word-2.result c.take_word-then-is_word-2.new.tokens.now (sym c.is_word-2.ensures ∙ c.if-is_word-2.true) c.take_word-then-is_word-2.ensures)
    c.var_with_start-then-is_word-2.ensures

pub returns : goal.returns
returns c =
    var_plain c.args.room (type_tree c.args.shape) c.in_ok-name.name c.args.tokens.now.now c.name.new.tokens.now c.in_ok-name.ensures (sym c.is_word.ensures ∙ c.if-is_word.false) (sym c.is_word-2.ensures ∙ c.if-is_word-2.false)
    ∙ ap (λ q. Gave (tree.var (type_tree c.args.shape) (ident_tree c.in_ok-name.name) absent true q) (plain_tokens c.name.new.tokens.now)) (sym c.place_of-at.ensures)
