use Rattle.std.proofs.Common.{◌≡◌, Err, rules}
use Rattle.cal_ast.specs.View.{pattern_tree}
use Rattle.cal_lexer.specs.Lexeme.{plain_tokens}
use Rattle.cal_grammar.specs.Rules.{part, in_body}
use Rattle.cal_grammar.specs.Spells.{an_in}
use Rattle.cal_parse_member.proofs.Openings.{opening_fails, opening_goes_on}
use Rattle.cal_grammar.proofs.Reading.{read_is}
use Rattle.cal_parse_member.proofs.actions.pattern.Goals as goal

pub returns-in_err-from : goal.returns-in_err-from
returns-in_err-from c =
    let same : c.from_residual.result ≡ Err c.in_err-from.field-0.0 = search rules in
    rw same (opening_fails c.args.room (part an_in) in_body c.args.tokens.now.now (read_is c.args.room (part an_in) (plain_tokens c.args.tokens.now.now)) c.read_opening.new.tokens.now c.in_err-from.field-0.0 c.in_err-from.ensures)

pub returns : goal.returns
returns c =
    opening_goes_on c.args.room (part an_in) in_body c.args.tokens.now.now (read_is c.args.room (part an_in) (plain_tokens c.args.tokens.now.now)) pattern_tree c.in_ok-from.from c.read_opening.new.tokens.now c.pattern_from.new.tokens.now c.pattern_from.result c.in_ok-from.ensures c.pattern_from.ensures
