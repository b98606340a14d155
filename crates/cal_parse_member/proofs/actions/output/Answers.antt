use Rattle.std.proofs.Common.{◌≡◌, Err, rules}
use Rattle.cal_ast.specs.View.{output_tree}
use Rattle.cal_lexer.specs.Lexeme.{plain_tokens}
use Rattle.cal_grammar.specs.Rules.{part, out_body}
use Rattle.cal_grammar.specs.Spells.{an_out}
use Rattle.cal_parse_member.proofs.Openings.{opening_fails, opening_goes_on}
use Rattle.cal_grammar.proofs.Reading.{read_is}
use Rattle.cal_parse_member.proofs.actions.output.Goals as goal

pub returns-in_err-to : goal.returns-in_err-to
returns-in_err-to c =
    let same : c.from_residual.result ≡ Err c.in_err-to.field-0.0 = search rules in
    rw same (opening_fails c.args.room (part an_out) out_body c.args.tokens.now.now (read_is c.args.room (part an_out) (plain_tokens c.args.tokens.now.now)) c.read_opening.new.tokens.now c.in_err-to.field-0.0 c.in_err-to.ensures)

pub returns : goal.returns
returns c =
    opening_goes_on c.args.room (part an_out) out_body c.args.tokens.now.now (read_is c.args.room (part an_out) (plain_tokens c.args.tokens.now.now)) output_tree c.in_ok-to.to c.read_opening.new.tokens.now c.output_from.new.tokens.now c.output_from.result c.in_ok-to.ensures c.output_from.ensures
