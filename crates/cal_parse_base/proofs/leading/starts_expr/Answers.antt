use Rattle.std.proofs.Common.{◌∙◌}
use Rattle.cal_grammar.specs.Rules.{starts_expr}
use Rattle.cal_parse_base.proofs.Tests.{front, no_start}
use Rattle.cal_parse_base.proofs.leading.starts_expr.Goals as goal

pub returns-in_default : goal.returns-in_default
returns-in_default c =
    let other = c.in_default in
    no_start c.in-Some.token.now.kind other.not-Name other.not-Number other.not-True other.not-False other.not-If other.not-LeftParen other.not-LeftBracket other.not-Not other.not-Minus other.not-Tilde
    ∙ front starts_expr c.args.tokens.now c.in-Some.token.now c.in-Some.ensures.value
