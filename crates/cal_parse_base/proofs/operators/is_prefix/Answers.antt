use Rattle.std.proofs.Common.{◌∙◌}
use Rattle.cal_grammar.specs.Operators.{is_prefix}
use Rattle.cal_parse_base.proofs.Tests.{front, no_prefix}
use Rattle.cal_parse_base.proofs.operators.is_prefix.Goals as goal

pub returns-in_default : goal.returns-in_default
returns-in_default c = no_prefix c.in-Some.token.now.kind c.in_default.not-Not c.in_default.not-Minus c.in_default.not-Tilde ∙ front is_prefix c.args.tokens.now c.in-Some.token.now c.in-Some.ensures.value
