use Rattle.std.proofs.Common.{◌∙◌}
use Rattle.cal_grammar.specs.Token.{counts}
use Rattle.cal_parse_base.proofs.Tests.{front, no_number}
use Rattle.cal_parse_base.proofs.cursor.is_number.Goals as goal

pub returns-in_default : goal.returns-in_default
returns-in_default c = no_number c.in-Some.token.now.kind c.in_default.not-Number ∙ front counts c.args.tokens.now c.in-Some.token.now c.in-Some.ensures.value
