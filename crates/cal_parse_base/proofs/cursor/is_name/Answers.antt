use Rattle.std.proofs.Common.{◌∙◌}
use Rattle.cal_grammar.specs.Token.{names}
use Rattle.cal_parse_base.proofs.Tests.{front, no_name}
use Rattle.cal_parse_base.proofs.cursor.is_name.Goals as goal

pub returns-in_default : goal.returns-in_default
returns-in_default c = no_name c.in-Some.token.now.kind c.in_default.not-Name ∙ front names c.args.tokens.now c.in-Some.token.now c.in-Some.ensures.value
