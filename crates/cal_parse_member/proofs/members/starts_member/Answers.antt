use Rattle.std.proofs.Common.{◌∙◌}
use Rattle.cal_parse_base.proofs.Tests.{front}
use Rattle.cal_grammar.specs.Rules.{starts_member}
use Rattle.cal_parse_member.proofs.Starts.{no_member}
use Rattle.cal_parse_member.proofs.members.starts_member.Goals as goal

pub returns-in_default : goal.returns-in_default
returns-in_default c =
    let other = c.in_default in
    no_member c.in-Some.token.now.kind other.not-Name other.not-Function other.not-Procedure other.not-Action other.not-Initialize other.not-Priority
    ∙ front starts_member c.args.tokens.now c.in-Some.token.now c.in-Some.ensures.value
