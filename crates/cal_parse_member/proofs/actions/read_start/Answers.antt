use Rattle.cal_parse_member.proofs.Openings.{initialize_starts}
use Rattle.cal_parse_member.proofs.actions.read_start.Goals as goal

pub returns : goal.returns
returns c =
    initialize_starts c.args.room c.in_ok-at.at c.in_ok-expect-2.field-0 c.new.result c.args.tokens.now.now c.expect-2.new.tokens.now c.expect-3.new.tokens.now c.in_ok-at.ensures c.in_ok-expect-2.ensures c.new.ensures.items
