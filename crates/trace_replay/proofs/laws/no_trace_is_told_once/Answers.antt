use Rattle.trace_replay.proofs.Once.{is_told_once}
use Rattle.trace_replay.proofs.laws.no_trace_is_told_once.Goals as goal

pub returns : goal.returns
returns g c = is_told_once c.text_tells_a_line.ensures.front c.text_tells_a_line.ensures.one c.sent_lists_only_grow.ensures.by_lines
