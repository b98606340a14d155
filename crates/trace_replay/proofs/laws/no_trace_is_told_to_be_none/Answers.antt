use Rattle.trace_replay.proofs.Judged.{no_trace_is_not_run}
use Rattle.trace_replay.proofs.laws.no_trace_is_told_to_be_none.Goals as goal

pub returns : goal.returns
returns g c = no_trace_is_not_run c.text_tells_a_line.ensures.front c.text_tells_a_line.ensures.one c.sent_lists_only_grow.ensures.by_lines
