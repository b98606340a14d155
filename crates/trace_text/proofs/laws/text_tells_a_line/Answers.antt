use Rattle.trace_text.proofs.LineEnds.{one_line, line_ends, front_is_no_line}
use Rattle.trace_text.proofs.laws.text_tells_a_line.Goals as goal

pub returns-clause-one : goal.returns-clause-one
returns-clause-one c = one_line

pub returns-clause-end : goal.returns-clause-end
returns-clause-end c line text w = let end = line_ends line text w in (end.before, end.none, end.ends)

pub returns-clause-front : goal.returns-clause-front
returns-clause-front c = front_is_no_line
