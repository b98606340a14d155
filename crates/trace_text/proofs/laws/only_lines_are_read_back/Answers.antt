use Rattle.trace_text.proofs.Only.{lines_told, told_lines, begun_none, none_begun, told_are_first, told_are_whole}
use Rattle.trace_text.proofs.laws.only_lines_are_read_back.Goals as goal

pub returns-clause-only : goal.returns-clause-only
returns-clause-only c lines text answers all = (lines_told lines text answers all, told_lines lines text answers all)

pub returns-clause-bad : goal.returns-clause-bad
returns-clause-bad c bytes answers all = (begun_none bytes answers all, none_begun bytes answers all)

pub returns-clause-told : goal.returns-clause-told
returns-clause-told c = told_are_first

pub returns-clause-ended : goal.returns-clause-ended
returns-clause-ended c = told_are_whole
