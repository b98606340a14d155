use Rattle.trace_text.proofs.Cutting.{cut_in_one_way, first_lines, lines_behind_lines}
use Rattle.trace_text.proofs.laws.text_is_cut_in_one_way.Goals as goal

pub returns-clause-one_way : goal.returns-clause-one_way
returns-clause-one_way c = cut_in_one_way

pub returns-clause-first : goal.returns-clause-first
returns-clause-first c = first_lines

pub returns-clause-behind : goal.returns-clause-behind
returns-clause-behind c = lines_behind_lines
