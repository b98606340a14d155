use Rattle.net_model.proofs.Bounds.{run_ordered}
use Rattle.net_model.proofs.Lines.{lines_ordered, starts_in_order}
use Rattle.net_model.proofs.laws.taken_have_arrived.Goals as goal

pub returns-clause-start : goal.returns-clause-start
returns-clause-start g c = starts_in_order

pub returns-clause-by_events : goal.returns-clause-by_events
returns-clause-by_events g c = run_ordered

pub returns-clause-by_lines : goal.returns-clause-by_lines
returns-clause-by_lines g c = lines_ordered
