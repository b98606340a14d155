use Rattle.net_model.proofs.Growth.{run_grows, played_grows}
use Rattle.net_model.proofs.laws.sent_lists_only_grow.Goals as goal

pub returns-clause-by_events : goal.returns-clause-by_events
returns-clause-by_events g c = run_grows

pub returns-clause-by_lines : goal.returns-clause-by_lines
returns-clause-by_lines g c = played_grows
