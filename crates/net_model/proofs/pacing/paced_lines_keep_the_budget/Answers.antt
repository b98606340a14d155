use Rattle.net_model.proofs.Budgets.{begun_within_budget, paced_within_budget}
use Rattle.net_model.proofs.pacing.paced_lines_keep_the_budget.Goals as goal

pub returns-clause-begun : goal.returns-clause-begun
returns-clause-begun g c = begun_within_budget

pub returns-clause-paced : goal.returns-clause-paced
returns-clause-paced g c = paced_within_budget
