use Rattle.round_plan.proofs.Together.{together}
use Rattle.round_plan.proofs.shares.split_budget.Goals as goal

pub returns-clause-together : goal.returns-clause-together
returns-clause-together c = together c.args.left c.args.picked c.args.burst c.requires.some
