use Rattle.std.proofs.lemmas.Result.{IfOk-weaker}
use Rattle.claimed_bursts.proofs.Making.{each_made}
use Rattle.claimed_bursts.proofs.bursting.burst_tasks.Goals as goal

pub returns-clause-bursts : goal.returns-clause-bursts
returns-clause-bursts g c = IfOk-weaker c.work_all.result _ _ (λ done worked. each_made g.A.Firing.cell c.args.tasks.items done.items worked) c.work_all.ensures.worked
