use Rattle.law_period.proofs.WholePeriod.{period_runs, starts_at_rest}
use Rattle.law_period.proofs.runs.periods_are_runs.Goals as goal

pub returns-clause-start : goal.returns-clause-start
returns-clause-start g c net rates inputs static = starts_at_rest net g.N.StaticStates.kept rates inputs static

pub returns-clause-runs : goal.returns-clause-runs
returns-clause-runs g c net rates firings order s wired lawful static period rest enough =
    period_runs net g.N.StaticStates.kept rates firings order s wired lawful static period rest enough
