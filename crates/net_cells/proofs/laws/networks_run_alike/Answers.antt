use Rattle.net_cells.proofs.Lawlike.{begun_alike, counted_alike, paced_back}
use Rattle.net_cells.proofs.RunsToo.{runs_alike}
use Rattle.net_cells.proofs.laws.networks_run_alike.Goals as goal

pub returns-clause-begun : goal.returns-clause-begun
returns-clause-begun g c = λ net other pace s that lines reached alike states begun. begun_alike _ _ net other alike pace s that lines reached states begun

pub returns-clause-paced_back : goal.returns-clause-paced_back
returns-clause-paced_back g c = λ net other pace s that last lines alike states paced. paced_back _ _ net other alike pace s that last lines states paced

pub returns-clause-counted : goal.returns-clause-counted
returns-clause-counted g c = λ net other inputs grow s last that there lines counts alike states ends plays counted.
    counted_alike _ _ net other alike inputs grow s last that there lines counts states ends plays counted

pub returns-clause-runs : goal.returns-clause-runs
returns-clause-runs g c = runs_alike _ _
