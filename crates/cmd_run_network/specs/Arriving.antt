-- Which workers arrive at the gate in the rounds of a job's run.
-- Trusted: part of what a promise means.
use Rattle.std.specs.Prelude.{ℕ, suc, ◌-◌, Bool, false}
use Rattle.rvc_words.specs.declared.job.Job.{Job}
use Rattle.net_model.specs.declared.wiring.Counts.{Counts}
use Rattle.network_runner.specs.Arriving.{Arrivals}

-- In each round of a run that made so many rounds and firings, its workers have arrived.
abbrev pub ArriveInEach : (arrived : ℕ → ℕ → Type 0) → Job → (instances : ℕ) → Counts → Type 0
ArriveInEach arrived job instances counts = (idle : Bool)
    × Arrivals arrived job.round job.workers instances
    (record { round = 1; idle = false; left = job.budget })
    (record { round = suc counts.rounds; idle = idle; left = job.budget - counts.firings })
