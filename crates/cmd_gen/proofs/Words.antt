-- The words of the job that is run.
use Rattle.std.proofs.Common.{◌≡◌, ℕ, zero, suc, ◌<◌, Option, None, replicate, refl, arith}
use Rattle.std.specs.Prelude.{slice_index_or}
use Rattle.rvc_words.specs.Words.{IsWithin, JobText}
use Rattle.cmd_gen.specs.Jobs.{generated_job}

-- its numbers are within their limits
pub within_too : (j : JobText) → IsWithin j → IsWithin (generated_job j)
within_too j within = record {
  workers_least = within.workers_least;
  workers_most = within.workers_most;
  burst_least = within.burst_least;
  burst_most = within.burst_most;
  budget_least = within.budget_least;
  budget_most = within.budget_most;
  grow_most = within.grow_most;
}

-- none of so many feeds is open
pub none_at : {A : Type 0} (count k : ℕ) (other : Option A) → k < count → slice_index_or (replicate count None) k other ≡ None
none_at zero k other below = absurd (omega (arith, below))
none_at (suc count) zero other below = refl
none_at (suc count) (suc k) other below = none_at count k other (omega (arith, below))
