-- What pulls from one feed leave of the others.
use Rattle.std.proofs.Common.{ℕ, ◌≤◌, ◌∙◌, refl, inl, inr, ⊎_elim, arith}
use Rattle.rvc_io.specs.Count.{HasRisen}
use Rattle.rvc_io.specs.Feeds.{Inputs, PullsOnlyAt}
use Rattle.network_runner.specs.Filling.{SameOpen}
use Rattle.trace_replay.specs.Feeding.{OnlyPulls, PullsInputs}

pub pulls_then : (feed : ℕ) (old now new : Inputs) → PullsOnlyAt feed old now → PullsOnlyAt feed now new → PullsOnlyAt feed old new
pulls_then feed old now new p q = record {
  same_names = λ other. q.same_names other ∙ p.same_names other;
  same_left = λ other differ. q.same_left other differ ∙ p.same_left other differ;
  same_open = λ other. q.same_open other ∙ p.same_open other;
  faults_stay = omega (arith, p.faults_stay, q.faults_stay);
}

pub pulls_nothing : (feed : ℕ) (feeds : Inputs) → PullsOnlyAt feed feeds feeds
pulls_nothing feed feeds = record {
  same_names = λ other. refl;
  same_left = λ other differ. refl;
  same_open = λ other. refl;
  faults_stay = omega arith;
}

-- a count that has not fallen and then rose has risen
pub risen_after : (old now new : ℕ) → old ≤ now → HasRisen now new → HasRisen old new
risen_after old now new stay risen = ⊎_elim (λ more. inl (omega (arith, stay, more))) (λ last. inr last) risen

-- Feeds are pulled, and none is opened.

pub only_none : (feeds : Inputs) → OnlyPulls feeds feeds
only_none feeds = record { same_names = λ name. refl; same_open = λ feed. refl; faults_stay = omega arith }

pub only_then : (old now new : Inputs) → OnlyPulls old now → OnlyPulls now new → OnlyPulls old new
only_then old now new p q = record {
  same_names = λ name. q.same_names name ∙ p.same_names name;
  same_open = λ feed. q.same_open feed ∙ p.same_open feed;
  faults_stay = omega (arith, p.faults_stay, q.faults_stay);
}

pub only_at : (feed : ℕ) (old new : Inputs) → PullsOnlyAt feed old new → OnlyPulls old new
only_at feed old new pulls = record { same_names = pulls.same_names; same_open = pulls.same_open; faults_stay = pulls.faults_stay }

-- a line was read, and then feeds of inputs were pulled
pub only_line : (feed : ℕ) (old now read new : Inputs) → OnlyPulls old now → PullsOnlyAt feed now read → OnlyPulls read new → OnlyPulls old new
only_line feed old now read new so_far pulls inputs = only_then old read new (only_then old now read so_far (only_at feed now read pulls)) inputs

-- what a delivery pulls
pub inputs_pulled : (old new : Inputs) → SameOpen old new → PullsInputs old new
inputs_pulled old new same = record {
  same_trace = same.same_first;
  pulls = record { same_names = same.same_names; same_open = same.same_open; faults_stay = same.faults_stay };
}

pub inputs_none : (feeds : Inputs) → PullsInputs feeds feeds
inputs_none feeds = record { same_trace = refl; pulls = only_none feeds }
