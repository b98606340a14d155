use Rattle.std.proofs.Common.{◌≡◌, ℕ, ◌<◌, Some, true}
use Rattle.std.specs.Prelude.{slice_get}
use Rattle.lower_actor.specs.Calls.{is_made}
use Rattle.lower_actor.proofs.made.all_made.Given as goal

abbrev pub invariant-loop-place : goal.invariant-loop-place
invariant-loop-place l = (j k : ℕ) → j < l.place → slice_get l.numbers j ≡ Some k → is_made l.made k ≡ true
