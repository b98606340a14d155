use Rattle.std.proofs.Common.{◌≡◌, ◌++◌, ◌<◌, ℕ, List, All, false, length, take}
use Rattle.cal_model.specs.Actor.{Move}
use Rattle.cal_model.specs.Tags.{moves_by}
use Rattle.cal_check.specs.Schedules.{some_conflict}
use Rattle.check_member.specs.Targets.{Tells}
use Rattle.check_member.proofs.targets.conflicts_with.Given as goal

abbrev pub invariant-loop-action : goal.invariant-loop-action
invariant-loop-action l = record {
  size : length l.targets ≡ length l.initial.targets;
  nowhere : (states : ℕ) (before : List Move) → l.from < states → All (λ action. action < l.columns) l.actions
      → Tells states l.columns l.initial.targets before
      → some_conflict (moves_by l.from (take l.action-index l.actions) l.to) before ≡ false;
  entered : (states : ℕ) (before : List Move) → l.from < states → All (λ action. action < l.columns) l.actions
      → Tells states l.columns l.initial.targets before
      → Tells states l.columns l.targets (before ++ moves_by l.from (take l.action-index l.actions) l.to);
}
