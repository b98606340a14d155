use Rattle.std.proofs.Common.{◌≡◌, ◌++◌, length, map}
use Rattle.cal_model.specs.Tags.{moves_by}
use Rattle.check_member.specs.Parts.{move_of_step}
use Rattle.check_member.proofs.schedule.add_steps.Given as goal

abbrev pub invariant-actions : goal.invariant-actions
invariant-actions l =
    map move_of_step l.steps.items ++ moves_by l.from l.rest l.to
    ≡ map move_of_step l.initial.steps.items ++ moves_by l.from l.initial.rest l.to

abbrev pub decreases-actions : goal.decreases-actions
decreases-actions l = length l.rest
