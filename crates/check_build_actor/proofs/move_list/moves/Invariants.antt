use Rattle.std.proofs.Common.{◌≡◌, ◌++◌, map, length}
use Rattle.cal_model.specs.View.{move_view}
use Rattle.check_member.specs.Parts.{move_of_step}
use Rattle.check_build_actor.proofs.move_list.moves.Given as goal

abbrev pub invariant-steps : goal.invariant-steps
invariant-steps l = map move_view l.moves.items ++ map move_of_step l.rest ≡ map move_of_step l.initial.rest

abbrev pub decreases-steps : goal.decreases-steps
decreases-steps l = length l.rest
