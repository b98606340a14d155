use Rattle.std.proofs.Common.{◌≡◌, length}
use Rattle.cal_model.specs.Tags.{seen_in}
use Rattle.cal_check.specs.Schedules.{transitions_of}
use Rattle.check_member.specs.Parts.{transitions_tree}
use Rattle.check_member.proofs.schedule.states_of.Given as goal

abbrev pub invariant-moves : goal.invariant-moves
invariant-moves l = seen_in l.states (transitions_of (transitions_tree l.rest)) ≡ seen_in l.initial.states (transitions_of (transitions_tree l.initial.rest))

abbrev pub decreases-moves : goal.decreases-moves
decreases-moves l = length l.rest
