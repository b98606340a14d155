use Rattle.std.proofs.Common.{◌≡◌, ◌++◌, [], length, map}
use Rattle.cal_check.specs.Schedules.{moves_broken, moves_listed, transitions_of}
use Rattle.check_member.specs.Parts.{action_views, actor_with, move_of_step, transitions_tree}
use Rattle.check_member.specs.Targets.{AreSeen, Tells}
use Rattle.check_member.proofs.schedule.moves_of.Given as goal

abbrev pub invariant-moves : goal.invariant-moves
invariant-moves l = record {
  seen : AreSeen l.states (transitions_of (transitions_tree l.rest));
  told : Tells (length l.states) (length l.actions) l.targets.items (map move_of_step l.steps.items);
  broken : moves_broken (transitions_tree l.rest) (map move_of_step l.steps.items) (actor_with (action_views l.actions) l.states)
      ≡ moves_broken (transitions_tree l.initial.rest) [] (actor_with (action_views l.actions) l.states);
  added : map move_of_step l.steps.items ++ moves_listed (actor_with (action_views l.actions) l.states) (transitions_of (transitions_tree l.rest))
      ≡ moves_listed (actor_with (action_views l.actions) l.states) (transitions_of (transitions_tree l.initial.rest));
}

abbrev pub decreases-moves : goal.decreases-moves
decreases-moves l = length l.rest
