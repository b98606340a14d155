use Rattle.std.proofs.Common.{◌≡◌, ◌++◌, length}
use Rattle.cal_check.specs.Actions.{Around}
use Rattle.cal_check.specs.Actors.{actions_in, actions_of}
use Rattle.check_member.specs.Parts.{action_views, members_tree}
use Rattle.check_build_actor.specs.Building.{heads_of}
use Rattle.check_build_actor.proofs.others.heads_among.Given as goal

abbrev pub invariant-members : goal.invariant-members
invariant-members l = (around : Around)
    → heads_of (action_views l.found.items) ++ heads_of (actions_of (actions_in (members_tree l.rest)) around)
    ≡ heads_of (actions_of (actions_in (members_tree l.initial.rest)) around)

abbrev pub decreases-members : goal.decreases-members
decreases-members l = length l.rest
