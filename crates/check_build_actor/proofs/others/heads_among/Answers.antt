use Rattle.std.proofs.Common.{◌++◌, sym, ap, ◌∙◌}
use Rattle.cal_check.specs.Actors.{actions_in, actions_of}
use Rattle.check_member.specs.Parts.{action_views, members_tree}
use Rattle.check_build_actor.specs.Building.{heads_of}
use Rattle.check_build_actor.proofs.others.heads_among.Goals as goal

pub members-preserved : goal.members-preserved
members-preserved c = λ around.
    c.in_ok-add_head.ensures (members_tree c.in-Some.others.now) around
    ∙ sym (ap (λ ms. heads_of (action_views c.members.found.items) ++ heads_of (actions_of (actions_in (members_tree ms)) around)) c.in-Some.ensures.cases.0)
    ∙ c.members.invariant around
