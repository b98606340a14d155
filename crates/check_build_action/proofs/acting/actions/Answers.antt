use Rattle.std.proofs.Common.{◌++◌, sym, ap, subst, ◌∙◌}
use Rattle.cal_check.specs.Actors.{actions_broken, actions_in, actions_of}
use Rattle.check_member.specs.Parts.{action_views, members_tree}
use Rattle.check_stmt.specs.Judging.{Refuses}
use Rattle.check_action.specs.Parts.{around_view}
use Rattle.check_build_action.proofs.ActionSteps.{member_breaks}
use Rattle.check_build_action.proofs.acting.actions.Goals as goal

pub members-preserved : goal.members-preserved
members-preserved c =
    let around = around_view c.args.parts.now c.args.names.now in
    let is = c.in-Some.ensures.cases.0 in (
      c.in_ok-add_member.ensures.added (members_tree c.in-Some.others.now)
          ∙ sym (ap (λ ms. action_views c.members.found.items ++ actions_of (actions_in (members_tree ms)) around) is) ∙ c.members.invariant.0,
      λ f h. c.members.invariant.1 f
          (subst (λ ms. Refuses f (actions_broken (actions_in (members_tree ms)) around)) (sym is)
          (member_breaks f c.in-Some.first.now (members_tree c.in-Some.others.now) around h)),
    )
