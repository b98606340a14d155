use Rattle.std.proofs.Common.{◌≡◌, Err, ◌++◌, length, false, sym, subst, rules}
use Rattle.std.specs.Prelude.{nat_le}
use Rattle.rvc_base.specs.Rules.{too_many_actions}
use Rattle.cal_check.specs.Actors.{actions_broken, actions_in, initialized_twice}
use Rattle.cal_check.specs.Violations.{unless}
use Rattle.cal_model.specs.Sound.{max_actions}
use Rattle.check_member.specs.Parts.{members_tree}
use Rattle.check_stmt.proofs.Checked.{refuses_later, refuses_on}
use Rattle.check_action.specs.Parts.{around_view}
use Rattle.check_build_actor.proofs.WholeSteps.{finds_actions}
use Rattle.check_build_actor.specs.Building.{FindsActions}
use Rattle.check_build_actor.proofs.whole.actions_among.Goals as goal

pub returns-in_err-check_members : goal.returns-in_err-check_members
returns-in_err-check_members c =
    let f = c.in_err-check_members.field-0.0 in
    let members = members_tree c.args.members.now in
    let around = around_view c.args.parts.now c.args.names.now in
    let acts = actions_in members in
    let same : c.from_residual.result ≡ Err f = search rules in
    subst (λ r. FindsActions r members around c.args.at) (sym same)
    (refuses_later f (actions_broken acts around) (initialized_twice false acts ++ unless (nat_le (length acts) max_actions) too_many_actions c.args.at) c.in_err-check_members.ensures)

pub returns-in_err-check_actions : goal.returns-in_err-check_actions
returns-in_err-check_actions c =
    let f = c.in_err-check_actions.field-0.0 in
    let members = members_tree c.args.members.now in
    let around = around_view c.args.parts.now c.args.names.now in
    let acts = actions_in members in
    let same : c.from_residual-in_err-check_actions.result ≡ Err f = search rules in
    subst (λ r. FindsActions r members around c.args.at) (sym same)
    (refuses_on f (actions_broken acts around) (initialized_twice false acts ++ unless (nat_le (length acts) max_actions) too_many_actions c.args.at) c.in_err-check_actions.ensures)

pub returns : goal.returns
returns c =
    finds_actions c.actions.result (members_tree c.args.members.now) (around_view c.args.parts.now c.args.names.now) c.args.at
    c.in_ok-check_members.ensures c.in_ok-check_actions.ensures c.actions.ensures
