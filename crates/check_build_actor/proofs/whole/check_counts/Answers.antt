use Rattle.std.proofs.Common.{◌≡◌, Err, ◌++◌, length, ap, ◌∙◌, rules}
use Rattle.std.specs.Prelude.{nat_le}
use Rattle.rvc_base.specs.Rules.{too_many_actions}
use Rattle.cal_check.specs.Actors.{actions_in}
use Rattle.cal_check.specs.Violations.{unless}
use Rattle.cal_model.specs.Sound.{max_actions}
use Rattle.check_member.proofs.Broken.{checks-left, checks-right}
use Rattle.check_member.specs.Parts.{members_tree}
use Rattle.check_build_actor.proofs.whole.check_counts.Goals as goal

pub returns-in_err-check_initialize : goal.returns-in_err-check_initialize
returns-in_err-check_initialize c =
    let f = c.in_err-check_initialize.field-0.0 in
    let same : c.from_residual.result ≡ Err f = search rules in
    checks-left c.from_residual.result f _ _ same c.in_err-check_initialize.ensures

pub returns-in_err-count_actions : goal.returns-in_err-count_actions
returns-in_err-count_actions c =
    let f = c.in_err-count_actions.field-0.0 in
    let same : c.from_residual-in_err-count_actions.result ≡ Err f = search rules in
    checks-right c.from_residual-in_err-count_actions.result f _ _ same c.in_err-count_actions.ensures.checked

pub returns : goal.returns
returns c =
    ap (λ vs. vs ++ unless (nat_le (length (actions_in (members_tree c.args.members.now))) max_actions) too_many_actions c.args.at) c.in_ok-check_initialize.ensures
    ∙ c.in_ok-count_actions.ensures.checked
