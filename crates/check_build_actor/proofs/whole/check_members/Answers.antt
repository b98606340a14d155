use Rattle.std.proofs.Common.{◌++◌, length, false, sym, subst}
use Rattle.std.specs.Prelude.{nat_le}
use Rattle.rvc_base.specs.Rules.{too_many_actions}
use Rattle.cal_check.specs.Actors.{actions_in, initialized_twice}
use Rattle.cal_check.specs.Violations.{unless}
use Rattle.cal_model.specs.Sound.{max_actions}
use Rattle.check_member.specs.Parts.{members_tree}
use Rattle.check_stmt.specs.Judging.{Refuses}
use Rattle.check_build_actor.proofs.Faults.{refuses_as}
use Rattle.check_build_actor.proofs.whole.check_members.Goals as goal

pub returns-in-Err : goal.returns-in-Err
returns-in-Err c =
    let acts = actions_in (members_tree c.args.members.now) in
    let vs = initialized_twice false acts ++ unless (nat_le (length acts) max_actions) too_many_actions c.args.at in
    subst (λ g. Refuses g vs) (sym c.as_kind_fault.ensures) (refuses_as c.in-Err.f vs c.in-Err.ensures)
