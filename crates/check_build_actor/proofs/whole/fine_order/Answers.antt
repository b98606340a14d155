use Rattle.std.proofs.Common.{◌⊎◌, sym, subst}
use Rattle.cal_model.specs.Actor.{Actor}
use Rattle.check_member.specs.Parts.{action_views, members_tree}
use Rattle.check_stmt.specs.Judging.{Refuses}
use Rattle.check_build_actor.proofs.Faults.{breaks_as}
use Rattle.check_build_actor.specs.Building.{HasActions, IsCycle, order_broken}
use Rattle.check_build_actor.proofs.whole.fine_order.Goals as goal

pub returns-in-Ok : goal.returns-in-Ok
returns-in-Ok c = record { is = c.in-Ok.ensures.is; fine = c.in-Ok.ensures.fine; without_cycle = c.in-Ok.ensures.without_cycle }

pub returns-in-Err : goal.returns-in-Err
returns-in-Err c =
    let members = members_tree c.args.members.now in
    subst (λ g. (actor : Actor) → HasActions actor (action_views c.args.actions.now) members
    → Refuses g (order_broken members actor c.args.at) ⊎ IsCycle g members actor) (sym c.as_kind_fault.ensures)
    (λ actor has. breaks_as c.in-Err.f members actor (order_broken members actor c.args.at) (c.in-Err.ensures.broken actor has))
