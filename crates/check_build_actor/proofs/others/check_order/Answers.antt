use Rattle.std.proofs.Common.{◌≡◌, ◌≤◌, Err, inl, length, sym, subst, rules}
use Rattle.cal_check.specs.Actions.{Around}
use Rattle.cal_check.specs.Actors.{actions_in, actions_of}
use Rattle.cal_model.specs.Actor.{Actor}
use Rattle.cal_model.specs.Sound.{max_actions}
use Rattle.const_env.specs.declared.fault.KindFault.TheVariants as fault
use Rattle.check_member.specs.Parts.{action_views, members_tree}
use Rattle.check_build_actor.proofs.PastLacks.{few_heads, found_by_heads}
use Rattle.check_build_actor.specs.Building.{FindsOrderOf, HasActions}
use Rattle.check_build_actor.proofs.others.check_order.Goals as goal

pub check_heads-requires : goal.check_heads-requires
check_heads-requires c =
    subst (λ xs. length xs ≤ max_actions) (sym c.deref.ensures.value)
    (few_heads c.in_ok-heads.heads.items (actions_in (members_tree c.args.members.now)) c.in_ok-heads.ensures c.requires)

pub returns-in_err-heads : goal.returns-in_err-heads
returns-in_err-heads c =
    let members = members_tree c.args.members.now in
    let same : c.from_residual.result ≡ Err fault.Memory = search rules in
    subst (λ r. (actor : Actor) (around : Around) → HasActions actor (actions_of (actions_in members) around) members → FindsOrderOf r members actor c.args.at) (sym same)
    (λ actor around has. inl tt)

pub returns : goal.returns
returns c = λ actor around has.
    let members = members_tree c.args.members.now in
    let found = c.in_ok-heads.heads.items in
    found_by_heads c.check_heads.result (action_views found) members around actor c.args.at (c.in_ok-heads.ensures around) has
    (subst (λ xs. (x : Actor) → HasActions x (action_views xs) members → FindsOrderOf c.check_heads.result members x c.args.at) c.deref.ensures.value c.check_heads.ensures)
