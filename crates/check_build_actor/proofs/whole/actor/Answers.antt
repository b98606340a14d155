use Rattle.std.proofs.Common.{◌≡◌, ◌≤◌, ◌⊎◌, Err, length, sym, subst, rules}
use Rattle.std.specs.Prelude.{IfErr}
use Rattle.cal_check.specs.Actors.{actions_in, actions_of}
use Rattle.cal_model.specs.Actor.{Actor}
use Rattle.cal_model.specs.Sound.{max_actions}
use Rattle.cal_model.specs.View.{actor_of}
use Rattle.const_env.specs.Counting.{names_view}
use Rattle.check_member.specs.Parts.{action_views, members_tree}
use Rattle.check_stmt.specs.Judging.{Refuses}
use Rattle.check_build_actor.proofs.WholeSteps.{order_breaks, whole_fine, whole_is, whole_ordered}
use Rattle.check_build_actor.specs.Building.{HasActions, IsCycle, IsFineOrder, IsMembersFault, around_bare, order_broken}
use Rattle.check_build_actor.proofs.whole.actor.Goals as goal

pub fine_order-requires : goal.fine_order-requires
fine_order-requires c = subst (λ xs. length xs ≤ max_actions) (sym c.deref-2.ensures.value) c.in_ok-actions.ensures.few

pub returns-in_err-actions-clause-broken : goal.returns-in_err-actions-clause-broken
returns-in_err-actions-clause-broken c =
    let f = c.in_err-actions.field-0.0 in
    let members = members_tree c.args.decl.now.members.items in
    let around = around_bare c.args.bare (names_view c.args.names.now) in
    let at = c.args.decl.now.at in
    let same : c.from_residual.result ≡ Err f = search rules in
    subst (λ r. IfErr r (λ fault. (actor : Actor) → HasActions actor (actions_of (actions_in members) around) members → IsMembersFault fault members around actor at)) (sym same)
    (λ actor has. c.in_err-actions.ensures actor has)

pub returns-in_err-order-clause-broken : goal.returns-in_err-order-clause-broken
returns-in_err-order-clause-broken c =
    let f = c.in_err-order.field-0.0 in
    let acts = c.in_ok-actions.actions.items in
    let members = members_tree c.args.decl.now.members.items in
    let around = around_bare c.args.bare (names_view c.args.names.now) in
    let at = c.args.decl.now.at in
    let same : c.from_residual-in_err-order.result ≡ Err f = search rules in
    let breaks : (x : Actor) → HasActions x (action_views acts) members → Refuses f (order_broken members x at) ⊎ IsCycle f members x =
    subst (λ ms. (x : Actor) → HasActions x (action_views acts) (members_tree ms) → Refuses f (order_broken (members_tree ms) x at) ⊎ IsCycle f (members_tree ms) x) c.deref.ensures.value
    (subst (λ xs. (x : Actor) → HasActions x (action_views xs) (members_tree c.deref.result.now) → Refuses f (order_broken (members_tree c.deref.result.now) x at) ⊎ IsCycle f (members_tree c.deref.result.now) x)
    c.deref-2.ensures.value c.in_err-order.ensures) in
    subst (λ r. IfErr r (λ fault. (actor : Actor) → HasActions actor (actions_of (actions_in members) around) members → IsMembersFault fault members around actor at)) (sym same)
    (λ actor has. order_breaks f acts members around actor at c.in_ok-actions.ensures breaks has)

pub returns-clause-is : goal.returns-clause-is
returns-clause-is c = λ s gs owner parts.
    let decl = c.args.decl.now in
    let acts = c.in_ok-actions.actions.items in
    let order = c.in_ok-order.order in
    let fine : IsFineOrder order (action_views acts) (members_tree decl.members.items) decl.at =
    subst (λ ms. IsFineOrder order (action_views acts) (members_tree ms) decl.at) c.deref.ensures.value
    (subst (λ xs. IsFineOrder order (action_views xs) (members_tree c.deref.result.now) decl.at) c.deref-2.ensures.value c.in_ok-order.ensures) in
    whole_is (actor_of c.whole.result) c.args.bare acts order decl (names_view c.args.names.now) decl.at s gs owner c.whole.ensures c.in_ok-actions.ensures fine parts

pub returns-clause-fine : goal.returns-clause-fine
returns-clause-fine c =
    let decl = c.args.decl.now in
    let acts = c.in_ok-actions.actions.items in
    let order = c.in_ok-order.order in
    let fine : IsFineOrder order (action_views acts) (members_tree decl.members.items) decl.at =
    subst (λ ms. IsFineOrder order (action_views acts) (members_tree ms) decl.at) c.deref.ensures.value
    (subst (λ xs. IsFineOrder order (action_views xs) (members_tree c.deref.result.now) decl.at) c.deref-2.ensures.value c.in_ok-order.ensures) in
    whole_fine (actor_of c.whole.result) c.args.bare acts order (members_tree decl.members.items) (around_bare c.args.bare (names_view c.args.names.now)) decl.at c.whole.ensures c.in_ok-actions.ensures fine

pub returns-clause-ordered : goal.returns-clause-ordered
returns-clause-ordered c =
    let decl = c.args.decl.now in
    let acts = c.in_ok-actions.actions.items in
    let order = c.in_ok-order.order in
    let fine : IsFineOrder order (action_views acts) (members_tree decl.members.items) decl.at =
    subst (λ ms. IsFineOrder order (action_views acts) (members_tree ms) decl.at) c.deref.ensures.value
    (subst (λ xs. IsFineOrder order (action_views xs) (members_tree c.deref.result.now) decl.at) c.deref-2.ensures.value c.in_ok-order.ensures) in
    whole_ordered (actor_of c.whole.result) c.args.bare acts order (members_tree decl.members.items) decl.at c.whole.ensures fine
