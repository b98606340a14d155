use Rattle.std.proofs.Common.{◌≡◌, ◌++◌, [], sym, ap, subst, ◌∙◌}
use Rattle.std.specs.Prelude.{IfErr, OnOk}
use Rattle.cal_ast.specs.Tree as tree
use Rattle.cal_ast.specs.Tree.{Tree}
use Rattle.cal_ast.specs.View.{member_tree, priority_tree}
use Rattle.cal_check.specs.Schedules.{chains_broken, chains_pairs, pairs_in, priorities_broken}
use Rattle.check_member.specs.Judging.{Checks, Refuses}
use Rattle.check_member.specs.Parts.{action_views, actor_with, chains_tree}
use Rattle.check_member.proofs.Broken.{checks-err, checks-ok}
use Rattle.check_member.proofs.Chains.{priority-added, priority-fine, priority-refused}
use Rattle.check_member.proofs.Mapped.{on-ok-map}
use Rattle.check_member.proofs.priorities.add_member.Goals as goal

pub returns-in-Priority-clause-fine : goal.returns-in-Priority-clause-fine
returns-in-Priority-clause-fine c =
    let acts = action_views c.args.actions.now in
    let p = c.in-Priority.priority in
    let checked : Checks c.add_chains.result (chains_broken (chains_tree p.chains.items) acts) =
    subst (λ ts. Checks c.add_chains.result (chains_broken (chains_tree ts) acts)) c.deref.ensures.value c.add_chains.ensures.checked in
    subst (λ m. OnOk c.add_chains.result ((more : Tree) → priorities_broken (tree.cons (member_tree m) more) acts ≡ priorities_broken more acts)) (sym c.in-Priority.is)
    (checks-ok c.add_chains.result (chains_broken (chains_tree p.chains.items) acts) ((more : Tree) → priorities_broken (tree.cons (priority_tree p) more) acts ≡ priorities_broken more acts)
    checked (λ e more. priority-fine p more acts e))

pub returns-in-Priority-clause-broken : goal.returns-in-Priority-clause-broken
returns-in-Priority-clause-broken c =
    let acts = action_views c.args.actions.now in
    let p = c.in-Priority.priority in
    let checked : Checks c.add_chains.result (chains_broken (chains_tree p.chains.items) acts) =
    subst (λ ts. Checks c.add_chains.result (chains_broken (chains_tree ts) acts)) c.deref.ensures.value c.add_chains.ensures.checked in
    subst (λ m. IfErr c.add_chains.result (λ f. (more : Tree) → Refuses f (priorities_broken (tree.cons (member_tree m) more) acts))) (sym c.in-Priority.is)
    (checks-err c.add_chains.result (chains_broken (chains_tree p.chains.items) acts) (λ f. (more : Tree) → Refuses f (priorities_broken (tree.cons (priority_tree p) more) acts))
    checked (λ f h more. priority-refused p more acts f h))

pub returns-in-Priority-clause-added : goal.returns-in-Priority-clause-added
returns-in-Priority-clause-added c =
    let actor = actor_with (action_views c.args.actions.now) [] in
    let p = c.in-Priority.priority in
    let before = c.args.pairs.now.items in
    let grown = c.add_chains.new.pairs.items in
    subst (λ m. OnOk c.add_chains.result ((more : Tree) → grown ++ pairs_in more actor ≡ before ++ pairs_in (tree.cons (member_tree m) more) actor)) (sym c.in-Priority.is)
    (on-ok-map c.add_chains.result (λ e more. priority-added p more actor before grown (e ∙ ap (λ ts. before ++ chains_pairs (chains_tree ts) actor) c.deref.ensures.value)) c.add_chains.ensures.added)
