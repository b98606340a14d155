use Rattle.std.proofs.Common.{◌≡◌, subst, rules}
use Rattle.check_given.specs.Given.{all_given, spot_of}
use Rattle.check_actor.specs.Checked.{IsChecked, IsComplete}
use Rattle.check_actor.specs.Sources.{source_in}
use Rattle.check_leaves.proofs.Scopes.{answered}
use Rattle.check_leaves.proofs.one.checked.Goals as goal

pub returns : goal.returns
returns c = λ files found.
    let leaf = c.args.leaf.now in
    let scope = c.args.scope.now in
    let same : c.deref.result.now ≡ leaf.bindings.items = search rules in
    answered c.check.result files scope leaf
    (subst (λ bs. IsChecked c.check.result (source_in scope) (all_given bs) (spot_of leaf.instance_at)) same c.check.ensures.checked)
    (subst (λ bs. IsComplete c.check.result (source_in scope) (all_given bs) (spot_of leaf.instance_at)) same c.check.ensures.complete)
    found
