use Rattle.std.proofs.Common.{◌≡◌, subst, rules}
use Rattle.check_given.specs.Given.{all_given, spot_of}
use Rattle.check_actor.specs.Checked.{IsChecked}
use Rattle.check_actor.specs.Sources.{source_in}
use Rattle.check_actor.proofs.Answering.{conforming_is_given}
use Rattle.check_actor.proofs.whole.check.Goals as goal

pub returns-clause-complete : goal.returns-clause-complete
returns-clause-complete c =
    let s = source_in c.args.scope.now in
    let owner = spot_of c.args.owner in
    let given : c.in-Ok.given ≡ c.args.given.now = search rules in
    conforming_is_given c.check_over.result s (all_given c.args.given.now) owner
    (subst (λ gs. IsChecked c.check_over.result s (all_given gs) owner) given c.check_over.ensures)
