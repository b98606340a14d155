use Rattle.std.proofs.Common.{map}
use Rattle.cal_ast.specs.View.{actor_tree}
use Rattle.check_used.proofs.Found.{kept_test}
use Rattle.check_used.specs.Using.{outer_view}
use Rattle.check_used.proofs.used.used_names.Goals as goal

pub returns : goal.returns
returns c = λ s is name.
    let found = c.in_ok-used.ensures s is in
    kept_test s (actor_tree c.args.actor.now) (map outer_view c.args.decls.now) c.in_ok-others.others c.in_ok-used.used found.0 is c.in_ok-others.ensures found.1 found.2 name
