use Rattle.std.proofs.Common.{◌≡◌, ◌++◌, length, map}
use Rattle.cal_check.specs.Actors.{outer_of_var}
use Rattle.cal_imports.specs.ScopeView.{outer_var}
use Rattle.check_used.specs.Using.{outer_view}
use Rattle.check_actor.specs.Sources.{var_of}
use Rattle.check_actor.proofs.keeping.add_vars.Given as goal

abbrev pub invariant-vars : goal.invariant-vars
invariant-vars l = map outer_view l.decls.items ++ map outer_of_var (map var_of (map outer_var l.rest)) ≡ map outer_view l.initial.decls.items ++ map outer_of_var (map var_of (map outer_var l.initial.rest))

abbrev pub decreases-vars : goal.decreases-vars
decreases-vars l = length l.rest
