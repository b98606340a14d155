use Rattle.std.proofs.Common.{◌≡◌, ◌++◌, length, map}
use Rattle.cal_imports.specs.ScopeView.{outer_var}
use Rattle.check_variable.specs.Views.{var_decls}
use Rattle.check_actor.specs.Sources.{var_of}
use Rattle.check_actor.proofs.collect.add_outer_vars.Given as goal

abbrev pub invariant-vars : goal.invariant-vars
invariant-vars l = var_decls l.declared.items ++ map var_of (map outer_var l.rest) ≡ var_decls l.initial.declared.items ++ map var_of (map outer_var l.initial.rest)

abbrev pub decreases-vars : goal.decreases-vars
decreases-vars l = length l.rest
