use Rattle.std.proofs.Common.{◌≡◌, ◌++◌, length}
use Rattle.cal_check.specs.Actors.{params_in}
use Rattle.check_variable.specs.Views.{params_tree, var_decls}
use Rattle.check_variable.proofs.declared.add_parameters.Given as goal

abbrev pub invariant-params : goal.invariant-params
invariant-params l = var_decls l.declared.items ++ params_in l.file (params_tree l.rest) ≡ var_decls l.initial.declared.items ++ params_in l.file (params_tree l.initial.rest)

abbrev pub decreases-params : goal.decreases-params
decreases-params l = length l.rest
