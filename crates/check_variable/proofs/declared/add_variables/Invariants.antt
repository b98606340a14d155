use Rattle.std.proofs.Common.{◌≡◌, ◌++◌, length}
use Rattle.cal_check.specs.Actors.{vars_in}
use Rattle.check_variable.specs.Views.{members_tree, var_decls}
use Rattle.check_variable.proofs.declared.add_variables.Given as goal

abbrev pub invariant-members : goal.invariant-members
invariant-members l = var_decls l.declared.items ++ vars_in l.file (members_tree l.rest) ≡ var_decls l.initial.declared.items ++ vars_in l.file (members_tree l.initial.rest)

abbrev pub decreases-members : goal.decreases-members
decreases-members l = length l.rest
