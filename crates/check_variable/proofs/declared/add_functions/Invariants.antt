use Rattle.std.proofs.Common.{◌≡◌, ◌++◌, length}
use Rattle.cal_check.specs.Actors.{funs_in}
use Rattle.check_functions.specs.Known.{fun_decls}
use Rattle.check_variable.specs.Views.{members_tree}
use Rattle.check_variable.proofs.declared.add_functions.Given as goal

abbrev pub invariant-members : goal.invariant-members
invariant-members l = fun_decls l.declared.items ++ funs_in l.file (members_tree l.rest) ≡ fun_decls l.initial.declared.items ++ funs_in l.file (members_tree l.initial.rest)

abbrev pub decreases-members : goal.decreases-members
decreases-members l = length l.rest
