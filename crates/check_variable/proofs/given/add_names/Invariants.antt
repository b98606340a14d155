use Rattle.std.proofs.Common.{◌≡◌, drop}
use Rattle.check_given.specs.Judging.{with_declared}
use Rattle.check_variable.specs.Views.{var_decls}
use Rattle.check_variable.proofs.given.add_names.Given as goal

abbrev pub invariant-loop-x : goal.invariant-loop-x
invariant-loop-x l = with_declared l.names (var_decls (drop l.x-index l.params)) ≡ with_declared l.initial.names (var_decls l.params)
