use Rattle.std.proofs.Common.{◌≡◌, ◌++◌, length, map}
use Rattle.cal_imports.specs.ScopeView.{outer_fun}
use Rattle.check_functions.specs.Known.{fun_decls}
use Rattle.check_actor.specs.Sources.{fun_of}
use Rattle.check_actor.proofs.collect.add_outer_funs.Given as goal

abbrev pub invariant-funs : goal.invariant-funs
invariant-funs l = fun_decls l.declared.items ++ map fun_of (map outer_fun l.rest) ≡ fun_decls l.initial.declared.items ++ map fun_of (map outer_fun l.initial.rest)

abbrev pub decreases-funs : goal.decreases-funs
decreases-funs l = length l.rest
