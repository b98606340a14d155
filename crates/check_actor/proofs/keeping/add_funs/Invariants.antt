use Rattle.std.proofs.Common.{◌≡◌, ◌++◌, length, map}
use Rattle.cal_check.specs.Actors.{outer_of_fun}
use Rattle.cal_imports.specs.ScopeView.{outer_fun}
use Rattle.check_used.specs.Using.{outer_view}
use Rattle.check_actor.specs.Sources.{fun_of}
use Rattle.check_actor.proofs.keeping.add_funs.Given as goal

abbrev pub invariant-funs : goal.invariant-funs
invariant-funs l = map outer_view l.decls.items ++ map outer_of_fun (map fun_of (map outer_fun l.rest)) ≡ map outer_view l.initial.decls.items ++ map outer_of_fun (map fun_of (map outer_fun l.initial.rest))

abbrev pub decreases-funs : goal.decreases-funs
decreases-funs l = length l.rest
