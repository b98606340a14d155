use Rattle.std.proofs.Common.{◌≡◌, length, map}
use Rattle.cal_imports.specs.Recursion.{with_outer_routines}
use Rattle.cal_imports.specs.ScopeView.{outer_fun}
use Rattle.cal_imports.proofs.recursion.add_outer_routines.Given as goal

abbrev pub invariant-funs : goal.invariant-funs
invariant-funs l = with_outer_routines (map outer_fun l.rest) l.nodes ≡ with_outer_routines (map outer_fun l.initial.rest) l.initial.nodes

abbrev pub decreases-funs : goal.decreases-funs
decreases-funs l = length l.rest
