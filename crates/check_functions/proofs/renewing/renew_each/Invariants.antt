use Rattle.std.proofs.Common.{◌≡◌, length}
use Rattle.const_env.specs.Held.{names_in}
use Rattle.check_functions.specs.Known.{fun_decls}
use Rattle.check_functions.specs.Left.{renewed}
use Rattle.check_functions.proofs.renewing.renew_each.Given as goal

abbrev pub invariant-places : goal.invariant-places
invariant-places l = renewed l.rest (fun_decls l.funs) (names_in l.env) ≡ renewed l.places (fun_decls l.funs) (names_in l.initial.env)

abbrev pub decreases-places : goal.decreases-places
decreases-places l = length l.rest
