use Rattle.std.proofs.Common.{◌≡◌, drop}
use Rattle.check_functions.specs.Known.{fun_decls}
use Rattle.check_functions.specs.Needs.{needs_of, with_funs_needs}
use Rattle.check_functions.proofs.constants.needs_of.Given as goal

abbrev pub invariant-loop-f : goal.invariant-loop-f
invariant-loop-f l = with_funs_needs (fun_decls (drop l.f-index l.funs)) l.needs ≡ needs_of (fun_decls l.funs)
