use Rattle.std.proofs.Common.{◌≡◌, drop}
use Rattle.check_functions.specs.Known.{fun_decls, is_named_in}
use Rattle.check_functions.proofs.declared.is_named_in.Given as goal

abbrev pub invariant-loop-f : goal.invariant-loop-f
invariant-loop-f l = is_named_in l.name (fun_decls (drop l.f-index l.funs)) ≡ is_named_in l.name (fun_decls l.funs)
