use Rattle.std.proofs.Common.{drop}
use Rattle.const_env.specs.Counting.{names_view}
use Rattle.check_functions.specs.Known.{fun_decls}
use Rattle.check_actor.specs.Own.{AreLeft}
use Rattle.check_actor.proofs.own.check_all_own.Given as goal

abbrev pub invariant-loop-f : goal.invariant-loop-f
invariant-loop-f l = AreLeft (fun_decls (drop l.f-index l.funs)) (fun_decls l.funs) (names_view l.names)
