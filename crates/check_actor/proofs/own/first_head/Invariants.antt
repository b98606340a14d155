use Rattle.std.proofs.Common.{drop}
use Rattle.cal_check.specs.Actors.{heads_broken}
use Rattle.const_env.specs.Counting.{names_view}
use Rattle.check_functions.specs.Known.{fun_decls}
use Rattle.check_actor.specs.Own.{IsHeadLeft}
use Rattle.check_actor.proofs.own.first_head.Given as goal

abbrev pub invariant-loop-f : goal.invariant-loop-f
invariant-loop-f l = IsHeadLeft (heads_broken (fun_decls (drop l.f-index l.funs)) (names_view l.names)) (heads_broken (fun_decls l.funs) (names_view l.names))
