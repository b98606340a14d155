use Rattle.std.proofs.Common.{drop}
use Rattle.const_env.specs.Counting.{names_view}
use Rattle.cal_check.specs.Actors.{funs_broken}
use Rattle.check_functions.specs.Known.{fun_decls}
use Rattle.check_actor.specs.Sifting.{IsLeft}
use Rattle.check_actor.proofs.others.sift_bodies.Given as goal

abbrev pub invariant-loop-f : goal.invariant-loop-f
invariant-loop-f l = IsLeft (funs_broken (fun_decls (drop l.f-index l.funs)) (names_view l.names)) (funs_broken (fun_decls l.funs) (names_view l.names))
