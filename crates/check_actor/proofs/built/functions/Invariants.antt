use Rattle.std.proofs.Common.{drop, map}
use Rattle.cal_model.specs.View.{fun_view}
use Rattle.const_env.specs.Counting.{names_view}
use Rattle.check_functions.specs.Known.{fun_decls}
use Rattle.check_actor.proofs.Heads.{AreBuilt}
use Rattle.check_actor.proofs.built.functions.Given as goal

abbrev pub invariant-loop-f : goal.invariant-loop-f
invariant-loop-f l = AreBuilt (map fun_view l.found.items) (fun_decls (drop l.f-index l.funs)) (fun_decls l.funs) (names_view l.names)
