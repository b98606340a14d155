use Rattle.cal_ast.specs.View.{function_tree}
use Rattle.cal_model.specs.View.{fun_view}
use Rattle.const_env.specs.Held.{names_in}
use Rattle.check_functions.proofs.Sized.{fun_passes}
use Rattle.check_functions.proofs.renewing.renew_fun.Goals as goal

pub set_fun-requires : goal.set_fun-requires
set_fun-requires c = record {
  sized =
      fun_passes c.types_are_kept.ensures.allowed c.args.f.name.now (function_tree c.args.f.decl.now) (names_in c.args.env.now) (fun_view c.in-Ok.fun) c.in-Ok.ensures;
}
