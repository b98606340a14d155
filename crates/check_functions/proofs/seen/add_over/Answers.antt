use Rattle.std.proofs.Common.{◌≡◌, false, sym, subst}
use Rattle.cal_ast.specs.View.{function_tree}
use Rattle.cal_model.specs.View.{fun_view}
use Rattle.const_env.specs.Constants.{has_fun}
use Rattle.const_env.specs.Counting.{names_view}
use Rattle.const_env.specs.Held.{held}
use Rattle.check_functions.proofs.Sized.{fun_named_so, fun_passes}
use Rattle.check_functions.proofs.seen.add_over.Goals as goal

pub add_fun-requires-clause-new : goal.add_fun-requires-clause-new
add_fun-requires-clause-new c =
    subst (λ n. has_fun n (held c.args.next.now).funs ≡ false)
    (sym (fun_named_so c.args.f.name.now (function_tree c.args.f.decl.now) (names_view c.args.names.now) (fun_view c.in-Ok.fun) c.in-Ok.ensures)) c.requires.new

pub add_fun-requires-clause-sized : goal.add_fun-requires-clause-sized
add_fun-requires-clause-sized c =
    fun_passes c.types_are_kept.ensures.allowed c.args.f.name.now (function_tree c.args.f.decl.now) (names_view c.args.names.now) (fun_view c.in-Ok.fun) c.in-Ok.ensures
