use Rattle.std.proofs.Common.{Err, sym, subst}
use Rattle.cal_ast.specs.View.{function_tree}
use Rattle.cal_check.specs.Routines.{fun_broken}
use Rattle.cal_check.specs.Variables.{found_in}
use Rattle.const_env.specs.Counting.{names_view}
use Rattle.check_actor.specs.Sifting.{Sifts}
use Rattle.check_actor.proofs.Sifted.{lacks_found}
use Rattle.check_actor.proofs.SiftedInside.{said_found}
use Rattle.check_actor.proofs.others.sift_body.Goals as goal

pub returns-in-Ok : goal.returns-in-Ok
returns-in-Ok c = lacks_found c.args.f.file (fun_broken (function_tree c.args.f.decl.now) (names_view c.args.names.now)) c.in-Ok.ensures

pub returns-in-Err : goal.returns-in-Err
returns-in-Err c =
    let broken = fun_broken (function_tree c.args.f.decl.now) (names_view c.args.names.now) in
    subst (λ f. Sifts (Err f) (found_in c.args.f.file broken)) (sym c.placed.ensures)
    (said_found c.args.f.file c.in-Err.fault broken c.in-Err.ensures)
