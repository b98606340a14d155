use Rattle.std.proofs.Common.{sym, subst}
use Rattle.cal_ast.specs.Tree as tree
use Rattle.cal_ast.specs.View.{member_tree}
use Rattle.cal_check.specs.Actors.{formals_broken, procs_in}
use Rattle.cal_check.specs.Variables.{found_in}
use Rattle.const_env.specs.Counting.{names_view}
use Rattle.check_actor.specs.Sifting.{SiftsOn}
use Rattle.check_actor.proofs.Sifted.{member_sifted}
use Rattle.check_actor.proofs.sifting.sift_member.Goals as goal

pub returns-in-Procedure : goal.returns-in-Procedure
returns-in-Procedure c = λ more.
    let names = names_view c.args.names.now in
    subst (λ m. SiftsOn c.sift_formals.result (found_in c.args.file (formals_broken (procs_in more) names))
    (found_in c.args.file (formals_broken (procs_in (tree.cons (member_tree m) more)) names))) (sym c.in-Procedure.is)
    (member_sifted c.sift_formals.result c.args.file c.in-Procedure.p more names c.sift_formals.ensures)
