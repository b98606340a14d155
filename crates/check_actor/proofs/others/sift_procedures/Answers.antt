use Rattle.std.proofs.Common.{◌≡◌, true, [], List, map, Err, sym, subst}
use Rattle.cal_ast.specs.declared.member.Member.{Member}
use Rattle.cal_check.specs.Actors.{procs_broken, procs_in}
use Rattle.cal_check.specs.Variables.{found_in}
use Rattle.cal_check.specs.Violations.{said}
use Rattle.cal_model.specs.View.{proc_view}
use Rattle.const_env.specs.Counting.{names_view}
use Rattle.check_member.specs.Parts.{members_tree}
use Rattle.check_stmt.specs.Judging.{Refuses}
use Rattle.check_actor.specs.Sifting.{Sifts}
use Rattle.check_actor.proofs.Sifted.{lacks_found}
use Rattle.check_actor.proofs.SiftedInside.{said_found}
use Rattle.check_actor.proofs.others.sift_procedures.Goals as goal

pub returns-in-Ok : goal.returns-in-Ok
returns-in-Ok c =
    let procs = map proc_view c.args.procs.now in
    let names = names_view c.args.names.now in
    let broken = λ (ms : List Member). procs_broken (procs_in (members_tree ms)) procs names in
    lacks_found c.args.scope.now.file (broken c.args.scope.now.actor.members.items)
    (subst (λ ms. said true (broken ms) ≡ []) c.deref.ensures.value c.in-Ok.ensures)

pub returns-in-Err : goal.returns-in-Err
returns-in-Err c =
    let file = c.args.scope.now.file in
    let procs = map proc_view c.args.procs.now in
    let names = names_view c.args.names.now in
    let broken = λ (ms : List Member). procs_broken (procs_in (members_tree ms)) procs names in
    let members = c.args.scope.now.actor.members.items in
    subst (λ f. Sifts (Err f) (found_in file (broken members))) (sym c.placed.ensures)
    (said_found file c.in-Err.fault (broken members)
    (subst (λ ms. Refuses c.in-Err.fault (said true (broken ms))) c.deref.ensures.value c.in-Err.ensures))
