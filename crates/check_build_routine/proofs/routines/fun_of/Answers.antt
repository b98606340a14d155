use Rattle.std.proofs.Common.{◌≡◌, Err, map, sym, subst, rules}
use Rattle.cal_ast.specs.Tree.{listed}
use Rattle.cal_ast.specs.View.{function_tree, port_tree}
use Rattle.cal_model.specs.Kinding.{Fine}
use Rattle.cal_check.specs.Routines.{formals_judged, fun_judged}
use Rattle.cal_model.specs.View.{fun_view, local_view}
use Rattle.const_env.specs.Counting.{names_view}
use Rattle.const_env.specs.Judging.{Breaks, Judges}
use Rattle.check_build_routine.proofs.Functions.{fun_with, head_breaks}
use Rattle.check_build_routine.proofs.routines.fun_of.Goals as goal

pub returns : goal.returns
returns c =
    let declared : c.deref.result.now ≡ c.args.decl.now.formals.items = search rules in
    let fs = map local_view c.in_ok-head.head.formals.items in
    subst (Judges fun_view c.fun_with.result)
    (sym (fun_with c.args.full.now c.args.decl.now fs (names_view c.args.names.now)
    (subst (λ ps. formals_judged (listed (map port_tree ps)) (names_view c.args.names.now) ≡ Fine fs) declared c.in_ok-head.ensures.formals))) c.fun_with.ensures

pub returns-in_err-head : goal.returns-in_err-head
returns-in_err-head c =
    let f = c.in_err-head.field-0.0 in
    let declared : c.deref.result.now ≡ c.args.decl.now.formals.items = search rules in
    let same : c.from_residual.result ≡ Err f = search rules in
    subst (λ r. Judges fun_view r (fun_judged c.args.full.now (function_tree c.args.decl.now) (names_view c.args.names.now))) (sym same)
    (head_breaks f c.args.full.now c.args.decl.now (names_view c.args.names.now)
    (subst (λ ps. Breaks f (formals_judged (listed (map port_tree ps)) (names_view c.args.names.now))) declared c.in_err-head.ensures.formals))
