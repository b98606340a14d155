use Rattle.std.proofs.Common.{◌≡◌, Err, sym, subst, rules}
use Rattle.cal_ast.specs.View.{function_tree}
use Rattle.cal_check.specs.Routines.{fun_broken, head_judged}
use Rattle.cal_check.specs.Variables.{found_in}
use Rattle.cal_check.specs.Violations.{broken}
use Rattle.const_env.specs.Counting.{names_view}
use Rattle.check_functions.specs.Known.{fun_decl}
use Rattle.check_actor.specs.Functions.{fun_found}
use Rattle.check_actor.specs.Sifting.{Sifts}
use Rattle.check_actor.proofs.Sifted.{first_refused, sifts_both}
use Rattle.check_actor.proofs.own.sift_function.Goals as goal

pub returns-in_err-sift_head : goal.returns-in_err-sift_head
returns-in_err-sift_head c =
    let e = c.in_err-sift_head.field-0.0 in
    let f = c.args.f in
    let names = names_view c.args.names.now in
    let same : c.from_residual.result ≡ Err e = search rules in
    subst (λ r. Sifts r (fun_found (fun_decl f) names)) (sym same)
    (first_refused e (found_in f.file (broken (head_judged (function_tree f.decl.now) names))) (found_in f.file (fun_broken (function_tree f.decl.now) names))
    c.in_err-sift_head.ensures)

pub returns : goal.returns
returns c =
    let f = c.args.f in
    let names = names_view c.args.names.now in
    sifts_both c.sift_body.result (found_in f.file (broken (head_judged (function_tree f.decl.now) names)))
    (found_in f.file (fun_broken (function_tree f.decl.now) names)) c.in_ok-sift_head.ensures c.sift_body.ensures
