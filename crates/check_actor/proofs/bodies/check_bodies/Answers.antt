use Rattle.std.proofs.Common.{◌≡◌, ◌+◌, [], ◌∷◌, ◌++◌, Err, drop, sym, ap, subst, ◌∙◌, arith, rules}
use Rattle.std.proofs.Math.ListN.{drop_of_length-le}
use Rattle.cal_ast.specs.View.{function_tree}
use Rattle.cal_check.specs.Actors.{funs_broken}
use Rattle.cal_check.specs.Routines.{fun_broken}
use Rattle.cal_check.specs.Variables.{found_in}
use Rattle.const_env.specs.Counting.{names_view}
use Rattle.check_functions.specs.Known.{fun_decls}
use Rattle.check_given.specs.Causes.{Finds, IsCause}
use Rattle.check_actor.proofs.Causes.{cause_in_first}
use Rattle.check_actor.proofs.Heads.{opened}
use Rattle.check_actor.proofs.bodies.check_bodies.Goals as goal

pub loop-f-preserved : goal.loop-f-preserved
loop-f-preserved c =
    let f = c.f-item.result in
    let names = names_view c.args.names.now in
    let left = drop (c.loop-f.f-index + 1) c.args.funs.now in
    let parts : drop c.loop-f.f-index c.args.funs.now ≡ f ∷ left = opened c.args.funs.now f c.loop-f.f-index c.loop-f-test.true c.f-item.is in
    sym (ap (λ fs. fs ++ funs_broken (fun_decls left) names) c.in_ok-check_body.ensures)
    ∙ sym (ap (λ fs. funs_broken (fun_decls fs) names) parts) ∙ c.loop-f.invariant

pub returns-in_err-check_body : goal.returns-in_err-check_body
returns-in_err-check_body c =
    let f = c.f-item.result in
    let names = names_view c.args.names.now in
    let left = drop (c.loop-f.f-index + 1) c.args.funs.now in
    let parts : drop c.loop-f.f-index c.args.funs.now ≡ f ∷ left = opened c.args.funs.now f c.loop-f.f-index c.loop-f-test.true c.f-item.is in
    let same : c.from_residual.result ≡ Err c.in_err-check_body.field-0.0 = search rules in
    subst (λ r. Finds r (funs_broken (fun_decls c.args.funs.now) names)) (sym same)
    (subst (IsCause c.in_err-check_body.field-0.0) (sym (ap (λ fs. funs_broken (fun_decls fs) names) parts) ∙ c.loop-f.invariant)
    (cause_in_first c.in_err-check_body.field-0.0 (found_in f.file (fun_broken (function_tree f.decl.now) names)) (funs_broken (fun_decls left) names) c.in_err-check_body.ensures))

pub returns : goal.returns
returns c =
    let none : drop c.loop-f.f-index c.args.funs.now ≡ [] = drop_of_length-le c.args.funs.now (omega (arith, c.loop-f-test.false)) in
    sym c.loop-f.invariant ∙ ap (λ fs. funs_broken (fun_decls fs) (names_view c.args.names.now)) none
