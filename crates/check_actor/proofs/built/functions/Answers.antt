use Rattle.std.proofs.Common.{◌≡◌, ◌+◌, [], ◌∷◌, Err, drop, map, sym, subst, arith, rules}
use Rattle.std.proofs.Math.ListN.{drop_of_length-le}
use Rattle.cal_model.specs.View.{fun_view}
use Rattle.const_env.specs.Counting.{names_view}
use Rattle.check_functions.specs.Known.{fun_decl, fun_decls}
use Rattle.check_actor.specs.Checking.{BuildsFuns}
use Rattle.check_actor.proofs.Heads.{AreBuilt, built_all, built_more, built_refused, opened}
use Rattle.check_actor.proofs.built.functions.Goals as goal

pub loop-f-preserved : goal.loop-f-preserved
loop-f-preserved c =
    let f = c.f-item.result in
    let names = names_view c.args.names.now in
    let all = fun_decls c.args.funs.now in
    let left = drop (c.loop-f.f-index + 1) c.args.funs.now in
    let parts : drop c.loop-f.f-index c.args.funs.now ≡ f ∷ left = opened c.args.funs.now f c.loop-f.f-index c.loop-f-test.true c.f-item.is in
    let added = c.in_ok-add_function.ensures in
    built_more (fun_decl f) added.fun (map fun_view c.loop-f.found.items) (map fun_view c.add_function.new.found.items) (fun_decls left) all names
    added.head added.judged added.added
    (subst (λ fs. AreBuilt (map fun_view c.loop-f.found.items) (fun_decls fs) all names) parts c.loop-f.invariant)

pub returns-in_err-add_function : goal.returns-in_err-add_function
returns-in_err-add_function c =
    let f = c.f-item.result in
    let names = names_view c.args.names.now in
    let all = fun_decls c.args.funs.now in
    let left = drop (c.loop-f.f-index + 1) c.args.funs.now in
    let parts : drop c.loop-f.f-index c.args.funs.now ≡ f ∷ left = opened c.args.funs.now f c.loop-f.f-index c.loop-f-test.true c.f-item.is in
    let same : c.from_residual.result ≡ Err c.in_err-add_function.field-0.0 = search rules in
    subst (λ r. BuildsFuns r all names) (sym same)
    (built_refused c.in_err-add_function.field-0.0 (fun_decl f) (map fun_view c.loop-f.found.items) (fun_decls left) all names c.in_err-add_function.ensures
    (subst (λ fs. AreBuilt (map fun_view c.loop-f.found.items) (fun_decls fs) all names) parts c.loop-f.invariant))

pub returns : goal.returns
returns c =
    let names = names_view c.args.names.now in
    let all = fun_decls c.args.funs.now in
    let none : drop c.loop-f.f-index c.args.funs.now ≡ [] = drop_of_length-le c.args.funs.now (omega (arith, c.loop-f-test.false)) in
    built_all (map fun_view c.loop-f.found.items) all names
    (subst (λ fs. AreBuilt (map fun_view c.loop-f.found.items) (fun_decls fs) all names) none c.loop-f.invariant)
