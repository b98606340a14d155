use Rattle.std.proofs.Common.{◌≡◌, ◌+◌, [], ◌∷◌, Err, drop, sym, subst, arith, rules}
use Rattle.std.proofs.Math.ListN.{drop_of_length-le}
use Rattle.const_env.specs.Counting.{names_view}
use Rattle.check_functions.specs.Known.{fun_decl, fun_decls}
use Rattle.check_actor.specs.Own.{AreLeft, FindsOwn}
use Rattle.check_actor.proofs.Heads.{opened}
use Rattle.check_actor.proofs.Owned.{left_all, left_breaks, left_more, left_none}
use Rattle.check_actor.proofs.own.check_all_own.Goals as goal

pub loop-f-init : goal.loop-f-init
loop-f-init c = left_all (fun_decls c.args.funs.now) (names_view c.args.names.now)

pub loop-f-preserved : goal.loop-f-preserved
loop-f-preserved c =
    let f = c.f-item.result in
    let names = names_view c.args.names.now in
    let left = drop (c.loop-f.f-index + 1) c.args.funs.now in
    let all = fun_decls c.args.funs.now in
    let parts : drop c.loop-f.f-index c.args.funs.now ≡ f ∷ left = opened c.args.funs.now f c.loop-f.f-index c.loop-f-test.true c.f-item.is in
    left_more (fun_decl f) (fun_decls left) all names c.in_ok-check_own.ensures
    (subst (λ fs. AreLeft (fun_decls fs) all names) parts c.loop-f.invariant)

pub returns-in_err-check_own : goal.returns-in_err-check_own
returns-in_err-check_own c =
    let f = c.f-item.result in
    let names = names_view c.args.names.now in
    let left = drop (c.loop-f.f-index + 1) c.args.funs.now in
    let all = fun_decls c.args.funs.now in
    let parts : drop c.loop-f.f-index c.args.funs.now ≡ f ∷ left = opened c.args.funs.now f c.loop-f.f-index c.loop-f-test.true c.f-item.is in
    let same : c.from_residual.result ≡ Err c.in_err-check_own.field-0.0 = search rules in
    subst (λ r. FindsOwn r all names) (sym same)
    (left_breaks c.in_err-check_own.field-0.0 (fun_decl f) (fun_decls left) all names c.in_err-check_own.ensures
    (subst (λ fs. AreLeft (fun_decls fs) all names) parts c.loop-f.invariant))

pub returns : goal.returns
returns c =
    let names = names_view c.args.names.now in
    let all = fun_decls c.args.funs.now in
    let none : drop c.loop-f.f-index c.args.funs.now ≡ [] = drop_of_length-le c.args.funs.now (omega (arith, c.loop-f-test.false)) in
    left_none all names (subst (λ fs. AreLeft (fun_decls fs) all names) none c.loop-f.invariant)
