use Rattle.std.proofs.Common.{◌≡◌, ◌+◌, [], ◌∷◌, Ok, drop, refl, subst, arith}
use Rattle.std.specs.Prelude.{None}
use Rattle.std.proofs.Math.ListN.{drop_of_length-le}
use Rattle.cal_ast.specs.View.{function_tree}
use Rattle.cal_check.specs.Actors.{heads_broken}
use Rattle.cal_check.specs.Routines.{head_judged}
use Rattle.cal_check.specs.Variables.{found_in}
use Rattle.cal_check.specs.Violations.{broken}
use Rattle.const_env.specs.Counting.{names_view}
use Rattle.check_functions.specs.Known.{fun_decls}
use Rattle.check_actor.specs.Own.{IsHeadLeft, LacksIn}
use Rattle.check_actor.proofs.Heads.{opened}
use Rattle.check_actor.proofs.Owned.{head_left, head_more}
use Rattle.check_actor.proofs.own.first_head.Goals as goal

pub loop-f-init : goal.loop-f-init
loop-f-init c = head_left (heads_broken (fun_decls c.args.funs.now) (names_view c.args.names.now))

pub loop-f-preserved : goal.loop-f-preserved
loop-f-preserved c =
    let f = c.f-item.result in
    let names = names_view c.args.names.now in
    let left = drop (c.loop-f.f-index + 1) c.args.funs.now in
    let all = heads_broken (fun_decls c.args.funs.now) names in
    let parts : drop c.loop-f.f-index c.args.funs.now ≡ f ∷ left = opened c.args.funs.now f c.loop-f.f-index c.loop-f-test.true c.f-item.is in
    let none : LacksIn (Ok None) (found_in f.file (broken (head_judged (function_tree f.decl.now) names))) =
    subst (λ o. LacksIn (Ok o) (found_in f.file (broken (head_judged (function_tree f.decl.now) names)))) c.in_default.is c.in_ok-lacks.ensures in
    head_more (found_in f.file (broken (head_judged (function_tree f.decl.now) names))) (heads_broken (fun_decls left) names) all none
    (subst (λ fs. IsHeadLeft (heads_broken (fun_decls fs) names) all) parts c.loop-f.invariant)

pub returns : goal.returns
returns c =
    let names = names_view c.args.names.now in
    let all = heads_broken (fun_decls c.args.funs.now) names in
    let none : drop c.loop-f.f-index c.args.funs.now ≡ [] = drop_of_length-le c.args.funs.now (omega (arith, c.loop-f-test.false)) in
    let left : IsHeadLeft [] all = subst (λ fs. IsHeadLeft (heads_broken (fun_decls fs) names) all) none c.loop-f.invariant in
    left.none refl
