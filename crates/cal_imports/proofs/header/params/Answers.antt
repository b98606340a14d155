use Rattle.std.proofs.Common.{◌≡◌, Err, map, [], ◌∷◌, refl, sym, ap, subst, ◌∙◌, arith, rules}
use Rattle.std.proofs.lemmas.List.{map-append}
use Rattle.cal_ast.specs.View.{param_tree}
use Rattle.cal_scope.specs.Asked.{outermost, params_tree}
use Rattle.cal_scope.specs.Judging.{Breaks, Judges}
use Rattle.cal_scope.proofs.Loops.{judged_breaks, judged_done, judged_next, judged_start}
use Rattle.cal_imports.specs.OneFile.{params_resolved}
use Rattle.cal_imports.proofs.HeaderParts.{param_part, params_each, stay}
use Rattle.cal_imports.proofs.header.params.Goals as goal

pub loop-p-init : goal.loop-p-init
loop-p-init c = judged_start param_part stay c.args.list.now (outermost c.args.names.now) (map param_tree c.new-found.result.items) (ap (map param_tree) c.new-found.ensures.items)

pub returns-in_err-param : goal.returns-in_err-param
returns-in_err-param c =
    let same : c.from_residual.result ≡ Err c.in_err-param.field-0.0 = search rules in
    subst (λ r. Judges (λ found. map param_tree found.items) r (params_resolved (params_tree c.args.list.now) (outermost c.args.names.now))) (sym same)
    (subst (λ o. Breaks c.in_err-param.field-0.0 o) (sym (params_each c.args.list.now (outermost c.args.names.now)))
    (judged_breaks param_part stay c.args.list.now c.loop-p.p-index c.p-item.result (outermost c.args.names.now) (outermost c.args.names.now) (map param_tree c.loop-p.found.items) c.in_err-param.field-0.0 (omega arith)
    (subst (λ x. Breaks c.in_err-param.field-0.0 (param_part x (outermost c.args.names.now))) c.p-item.is c.in_err-param.ensures) c.loop-p.invariant))

pub loop-p-preserved : goal.loop-p-preserved
loop-p-preserved c =
    judged_next param_part stay c.args.list.now c.loop-p.p-index c.p-item.result (outermost c.args.names.now) (outermost c.args.names.now) (outermost c.args.names.now)
    (param_tree c.in_ok-param.field-0) (map param_tree c.loop-p.found.items) (map param_tree c.push.new.self.items) (omega arith)
    (ap (λ x. param_part x (outermost c.args.names.now)) (sym c.p-item.is) ∙ c.in_ok-param.ensures) refl
    (ap (map param_tree) c.in_ok-push.ensures.items ∙ map-append param_tree c.loop-p.found.items (c.in_ok-param.field-0 ∷ []))
    c.loop-p.invariant

pub returns : goal.returns
returns c =
    params_each c.args.list.now (outermost c.args.names.now)
    ∙ judged_done param_part stay c.args.list.now c.loop-p.p-index (outermost c.args.names.now) (outermost c.args.names.now) (map param_tree c.loop-p.found.items) c.loop-p-test.false c.loop-p.invariant
