use Rattle.std.proofs.Common.{◌≡◌, Err, map, [], ◌∷◌, refl, sym, ap, subst, ◌∙◌, arith, rules}
use Rattle.std.proofs.lemmas.List.{map-append}
use Rattle.cal_ast.specs.View.{port_tree}
use Rattle.cal_scope.specs.Asked.{outermost, ports_tree}
use Rattle.cal_scope.specs.Judging.{Breaks, Judges}
use Rattle.cal_scope.proofs.Loops.{judged_breaks, judged_done, judged_next, judged_start}
use Rattle.cal_imports.specs.OneFile.{header_resolved}
use Rattle.cal_imports.proofs.HeaderParts.{port_part, ports_each, stay}
use Rattle.cal_imports.proofs.header.ports.Goals as goal

pub loop-p-init : goal.loop-p-init
loop-p-init c = judged_start port_part stay c.args.list.now (outermost c.args.names.now) (map port_tree c.new-found.result.items) (ap (map port_tree) c.new-found.ensures.items)

pub returns-in_err-port : goal.returns-in_err-port
returns-in_err-port c =
    let same : c.from_residual.result ≡ Err c.in_err-port.field-0.0 = search rules in
    subst (λ r. Judges (λ found. map port_tree found.items) r (header_resolved (ports_tree c.args.list.now) (outermost c.args.names.now))) (sym same)
    (subst (λ o. Breaks c.in_err-port.field-0.0 o) (sym (ports_each c.args.list.now (outermost c.args.names.now)))
    (judged_breaks port_part stay c.args.list.now c.loop-p.p-index c.p-item.result (outermost c.args.names.now) (outermost c.args.names.now) (map port_tree c.loop-p.found.items) c.in_err-port.field-0.0 (omega arith)
    (subst (λ x. Breaks c.in_err-port.field-0.0 (port_part x (outermost c.args.names.now))) c.p-item.is c.in_err-port.ensures) c.loop-p.invariant))

pub loop-p-preserved : goal.loop-p-preserved
loop-p-preserved c =
    judged_next port_part stay c.args.list.now c.loop-p.p-index c.p-item.result (outermost c.args.names.now) (outermost c.args.names.now) (outermost c.args.names.now)
    (port_tree c.in_ok-port.field-0) (map port_tree c.loop-p.found.items) (map port_tree c.push.new.self.items) (omega arith)
    (ap (λ x. port_part x (outermost c.args.names.now)) (sym c.p-item.is) ∙ c.in_ok-port.ensures) refl
    (ap (map port_tree) c.in_ok-push.ensures.items ∙ map-append port_tree c.loop-p.found.items (c.in_ok-port.field-0 ∷ []))
    c.loop-p.invariant

pub returns : goal.returns
returns c =
    ports_each c.args.list.now (outermost c.args.names.now)
    ∙ judged_done port_part stay c.args.list.now c.loop-p.p-index (outermost c.args.names.now) (outermost c.args.names.now) (map port_tree c.loop-p.found.items) c.loop-p-test.false c.loop-p.invariant
