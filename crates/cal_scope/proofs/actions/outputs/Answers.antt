use Rattle.std.proofs.Common.{◌≡◌, Err, map, [], ◌∷◌, refl, sym, ap, subst, ◌∙◌, arith, rules}
use Rattle.std.proofs.lemmas.List.{map-append}
use Rattle.cal_ast.specs.Tree.{listed}
use Rattle.cal_ast.specs.View.{output_tree}
use Rattle.cal_scope.specs.Judging.{Breaks, Judges}
use Rattle.cal_scope.specs.Members.{outputs_resolved}
use Rattle.cal_scope.specs.PortView.{ports_view}
use Rattle.cal_scope.specs.View.{names_view}
use Rattle.cal_scope.proofs.Each.{stay}
use Rattle.cal_scope.proofs.EachOf.{outputs_each, output_part}
use Rattle.cal_scope.proofs.Loops.{judged_breaks, judged_done, judged_next, judged_start}
use Rattle.cal_scope.proofs.actions.outputs.Goals as goal

pub loop-o-init : goal.loop-o-init
loop-o-init c = judged_start (output_part (ports_view c.args.ports.now)) stay c.args.outputs.now (names_view c.args.names.now) (map output_tree c.new-found.result.items) (ap (map output_tree) c.new-found.ensures.items)

pub returns-in_err-output : goal.returns-in_err-output
returns-in_err-output c =
    let same : c.from_residual.result ≡ Err c.in_err-output.field-0.0 = search rules in
    subst (λ r. Judges (λ found. map output_tree found.items) r (outputs_resolved (listed (map output_tree c.args.outputs.now)) (ports_view c.args.ports.now) (names_view c.args.names.now))) (sym same)
    (subst (λ o. Breaks c.in_err-output.field-0.0 o) (sym (outputs_each c.args.outputs.now (ports_view c.args.ports.now) (names_view c.args.names.now)))
    (judged_breaks (output_part (ports_view c.args.ports.now)) stay c.args.outputs.now c.loop-o.o-index c.o-item.result (names_view c.args.names.now) (names_view c.args.names.now) (map output_tree c.loop-o.found.items) c.in_err-output.field-0.0 (omega arith)
    (subst (λ x. Breaks c.in_err-output.field-0.0 (output_part (ports_view c.args.ports.now) x (names_view c.args.names.now))) c.o-item.is c.in_err-output.ensures) c.loop-o.invariant))

pub loop-o-preserved : goal.loop-o-preserved
loop-o-preserved c =
    judged_next (output_part (ports_view c.args.ports.now)) stay c.args.outputs.now c.loop-o.o-index c.o-item.result (names_view c.args.names.now) (names_view c.args.names.now) (names_view c.args.names.now)
    (output_tree c.in_ok-output.field-0) (map output_tree c.loop-o.found.items) (map output_tree c.push.new.self.items) (omega arith)
    (ap (λ x. output_part (ports_view c.args.ports.now) x (names_view c.args.names.now)) (sym c.o-item.is) ∙ c.in_ok-output.ensures) refl
    (ap (map output_tree) c.in_ok-push.ensures.items ∙ map-append output_tree c.loop-o.found.items (c.in_ok-output.field-0 ∷ []))
    c.loop-o.invariant

pub returns : goal.returns
returns c =
    outputs_each c.args.outputs.now (ports_view c.args.ports.now) (names_view c.args.names.now)
    ∙ judged_done (output_part (ports_view c.args.ports.now)) stay c.args.outputs.now c.loop-o.o-index (names_view c.args.names.now) (names_view c.args.names.now) (map output_tree c.loop-o.found.items) c.loop-o-test.false c.loop-o.invariant
