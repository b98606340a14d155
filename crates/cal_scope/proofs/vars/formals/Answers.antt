use Rattle.std.proofs.Common.{◌≡◌, Err, map, [], ◌∷◌, sym, ap, subst, ◌∙◌, arith, rules}
use Rattle.std.proofs.lemmas.List.{map-append}
use Rattle.std.specs.Prelude.{string_bytes}
use Rattle.cal_ast.specs.Tree.{listed}
use Rattle.cal_ast.specs.View.{port_tree}
use Rattle.cal_scope.specs.Names.{with_name}
use Rattle.cal_scope.specs.Judging.{Breaks, Judges}
use Rattle.cal_scope.specs.Members.{formals_resolved}
use Rattle.cal_scope.specs.View.{names_view}
use Rattle.cal_scope.proofs.EachOf.{formals_each, formal_part, formal_next}
use Rattle.cal_scope.proofs.Loops.{after_done, declared_after, judged_breaks, judged_done, judged_next, judged_start}
use Rattle.cal_scope.proofs.vars.formals.Goals as goal

pub loop-f-init : goal.loop-f-init
loop-f-init c = judged_start (formal_part (names_view c.args.names.now)) formal_next c.args.formals.now c.args.here.now (map port_tree c.new-found.result.items) (ap (map port_tree) c.new-found.ensures.items)

pub returns-in_err-formal : goal.returns-in_err-formal
returns-in_err-formal c =
    let same : c.from_residual.result ≡ Err c.in_err-formal.field-0.0 = search rules in
    record {
      judged =
          subst (λ r. Judges (λ found. map port_tree found.items) r (formals_resolved (listed (map port_tree c.args.formals.now)) c.args.here.now (names_view c.args.names.now))) (sym same)
          (subst (λ o. Breaks c.in_err-formal.field-0.0 o) (sym (formals_each c.args.formals.now c.args.here.now (names_view c.args.names.now)))
          (judged_breaks (formal_part (names_view c.args.names.now)) formal_next c.args.formals.now c.loop-f.f-index c.f-item.result c.loop-f.here c.args.here.now (map port_tree c.loop-f.found.items) c.in_err-formal.field-0.0 (omega arith)
          (subst (λ x. Breaks c.in_err-formal.field-0.0 (formal_part (names_view c.args.names.now) x c.loop-f.here)) c.f-item.is c.in_err-formal.ensures) c.loop-f.invariant));
      here = search rules;
    }

pub loop-f-preserved : goal.loop-f-preserved
loop-f-preserved c =
    let named : c.as_str.result.now ≡ string_bytes c.f-item.result.name.text = search rules in
    judged_next (formal_part (names_view c.args.names.now)) formal_next c.args.formals.now c.loop-f.f-index c.f-item.result c.loop-f.here c.add.new.self c.args.here.now
    (port_tree c.in_ok-formal.field-0) (map port_tree c.loop-f.found.items) (map port_tree c.push.new.self.items) (omega arith)
    (ap (λ x. formal_part (names_view c.args.names.now) x c.loop-f.here) (sym c.f-item.is) ∙ c.in_ok-formal.ensures)
    (c.in_ok-add.ensures.added ∙ ap (λ n. with_name n c.loop-f.here) named ∙ ap (λ x. formal_next x c.loop-f.here) c.f-item.is)
    (ap (map port_tree) c.in_ok-push.ensures.items ∙ map-append port_tree c.loop-f.found.items (c.in_ok-formal.field-0 ∷ []))
    c.loop-f.invariant

pub returns-clause-judged : goal.returns-clause-judged
returns-clause-judged c =
    formals_each c.args.formals.now c.args.here.now (names_view c.args.names.now)
    ∙ judged_done (formal_part (names_view c.args.names.now)) formal_next c.args.formals.now c.loop-f.f-index c.loop-f.here c.args.here.now (map port_tree c.loop-f.found.items) c.loop-f-test.false c.loop-f.invariant

pub returns-clause-here : goal.returns-clause-here
returns-clause-here c =
    after_done (formal_part (names_view c.args.names.now)) formal_next c.args.formals.now c.loop-f.f-index c.loop-f.here c.args.here.now (map port_tree c.loop-f.found.items) c.loop-f-test.false c.loop-f.invariant
    ∙ sym (declared_after port_tree c.args.formals.now c.args.here.now)
