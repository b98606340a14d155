use Rattle.std.proofs.Common.{◌≡◌, Err, map, [], ◌∷◌, sym, ap, subst, ◌∙◌, arith, rules}
use Rattle.std.proofs.lemmas.List.{map-append}
use Rattle.cal_ast.specs.Tree.{listed}
use Rattle.cal_ast.specs.View.{pattern_tree}
use Rattle.cal_scope.specs.Judging.{Breaks, Judges}
use Rattle.cal_scope.specs.Members.{patterns_resolved}
use Rattle.cal_scope.specs.PortView.{ports_view}
use Rattle.cal_scope.specs.View.{names_view}
use Rattle.cal_scope.proofs.EachOf.{patterns_after, patterns_each, pattern_part, pattern_next}
use Rattle.cal_scope.proofs.Loops.{after_done, judged_breaks, judged_done, judged_next, judged_start}
use Rattle.cal_scope.proofs.actions.patterns.Goals as goal

pub loop-p-init : goal.loop-p-init
loop-p-init c = judged_start (pattern_part (ports_view c.args.ports.now) (names_view c.args.names.now)) pattern_next c.args.patterns.now c.args.here.now (map pattern_tree c.new-found.result.items) (ap (map pattern_tree) c.new-found.ensures.items)

pub returns-in_err-pattern : goal.returns-in_err-pattern
returns-in_err-pattern c =
    let same : c.from_residual.result ≡ Err c.in_err-pattern.field-0.0 = search rules in
    record {
      judged =
          subst (λ r. Judges (λ found. map pattern_tree found.items) r (patterns_resolved (listed (map pattern_tree c.args.patterns.now)) (ports_view c.args.ports.now) c.args.here.now (names_view c.args.names.now))) (sym same)
          (subst (λ o. Breaks c.in_err-pattern.field-0.0 o) (sym (patterns_each c.args.patterns.now (ports_view c.args.ports.now) c.args.here.now (names_view c.args.names.now)))
          (judged_breaks (pattern_part (ports_view c.args.ports.now) (names_view c.args.names.now)) pattern_next c.args.patterns.now c.loop-p.p-index c.p-item.result c.loop-p.here c.args.here.now (map pattern_tree c.loop-p.found.items) c.in_err-pattern.field-0.0 (omega arith)
          (subst (λ x. Breaks c.in_err-pattern.field-0.0 (pattern_part (ports_view c.args.ports.now) (names_view c.args.names.now) x c.loop-p.here)) c.p-item.is c.in_err-pattern.ensures.judged) c.loop-p.invariant));
      here = search rules;
    }

pub loop-p-preserved : goal.loop-p-preserved
loop-p-preserved c =
    judged_next (pattern_part (ports_view c.args.ports.now) (names_view c.args.names.now)) pattern_next c.args.patterns.now c.loop-p.p-index c.p-item.result c.loop-p.here c.pattern.new.here c.args.here.now
    (pattern_tree c.in_ok-pattern.field-0) (map pattern_tree c.loop-p.found.items) (map pattern_tree c.push.new.self.items) (omega arith)
    (ap (λ x. pattern_part (ports_view c.args.ports.now) (names_view c.args.names.now) x c.loop-p.here) (sym c.p-item.is) ∙ c.in_ok-pattern.ensures.judged)
    (c.in_ok-pattern.ensures.here ∙ ap (λ x. pattern_next x c.loop-p.here) c.p-item.is)
    (ap (map pattern_tree) c.in_ok-push.ensures.items ∙ map-append pattern_tree c.loop-p.found.items (c.in_ok-pattern.field-0 ∷ []))
    c.loop-p.invariant

pub returns-clause-judged : goal.returns-clause-judged
returns-clause-judged c =
    patterns_each c.args.patterns.now (ports_view c.args.ports.now) c.args.here.now (names_view c.args.names.now)
    ∙ judged_done (pattern_part (ports_view c.args.ports.now) (names_view c.args.names.now)) pattern_next c.args.patterns.now c.loop-p.p-index c.loop-p.here c.args.here.now (map pattern_tree c.loop-p.found.items) c.loop-p-test.false c.loop-p.invariant

pub returns-clause-here : goal.returns-clause-here
returns-clause-here c =
    after_done (pattern_part (ports_view c.args.ports.now) (names_view c.args.names.now)) pattern_next c.args.patterns.now c.loop-p.p-index c.loop-p.here c.args.here.now (map pattern_tree c.loop-p.found.items) c.loop-p-test.false c.loop-p.invariant
    ∙ sym (patterns_after c.args.patterns.now c.args.here.now)
