use Rattle.std.proofs.Common.{◌≡◌, Err, map, [], ◌∷◌, sym, ap, subst, ◌∙◌, arith, rules}
use Rattle.std.proofs.lemmas.List.{map-append}
use Rattle.std.specs.Prelude.{string_bytes}
use Rattle.cal_ast.specs.Tree.{listed}
use Rattle.cal_ast.specs.View.{var_tree}
use Rattle.cal_scope.specs.Names.{with_name}
use Rattle.cal_scope.specs.Judging.{Breaks, Judges}
use Rattle.cal_scope.specs.Statements.{vars_resolved}
use Rattle.cal_scope.specs.View.{names_view}
use Rattle.cal_scope.proofs.EachOf.{vars_each, var_part, var_next}
use Rattle.cal_scope.proofs.Loops.{after_done, declared_after, judged_breaks, judged_done, judged_next, judged_start}
use Rattle.cal_scope.proofs.vars.vars.Goals as goal

pub loop-v-init : goal.loop-v-init
loop-v-init c = judged_start (var_part (names_view c.args.names.now)) var_next c.args.vars.now c.args.here.now (map var_tree c.new-found.result.items) (ap (map var_tree) c.new-found.ensures.items)

pub returns-in_err-var : goal.returns-in_err-var
returns-in_err-var c =
    let same : c.from_residual.result ≡ Err c.in_err-var.field-0.0 = search rules in
    record {
      judged =
          subst (λ r. Judges (λ found. map var_tree found.items) r (vars_resolved (listed (map var_tree c.args.vars.now)) c.args.here.now (names_view c.args.names.now))) (sym same)
          (subst (λ o. Breaks c.in_err-var.field-0.0 o) (sym (vars_each c.args.vars.now c.args.here.now (names_view c.args.names.now)))
          (judged_breaks (var_part (names_view c.args.names.now)) var_next c.args.vars.now c.loop-v.v-index c.v-item.result c.loop-v.here c.args.here.now (map var_tree c.loop-v.found.items) c.in_err-var.field-0.0 (omega arith)
          (subst (λ x. Breaks c.in_err-var.field-0.0 (var_part (names_view c.args.names.now) x c.loop-v.here)) c.v-item.is c.in_err-var.ensures) c.loop-v.invariant));
      here = search rules;
    }

pub loop-v-preserved : goal.loop-v-preserved
loop-v-preserved c =
    let named : c.as_str.result.now ≡ string_bytes c.v-item.result.name.text = search rules in
    judged_next (var_part (names_view c.args.names.now)) var_next c.args.vars.now c.loop-v.v-index c.v-item.result c.loop-v.here c.add.new.self c.args.here.now
    (var_tree c.in_ok-var.field-0) (map var_tree c.loop-v.found.items) (map var_tree c.push.new.self.items) (omega arith)
    (ap (λ x. var_part (names_view c.args.names.now) x c.loop-v.here) (sym c.v-item.is) ∙ c.in_ok-var.ensures)
    (c.in_ok-add.ensures.added ∙ ap (λ n. with_name n c.loop-v.here) named ∙ ap (λ x. var_next x c.loop-v.here) c.v-item.is)
    (ap (map var_tree) c.in_ok-push.ensures.items ∙ map-append var_tree c.loop-v.found.items (c.in_ok-var.field-0 ∷ []))
    c.loop-v.invariant

pub returns-clause-judged : goal.returns-clause-judged
returns-clause-judged c =
    vars_each c.args.vars.now c.args.here.now (names_view c.args.names.now)
    ∙ judged_done (var_part (names_view c.args.names.now)) var_next c.args.vars.now c.loop-v.v-index c.loop-v.here c.args.here.now (map var_tree c.loop-v.found.items) c.loop-v-test.false c.loop-v.invariant

pub returns-clause-here : goal.returns-clause-here
returns-clause-here c =
    after_done (var_part (names_view c.args.names.now)) var_next c.args.vars.now c.loop-v.v-index c.loop-v.here c.args.here.now (map var_tree c.loop-v.found.items) c.loop-v-test.false c.loop-v.invariant
    ∙ sym (declared_after var_tree c.args.vars.now c.args.here.now)
