use Rattle.std.proofs.Common.{◌≡◌, Err, map, sym, subst, rules}
use Rattle.std.specs.Prelude.{IfOk}
use Rattle.cal_ast.specs.Tree.{listed}
use Rattle.cal_ast.specs.View.{port_tree}
use Rattle.cal_check.proofs.Lists.{none-left}
use Rattle.cal_check.specs.Routines.{formals_judged}
use Rattle.cal_model.specs.Sound.{with_locals}
use Rattle.cal_model.specs.View.{local_view}
use Rattle.const_env.specs.Counting.{names_view}
use Rattle.const_env.specs.Judging.{Judges}
use Rattle.check_fold.specs.Seeing.{seen_behind}
use Rattle.check_build_routine.proofs.FormalSteps.{formals_break, formals_done, formals_next}
use Rattle.check_build_routine.proofs.formal.formals.Goals as goal

pub each-preserved : goal.each-preserved
each-preserved c =
    formals_next c.each.rest.now c.in-Some.others.now c.args.declared.now c.each.formals.items c.push.new.self.items c.in-Some.first.now c.in_ok-x.x c.in_ok-variable.variable c.each.behind c.add.new.self c.args.names.now (names_view c.args.names.now)
    c.in-Some.ensures.cases.0 c.in_ok-push.ensures.items c.in_ok-add.ensures.added
    c.in_ok-x.ensures c.in_ok-variable.ensures c.each.invariant

pub returns-in_err-x : goal.returns-in_err-x
returns-in_err-x c =
    let f = c.in_err-x.field-0.0 in
    let same : c.from_residual.result ≡ Err f = search rules in
    record {
      formals = subst (λ r. Judges (λ x. map local_view x.formals.items) r (formals_judged (listed (map port_tree c.args.declared.now)) (names_view c.args.names.now))) (sym same)
          (formals_break c.each.rest.now c.in-Some.others.now c.args.declared.now c.each.formals.items c.in-Some.first.now f (seen_behind c.each.behind c.args.names.now) (names_view c.args.names.now) c.in-Some.ensures.cases.0
          c.in_err-x.ensures c.each.invariant);
      behind = subst (λ r. IfOk r (λ x. seen_behind x.behind c.args.names.now ≡ with_locals (map local_view x.formals.items) (names_view c.args.names.now))) (sym same) tt;
    }

pub returns-clause-formals : goal.returns-clause-formals
returns-clause-formals c =
    formals_done c.each.rest.now c.args.declared.now c.each.formals.items (seen_behind c.each.behind c.args.names.now) (names_view c.args.names.now) (none-left c.each.rest.now c.in_default.ensures.cases) c.each.invariant
