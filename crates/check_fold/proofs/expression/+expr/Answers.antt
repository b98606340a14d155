use Rattle.std.proofs.Common.{◌≡◌, map, refl, ap, arith}
use Rattle.std.proofs.lemmas.Result.{IfOk-weaker}
use Rattle.cal_ast.specs.Tree as tree
use Rattle.cal_ast.specs.Tree.{listed}
use Rattle.cal_ast.specs.View.{expr_tree, gen_tree}
use Rattle.cal_check.proofs.Lists.{none-left}
use Rattle.cal_check.specs.Written.{written}
use Rattle.const_env.specs.Counting.{names_view}
use Rattle.check_fold.proofs.GenSteps.{comp_written}
use Rattle.check_fold.proofs.Onto.{onto_done, onto_each}
use Rattle.check_fold.proofs.Sizes.{size}
use Rattle.check_fold.proofs.expression.+expr.Goals as goal

pub exprs-each-preserved : goal.exprs-each-preserved
exprs-each-preserved t c = (
  onto_each expr_tree (λ e. written e (names_view c.args.names.now)) c.each.found.items c.push.new.self.items c.each.rest.now c.in-Some.others.now c.in-Some.first.now c.in_ok-expr.field-0
      (written (listed (map expr_tree c.args.exprs.now)) (names_view c.args.names.now)) (λ e es. refl) c.in-Some.ensures.cases.0 c.in_ok-push.ensures.items c.in_ok-expr.ensures c.each.invariant.0,
  omega (arith, ap (λ es. size (listed (map expr_tree es))) c.in-Some.ensures.cases.0, c.each.invariant.1),
)

pub exprs-returns : goal.exprs-returns
exprs-returns t c =
    onto_done expr_tree (λ e. written e (names_view c.args.names.now)) c.each.found.items c.each.rest.now (written (listed (map expr_tree c.args.exprs.now)) (names_view c.args.names.now))
    refl (none-left c.each.rest.now c.in_default.ensures.cases) c.each.invariant.0

pub comp-returns : goal.comp-returns
comp-returns t c =
    let item = c.args.item.now in
    let gens = c.args.gens.now in
    let found = c.in_ok-gens.gens.items in
    IfOk-weaker c.comp.result (λ e. expr_tree e ≡ tree.comp (expr_tree c.in_ok-item.item) (listed (map gen_tree found)) c.args.at)
    (λ e. expr_tree e ≡ written (tree.comp (expr_tree item) (listed (map gen_tree gens)) c.args.at) (names_view c.args.names.now))
    (λ e h. comp_written e c.in_ok-item.item item gens found c.args.at c.args.names.now c.in_ok-item.ensures c.in_ok-gens.ensures h) c.comp.ensures
