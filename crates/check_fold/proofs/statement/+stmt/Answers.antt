use Rattle.std.proofs.Common.{◌≡◌, map, string_bytes, refl, ap, subst, ◌∙◌, arith, rules}
use Rattle.cal_ast.specs.Tree.{listed}
use Rattle.cal_ast.specs.View.{stmt_tree}
use Rattle.cal_check.proofs.Lists.{none-left}
use Rattle.cal_check.specs.Written.{statement_written}
use Rattle.cal_model.specs.Kinding.{counter, with_known}
use Rattle.const_env.specs.Counting.{inner_variables, names_inside, names_view}
use Rattle.check_fold.specs.Seeing.{seen_behind}
use Rattle.check_fold.specs.Writing.{WritesStmts}
use Rattle.check_fold.proofs.Onto.{onto_done, onto_each}
use Rattle.check_fold.proofs.Sizes.{size}
use Rattle.check_fold.proofs.statement.+stmt.Goals as goal

pub stmts-each-preserved : goal.stmts-each-preserved
stmts-each-preserved t c = (
  onto_each stmt_tree (λ s. statement_written s (names_view c.args.names.now)) c.each.found.items c.push.new.self.items c.each.rest.now c.in-Some.others.now c.in-Some.first.now c.in_ok-stmt.field-0
      (statement_written (listed (map stmt_tree c.args.body.now)) (names_view c.args.names.now)) (λ s ss. refl) c.in-Some.ensures.cases.0 c.in_ok-push.ensures.items c.in_ok-stmt.ensures c.each.invariant.0,
  omega (arith, ap (λ xs. size (listed (map stmt_tree xs))) c.in-Some.ensures.cases.0, c.each.invariant.1),
)

pub stmts-returns : goal.stmts-returns
stmts-returns t c =
    onto_done stmt_tree (λ s. statement_written s (names_view c.args.names.now)) c.each.found.items c.each.rest.now (statement_written (listed (map stmt_tree c.args.body.now)) (names_view c.args.names.now))
    refl (none-left c.each.rest.now c.in_default.ensures.cases) c.each.invariant.0

pub loop_body-returns : goal.loop_body-returns
loop_body-returns t c =
    let names = names_view c.args.names.now in
    let name : c.as_str.result.now ≡ string_bytes c.args.name.now.text = search rules in
    let seen : seen_behind c.in_ok-variables.variables c.args.names.now ≡ with_known (counter (string_bytes c.args.name.now.text)) names =
    ap (λ xs. names_inside xs c.args.names.now.env.now) (c.in_ok-variables.ensures (inner_variables c.args.names.now.inner)) ∙ ap (λ n. with_known (counter n) names) name in
    subst (λ ns. WritesStmts c.stmts_behind.result (listed (map stmt_tree c.args.body.now)) ns) seen c.stmts_behind.ensures
