use Rattle.std.proofs.Common.{◌≡◌, Err, map, [], ◌∷◌, get_or, refl, sym, ap, subst, ◌∙◌, arith, rules}
use Rattle.std.proofs.lemmas.List.{map-append}
use Rattle.cal_ast.specs.Tree.{listed}
use Rattle.cal_ast.specs.View.{stmt_tree}
use Rattle.cal_scope.specs.Judging.{Breaks, Judges}
use Rattle.cal_scope.specs.Statements.{stmts_resolved}
use Rattle.cal_scope.specs.Names.{within}
use Rattle.cal_scope.specs.View.{names_view}
use Rattle.cal_scope.specs.declared.frames.Frame as chain
use Rattle.cal_scope.proofs.Each.{stay}
use Rattle.cal_scope.proofs.EachOf.{stmts_each, stmt_part}
use Rattle.cal_scope.proofs.Loops.{judged_breaks, judged_done, judged_next, judged_start}
use Rattle.cal_scope.proofs.StmtWeights.{size, stmt_at}
use Rattle.cal_scope.proofs.stmt.+stmt.Goals as goal

pub stmts-stmt-requires : goal.stmts-stmt-requires
stmts-stmt-requires t c = (let l = stmt_at c.args.body.now c.loop-s.s-index c.s-item.result (omega arith) in let i : size (stmt_tree c.s-item.result) ≡ size (stmt_tree (get_or c.args.body.now c.loop-s.s-index c.s-item.result)) = ap (λ s. size (stmt_tree s)) c.s-item.is in omega arith, tt)

pub stmts-loop-s-init : goal.stmts-loop-s-init
stmts-loop-s-init t c = judged_start stmt_part stay c.args.body.now (names_view c.args.names.now) (map stmt_tree c.new-found.result.items) (ap (map stmt_tree) c.new-found.ensures.items)

pub stmts-returns-in_err-stmt : goal.stmts-returns-in_err-stmt
stmts-returns-in_err-stmt t c =
    let same : c.from_residual.result ≡ Err c.in_err-stmt.field-0.0 = search rules in
    subst (λ r. Judges (λ found. map stmt_tree found.items) r (stmts_resolved (listed (map stmt_tree c.args.body.now)) (names_view c.args.names.now))) (sym same)
    (subst (λ o. Breaks c.in_err-stmt.field-0.0 o) (sym (stmts_each c.args.body.now (names_view c.args.names.now)))
    (judged_breaks stmt_part stay c.args.body.now c.loop-s.s-index c.s-item.result (names_view c.args.names.now) (names_view c.args.names.now) (map stmt_tree c.loop-s.found.items) c.in_err-stmt.field-0.0 (omega arith)
    (subst (λ x. Breaks c.in_err-stmt.field-0.0 (stmt_part x (names_view c.args.names.now))) c.s-item.is c.in_err-stmt.ensures) c.loop-s.invariant))

pub stmts-loop-s-preserved : goal.stmts-loop-s-preserved
stmts-loop-s-preserved t c =
    judged_next stmt_part stay c.args.body.now c.loop-s.s-index c.s-item.result (names_view c.args.names.now) (names_view c.args.names.now) (names_view c.args.names.now)
    (stmt_tree c.in_ok-stmt.field-0) (map stmt_tree c.loop-s.found.items) (map stmt_tree c.push.new.self.items) (omega arith)
    (ap (λ x. stmt_part x (names_view c.args.names.now)) (sym c.s-item.is) ∙ c.in_ok-stmt.ensures) refl
    (ap (map stmt_tree) c.in_ok-push.ensures.items ∙ map-append stmt_tree c.loop-s.found.items (c.in_ok-stmt.field-0 ∷ []))
    c.loop-s.invariant

pub stmts-returns : goal.stmts-returns
stmts-returns t c =
    stmts_each c.args.body.now (names_view c.args.names.now)
    ∙ judged_done stmt_part stay c.args.body.now c.loop-s.s-index (names_view c.args.names.now) (names_view c.args.names.now) (map stmt_tree c.loop-s.found.items) c.loop-s-test.false c.loop-s.invariant

pub stmts_in-returns : goal.stmts_in-returns
stmts_in-returns t c =
    let names : names_view c.under-inside.result ≡ within c.args.here.now (names_view c.args.names.now) = search (rules, chain.the_lemmas) in
    subst (λ ns. Judges (λ found. map stmt_tree found.items) c.stmts.result (stmts_resolved (listed (map stmt_tree c.args.body.now)) ns)) names c.stmts.ensures
