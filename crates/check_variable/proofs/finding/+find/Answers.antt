use Rattle.std.proofs.Common.{◌≡◌, ◌+◌, ◌||◌, [], ◌∷◌, ◌++◌, map, refl, sym, ap, subst, arith, rules, string_bytes}
use Rattle.std.specs.Prelude.{◌==◌}
use Rattle.cal_ast.specs.Tree as tree
use Rattle.cal_ast.specs.Tree.{listed}
use Rattle.cal_ast.specs.View.{expr_tree, gen_tree, ident_tree, type_arg_tree, type_tree}
use Rattle.cal_ast.specs.declared.expr.Expr.{out-Expr}
use Rattle.cal_ast.specs.declared.expr.ExprForm as forms
use Rattle.cal_ast.specs.declared.expr.Gen.{out-Gen}
use Rattle.const_expr.proofs.Weights.{size}
use Rattle.cal_check.specs.Constants.{constants_in, uses_at}
use Rattle.check_variable.specs.Finding.{FindsIn}
use Rattle.check_variable.proofs.NamePlaces.{both_in, left_next, left_start}
use Rattle.check_variable.proofs.finding.+find.Goals as goal

pub in_exprs-each-init : goal.in_exprs-each-init
in_exprs-each-init t c = (left_start c.args.p c.nowhere-found.result (listed (map expr_tree c.args.exprs.now)) (c.nowhere-found.ensures c.args.p), omega arith)

pub in_exprs-each-preserved : goal.in_exprs-each-preserved
in_exprs-each-preserved t c =
    let opened : listed (map expr_tree c.each.rest.now) ≡ tree.cons (expr_tree c.in-Some.first.now) (listed (map expr_tree c.in-Some.others.now)) = ap (λ xs. listed (map expr_tree xs)) c.in-Some.ensures.cases.0 in (
      left_next c.args.p c.each.found c.in_expr-next.result c.and-found.result (expr_tree c.in-Some.first.now) (listed (map expr_tree c.in-Some.others.now)) (listed (map expr_tree c.each.rest.now)) (listed (map expr_tree c.args.exprs.now))
          opened c.and-found.ensures c.in_expr-next.ensures c.each.invariant.0,
      let large : size (listed (map expr_tree c.each.rest.now)) ≡ 8 + size (expr_tree c.in-Some.first.now) + size (listed (map expr_tree c.in-Some.others.now)) = ap size opened in
          let before = c.each.invariant.1 in omega arith,
    )

pub in_gens-each-init : goal.in_gens-each-init
in_gens-each-init t c = (left_start c.args.p c.nowhere-found.result (listed (map gen_tree c.args.gens.now)) (c.nowhere-found.ensures c.args.p), omega arith)

pub in_gens-each-preserved : goal.in_gens-each-preserved
in_gens-each-preserved t c =
    let opened : listed (map gen_tree c.each.rest.now) ≡ tree.cons (gen_tree c.in-Some.first.now) (listed (map gen_tree c.in-Some.others.now)) = ap (λ xs. listed (map gen_tree xs)) c.in-Some.ensures.cases.0 in (
      left_next c.args.p c.each.found c.in_gen-next.result c.and-found.result (gen_tree c.in-Some.first.now) (listed (map gen_tree c.in-Some.others.now)) (listed (map gen_tree c.each.rest.now)) (listed (map gen_tree c.args.gens.now))
          opened c.and-found.ensures c.in_gen-next.ensures c.each.invariant.0,
      let large : size (listed (map gen_tree c.each.rest.now)) ≡ 8 + size (gen_tree c.in-Some.first.now) + size (listed (map gen_tree c.in-Some.others.now)) = ap size opened in
          let before = c.each.invariant.1 in omega arith,
    )

pub in_args-each-init : goal.in_args-each-init
in_args-each-init t c = (left_start c.args.p c.nowhere-found.result (listed (map type_arg_tree c.args.args.now)) (c.nowhere-found.ensures c.args.p), omega arith)

pub in_args-each-preserved : goal.in_args-each-preserved
in_args-each-preserved t c =
    let opened : listed (map type_arg_tree c.each.rest.now) ≡ tree.cons (type_arg_tree c.in-Some.first.now) (listed (map type_arg_tree c.in-Some.others.now)) = ap (λ xs. listed (map type_arg_tree xs)) c.in-Some.ensures.cases.0 in (
      left_next c.args.p c.each.found c.in_arg-next.result c.and-found.result (type_arg_tree c.in-Some.first.now) (listed (map type_arg_tree c.in-Some.others.now)) (listed (map type_arg_tree c.each.rest.now)) (listed (map type_arg_tree c.args.args.now))
          opened c.and-found.ensures c.in_arg-next.ensures c.each.invariant.0,
      let large : size (listed (map type_arg_tree c.each.rest.now)) ≡ 8 + size (type_arg_tree c.in-Some.first.now) + size (listed (map type_arg_tree c.in-Some.others.now)) = ap size opened in
          let before = c.each.invariant.1 in omega arith,
    )

pub in_constant-returns : goal.in_constant-returns
in_constant-returns t c =
    let e = expr_tree c.args.e.now in
    c.constant.ensures c.args.p e (uses_at c.args.p e) (constants_in e) c.place_of.ensures refl c.in_expr.ensures

pub in_gen-returns : goal.in_gen-returns
in_gen-returns t c =
    let g = out-Gen c.args.g.now in
    let shape = type_tree g.shape in
    let from = expr_tree g.from in
    let to = expr_tree g.to in
    let shown : gen_tree c.args.g.now ≡ tree.gen shape (ident_tree g.name) from to g.at = search (rules, forms.the_lemmas) in
    subst (λ s. FindsIn c.args.p c.and-2.result s) (sym shown)
    (c.and-2.ensures c.args.p (uses_at c.args.p shape) (uses_at c.args.p from || uses_at c.args.p to) (constants_in shape) ((from ∷ constants_in from) ++ (to ∷ constants_in to)) c.in_type-shape.ensures
    (c.and.ensures c.args.p (uses_at c.args.p from) (uses_at c.args.p to) (from ∷ constants_in from) (to ∷ constants_in to) c.in_constant-from.ensures c.in_constant-to.ensures))

pub in_expr-returns-in-Number : goal.in_expr-returns-in-Number
in_expr-returns-in-Number t c =
    let shown : expr_tree c.args.e.now ≡ tree.number c.in-Number.field-0 (out-Expr c.args.e.now).at = search (rules, forms.the_lemmas) in
    subst (λ s. FindsIn c.args.p c.nowhere.result s) (sym shown)
    (c.nowhere.ensures c.args.p)

pub in_expr-returns-in-Bool : goal.in_expr-returns-in-Bool
in_expr-returns-in-Bool t c =
    let shown : expr_tree c.args.e.now ≡ tree.truth c.in-Bool.field-0 (out-Expr c.args.e.now).at = search (rules, forms.the_lemmas) in
    subst (λ s. FindsIn c.args.p c.nowhere-in-Bool.result s) (sym shown)
    (c.nowhere-in-Bool.ensures c.args.p)

pub in_expr-returns-in-Name : goal.in_expr-returns-in-Name
in_expr-returns-in-Name t c =
    let shown : expr_tree c.args.e.now ≡ tree.variable (string_bytes c.in-Name.field-0) (out-Expr c.args.e.now).at = search (rules, forms.the_lemmas) in
    subst (λ s. FindsIn c.args.p c.here.result s) (sym shown)
    (c.here.ensures c.args.p)

pub in_expr-returns-in-Call : goal.in_expr-returns-in-Call
in_expr-returns-in-Call t c =
    let shown : expr_tree c.args.e.now ≡ tree.call (string_bytes c.in-Call.name) (listed (map expr_tree c.deref.result.now)) (out-Expr c.args.e.now).at = search (rules, forms.the_lemmas) in
    subst (λ s. FindsIn c.args.p c.and.result s) (sym shown)
    (c.and.ensures c.args.p ((out-Expr c.args.e.now).at == c.args.p) (uses_at c.args.p (listed (map expr_tree c.deref.result.now))) [] (constants_in (listed (map expr_tree c.deref.result.now))) (c.here-in-Call.ensures c.args.p) c.in_exprs.ensures)

pub in_expr-returns-in-If : goal.in_expr-returns-in-If
in_expr-returns-in-If t c =
    let shown : expr_tree c.args.e.now ≡ tree.if_expr (expr_tree c.deref-in-If.result.now) (expr_tree c.deref-in-If-2.result.now) (expr_tree c.deref-in-If-3.result.now) (out-Expr c.args.e.now).at = search (rules, forms.the_lemmas) in
    subst (λ s. FindsIn c.args.p c.and-in-If-2.result s) (sym shown)
    (let test = expr_tree c.deref-in-If.result.now in
    let first = expr_tree c.deref-in-If-2.result.now in
    let other = expr_tree c.deref-in-If-3.result.now in
    c.and-in-If-2.ensures c.args.p (uses_at c.args.p test) (uses_at c.args.p first || uses_at c.args.p other) (constants_in test) (constants_in first ++ constants_in other) c.in_expr-test.ensures
    (both_in c.args.p c.in_expr-yes.result c.in_expr-no.result c.and-in-If.result first other c.and-in-If.ensures c.in_expr-yes.ensures c.in_expr-no.ensures))

pub in_expr-returns-in-Comp : goal.in_expr-returns-in-Comp
in_expr-returns-in-Comp t c =
    let shown : expr_tree c.args.e.now ≡ tree.comp (expr_tree c.deref-in-Comp.result.now) (listed (map gen_tree c.deref-in-Comp-2.result.now)) (out-Expr c.args.e.now).at = search (rules, forms.the_lemmas) in
    subst (λ s. FindsIn c.args.p c.and-in-Comp.result s) (sym shown)
    (both_in c.args.p c.in_expr-item.result c.in_gens.result c.and-in-Comp.result (expr_tree c.deref-in-Comp.result.now) (listed (map gen_tree c.deref-in-Comp-2.result.now)) c.and-in-Comp.ensures c.in_expr-item.ensures c.in_gens.ensures)

pub in_expr-returns-in-Index : goal.in_expr-returns-in-Index
in_expr-returns-in-Index t c =
    let shown : expr_tree c.args.e.now ≡ tree.index (expr_tree c.deref-in-Index.result.now) (expr_tree c.deref-in-Index-2.result.now) (out-Expr c.args.e.now).at = search (rules, forms.the_lemmas) in
    subst (λ s. FindsIn c.args.p c.and-in-Index.result s) (sym shown)
    (both_in c.args.p c.in_expr-base.result c.in_expr-in-Index.result c.and-in-Index.result (expr_tree c.deref-in-Index.result.now) (expr_tree c.deref-in-Index-2.result.now) c.and-in-Index.ensures c.in_expr-base.ensures c.in_expr-in-Index.ensures)

pub in_expr-returns-in-Binary : goal.in_expr-returns-in-Binary
in_expr-returns-in-Binary t c =
    let shown : expr_tree c.args.e.now ≡ tree.binary c.in-Binary.op (expr_tree c.deref-in-Binary.result.now) (expr_tree c.deref-in-Binary-2.result.now) (out-Expr c.args.e.now).at = search (rules, forms.the_lemmas) in
    subst (λ s. FindsIn c.args.p c.and-in-Binary.result s) (sym shown)
    (both_in c.args.p c.in_expr-left.result c.in_expr-in-Binary.result c.and-in-Binary.result (expr_tree c.deref-in-Binary.result.now) (expr_tree c.deref-in-Binary-2.result.now) c.and-in-Binary.ensures c.in_expr-left.ensures c.in_expr-in-Binary.ensures)
