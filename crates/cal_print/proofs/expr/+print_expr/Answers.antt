use Rattle.std.proofs.Common.{rules, ◌≡◌, [], ◌∷◌, ◌++◌, map, ap, sym}
use Rattle.cal_ast.specs.Tree.{listed, if_expr, comp, index, prefix, binary, gen}
use Rattle.cal_ast.specs.View.{expr_tree, gen_tree, type_tree, type_arg_tree, ident_tree}
use Rattle.cal_lexer.specs.Lexeme.{Lexeme}
use Rattle.cal_print.specs.Tokens.{words, joined, following}
use Rattle.cal_print.proofs.Texts.{then, reword, as_tree}
use Rattle.cal_print.proofs.Loops.{following_more, loop_step, joined_all, where_some}
use Rattle.cal_print.proofs.Forms.{gen_is, expr_if, expr_comp, expr_index, expr_prefix, expr_binary}
use Rattle.cal_print.proofs.expr.+print_expr.Goals as goal

pub print_between-returns : goal.print_between-returns
print_between-returns t c =
    (then c.put.ensures (then c.print_expr.ensures c.put-2.ensures))

pub print_listed-returns : goal.print_listed-returns
print_listed-returns t c =
    (then c.put.ensures (then c.print_exprs.ensures c.put-2.ensures))

pub print_gen-returns : goal.print_gen-returns
print_gen-returns t c =
    as_tree (gen (type_tree c.args.generator.now.shape) (ident_tree c.args.generator.now.name) (expr_tree c.args.generator.now.from) (expr_tree c.args.generator.now.to) c.args.generator.now.at) (gen_tree c.args.generator.now)
    (then c.put.ensures
    (then (then c.print_type.ensures c.print_ident.ensures)
    (then c.put-2.ensures (then c.print_expr.ensures
    (then c.put-3.ensures c.print_expr-2.ensures)))))
    (gen_is c.args.generator.now)

pub print_expr-returns-in-If : goal.print_expr-returns-in-If
print_expr-returns-in-If t c =
    as_tree (if_expr (expr_tree c.deref-in-If.result.now) (expr_tree c.deref-in-If-2.result.now) (expr_tree c.deref-in-If-3.result.now) c.args.e.now.at) (expr_tree c.args.e.now)
    (then c.put-in-If.ensures (then c.print_expr.ensures
    (then c.put-in-If-2.ensures (then c.print_expr-in-If.ensures
    (then c.put-in-If-3.ensures (then c.print_expr-in-If-2.ensures
    c.put-in-If-4.ensures))))))
    (expr_if c.args.e.now c.in-If.test c.in-If.yes c.in-If.no c.deref-in-If.result.now c.deref-in-If-2.result.now c.deref-in-If-3.result.now c.in-If.is c.deref-in-If.ensures c.deref-in-If-2.ensures c.deref-in-If-3.ensures)

pub print_expr-returns-in-Comp : goal.print_expr-returns-in-Comp
print_expr-returns-in-Comp t c =
    as_tree (comp (expr_tree c.deref-in-Comp.result.now) (listed (map gen_tree c.deref-in-Comp-2.result.now)) c.args.e.now.at) (expr_tree c.args.e.now)
    (then c.put-in-Comp.ensures (then c.print_expr-in-Comp.ensures
    (then c.put-in-Comp-2.ensures (then c.print_gens.ensures
    c.put-in-Comp-3.ensures))))
    (expr_comp c.args.e.now c.in-Comp.item c.in-Comp.gens c.deref-in-Comp.result.now c.deref-in-Comp-2.result.now c.in-Comp.is c.deref-in-Comp.ensures c.deref-in-Comp-2.ensures.value)

pub print_expr-returns-in-Index : goal.print_expr-returns-in-Index
print_expr-returns-in-Index t c =
    as_tree (index (expr_tree c.deref-in-Index.result.now) (expr_tree c.deref-in-Index-2.result.now) c.args.e.now.at) (expr_tree c.args.e.now)
    (then c.print_operand.ensures
    c.print_between-in-Index.ensures)
    (expr_index c.args.e.now c.in-Index.base c.in-Index.place c.deref-in-Index.result.now c.deref-in-Index-2.result.now c.in-Index.is c.deref-in-Index.ensures c.deref-in-Index-2.ensures)

pub print_expr-returns-in-Prefix : goal.print_expr-returns-in-Prefix
print_expr-returns-in-Prefix t c =
    as_tree (prefix c.in-Prefix.op (expr_tree c.deref-in-Prefix.result.now) c.args.e.now.at) (expr_tree c.args.e.now)
    (then (reword c.put-in-Prefix.ensures (ap (λ l. l ∷ []) c.prefix_word.ensures))
    c.print_operand-in-Prefix.ensures)
    (expr_prefix c.args.e.now c.in-Prefix.op c.in-Prefix.of c.deref-in-Prefix.result.now c.in-Prefix.is c.deref-in-Prefix.ensures)

pub print_expr-returns-in-Binary : goal.print_expr-returns-in-Binary
print_expr-returns-in-Binary t c =
    as_tree (binary c.in-Binary.op (expr_tree c.deref-in-Binary.result.now) (expr_tree c.deref-in-Binary-2.result.now) c.args.e.now.at) (expr_tree c.args.e.now)
    (then c.print_operand-in-Binary.ensures
    (then (reword c.put-in-Binary.ensures (ap (λ l. l ∷ []) c.binary_word.ensures))
    c.print_operand-in-Binary-2.ensures))
    (expr_binary c.args.e.now c.in-Binary.op c.in-Binary.left c.in-Binary.right c.deref-in-Binary.result.now c.deref-in-Binary-2.result.now c.in-Binary.is c.deref-in-Binary.ensures c.deref-in-Binary-2.ensures)

pub print_exprs-returns : goal.print_exprs-returns
print_exprs-returns t c =
    let split : c.args.exprs.now ≡ c.in-Some.first.now ∷ c.in-Some.others.now = search rules in
    joined_all expr_tree Lexeme.Comma c.args.exprs.now c.in-Some.first.now c.in-Some.others.now c.loop-e.e-index split c.loop-e-test.false c.print_expr.ensures c.loop-e.invariant

pub print_exprs-loop-e-preserved : goal.print_exprs-loop-e-preserved
print_exprs-loop-e-preserved t c =
    loop_step expr_tree (following Lexeme.Comma) (λ x. Lexeme.Comma ∷ words x) (λ ys y. following_more Lexeme.Comma (map expr_tree ys) (expr_tree y))
    c.in-Some.others.now c.e-item.result c.loop-e.e-index c.loop-e-test.true c.e-item.is c.loop-e.invariant
    (then c.put.ensures c.print_expr-in-loop-e.ensures)

pub print_gens-returns : goal.print_gens-returns
print_gens-returns t c =
    let split : c.args.gens.now ≡ c.in-Some.first.now ∷ c.in-Some.others.now = search rules in
    joined_all gen_tree Lexeme.Comma c.args.gens.now c.in-Some.first.now c.in-Some.others.now c.loop-generator.generator-index split c.loop-generator-test.false c.print_gen.ensures c.loop-generator.invariant

pub print_gens-loop-generator-preserved : goal.print_gens-loop-generator-preserved
print_gens-loop-generator-preserved t c =
    loop_step gen_tree (following Lexeme.Comma) (λ x. Lexeme.Comma ∷ words x) (λ ys y. following_more Lexeme.Comma (map gen_tree ys) (gen_tree y))
    c.in-Some.others.now c.generator-item.result c.loop-generator.generator-index c.loop-generator-test.true c.generator-item.is c.loop-generator.invariant
    (then c.put.ensures c.print_gen-in-loop-generator.ensures)

pub print_type_args-returns : goal.print_type_args-returns
print_type_args-returns t c =
    let split : c.args.args.now ≡ c.in-Some.first.now ∷ c.in-Some.others.now = search rules in
    reword (then c.put.ensures
    (then (joined_all type_arg_tree Lexeme.Comma c.args.args.now c.in-Some.first.now c.in-Some.others.now c.loop-arg.arg-index split c.loop-arg-test.false c.print_type_arg.ensures c.loop-arg.invariant)
    c.put-2.ensures))
    (sym (where_some type_arg_tree c.args.args.now c.in-Some.first.now c.in-Some.others.now (Lexeme.LeftParen ∷ joined Lexeme.Comma (listed (map type_arg_tree c.args.args.now)) ++ (Lexeme.RightParen ∷ [])) split))

pub print_type_args-loop-arg-preserved : goal.print_type_args-loop-arg-preserved
print_type_args-loop-arg-preserved t c =
    loop_step type_arg_tree (following Lexeme.Comma) (λ x. Lexeme.Comma ∷ words x) (λ ys y. following_more Lexeme.Comma (map type_arg_tree ys) (type_arg_tree y))
    c.in-Some.others.now c.arg-item.result c.loop-arg.arg-index c.loop-arg-test.true c.arg-item.is c.loop-arg.invariant
    (then c.put-in-loop-arg.ensures c.print_type_arg-in-loop-arg.ensures)
