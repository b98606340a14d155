use Rattle.std.proofs.Common.{◌≡◌, Err, map, [], ◌∷◌, get_or, refl, sym, ap, subst, ◌∙◌, arith, rules}
use Rattle.std.proofs.lemmas.List.{map-append}
use Rattle.cal_ast.specs.Tree.{listed}
use Rattle.cal_ast.specs.View.{expr_tree, gen_tree, type_arg_tree, type_tree}
use Rattle.cal_scope.specs.Names.{within, with_name}
use Rattle.cal_scope.specs.Judging.{Breaks, Judges}
use Rattle.cal_scope.specs.Expressions.{expr_resolved, exprs_resolved, gens_resolved, type_args_resolved, type_resolved}
use Rattle.cal_scope.specs.View.{names_view}
use Rattle.cal_scope.specs.declared.frames.Frame as chain
use Rattle.cal_scope.proofs.Each.{expr_part, exprs_each, gen_next, gen_part, gens_each, stay, type_arg_part, type_args_each}
use Rattle.cal_scope.proofs.Loops.{after_done, declared_after, judged_breaks, judged_done, judged_next, judged_start}
use Rattle.cal_scope.proofs.Weights.{arg_at, expr_at, gen_at, size}
use Rattle.cal_scope.proofs.expr.+expr.Goals as goal

pub exprs-expr-requires : goal.exprs-expr-requires
exprs-expr-requires t c = (let l = expr_at c.args.exprs.now c.loop-e.e-index c.e-item.result (omega arith) in let i : size (expr_tree c.e-item.result) ≡ size (expr_tree (get_or c.args.exprs.now c.loop-e.e-index c.e-item.result)) = ap (λ e. size (expr_tree e)) c.e-item.is in omega arith, tt)

pub generators-generator-requires : goal.generators-generator-requires
generators-generator-requires t c = (let l = gen_at c.args.gens.now c.loop-g.g-index c.g-item.result (omega arith) in let i : size (gen_tree c.g-item.result) ≡ size (gen_tree (get_or c.args.gens.now c.loop-g.g-index c.g-item.result)) = ap (λ g. size (gen_tree g)) c.g-item.is in omega arith, tt)

pub type_args-type_arg-requires : goal.type_args-type_arg-requires
type_args-type_arg-requires t c = (let l = arg_at c.args.args.now c.loop-arg.arg-index c.arg-item.result (omega arith) in let i : size (type_arg_tree c.arg-item.result) ≡ size (type_arg_tree (get_or c.args.args.now c.loop-arg.arg-index c.arg-item.result)) = ap (λ a. size (type_arg_tree a)) c.arg-item.is in omega arith, tt)

pub exprs-loop-e-init : goal.exprs-loop-e-init
exprs-loop-e-init t c = judged_start expr_part stay c.args.exprs.now (names_view c.args.names.now) (map expr_tree c.new-found.result.items) (ap (map expr_tree) c.new-found.ensures.items)

pub exprs-returns-in_err-expr : goal.exprs-returns-in_err-expr
exprs-returns-in_err-expr t c =
    let same : c.from_residual.result ≡ Err c.in_err-expr.field-0.0 = search rules in
    subst (λ r. Judges (λ found. map expr_tree found.items) r (exprs_resolved (listed (map expr_tree c.args.exprs.now)) (names_view c.args.names.now))) (sym same)
    (subst (λ o. Breaks c.in_err-expr.field-0.0 o) (sym (exprs_each c.args.exprs.now (names_view c.args.names.now)))
    (judged_breaks expr_part stay c.args.exprs.now c.loop-e.e-index c.e-item.result (names_view c.args.names.now) (names_view c.args.names.now) (map expr_tree c.loop-e.found.items) c.in_err-expr.field-0.0 (omega arith)
    (subst (λ e. Breaks c.in_err-expr.field-0.0 (expr_part e (names_view c.args.names.now))) c.e-item.is c.in_err-expr.ensures) c.loop-e.invariant))

pub exprs-loop-e-preserved : goal.exprs-loop-e-preserved
exprs-loop-e-preserved t c =
    judged_next expr_part stay c.args.exprs.now c.loop-e.e-index c.e-item.result (names_view c.args.names.now) (names_view c.args.names.now) (names_view c.args.names.now)
    (expr_tree c.in_ok-expr.field-0) (map expr_tree c.loop-e.found.items) (map expr_tree c.push.new.self.items) (omega arith)
    (ap (λ e. expr_part e (names_view c.args.names.now)) (sym c.e-item.is) ∙ c.in_ok-expr.ensures) refl
    (ap (map expr_tree) c.in_ok-push.ensures.items ∙ map-append expr_tree c.loop-e.found.items (c.in_ok-expr.field-0 ∷ []))
    c.loop-e.invariant

pub exprs-returns : goal.exprs-returns
exprs-returns t c =
    exprs_each c.args.exprs.now (names_view c.args.names.now)
    ∙ judged_done expr_part stay c.args.exprs.now c.loop-e.e-index (names_view c.args.names.now) (names_view c.args.names.now) (map expr_tree c.loop-e.found.items) c.loop-e-test.false c.loop-e.invariant

pub generators-loop-g-init : goal.generators-loop-g-init
generators-loop-g-init t c = judged_start (gen_part (names_view c.args.names.now)) gen_next c.args.gens.now c.args.here.now (map gen_tree c.new-found.result.items) (ap (map gen_tree) c.new-found.ensures.items)

pub generators-returns-in_err-generator : goal.generators-returns-in_err-generator
generators-returns-in_err-generator t c =
    let same : c.from_residual.result ≡ Err c.in_err-generator.field-0.0 = search rules in
    record {
      judged =
          subst (λ r. Judges (λ found. map gen_tree found.items) r (gens_resolved (listed (map gen_tree c.args.gens.now)) c.args.here.now (names_view c.args.names.now))) (sym same)
          (subst (λ o. Breaks c.in_err-generator.field-0.0 o) (sym (gens_each c.args.gens.now c.args.here.now (names_view c.args.names.now)))
          (judged_breaks (gen_part (names_view c.args.names.now)) gen_next c.args.gens.now c.loop-g.g-index c.g-item.result c.loop-g.here c.args.here.now (map gen_tree c.loop-g.found.items) c.in_err-generator.field-0.0 (omega arith)
          (subst (λ g. Breaks c.in_err-generator.field-0.0 (gen_part (names_view c.args.names.now) g c.loop-g.here)) c.g-item.is c.in_err-generator.ensures) c.loop-g.invariant));
      here = search rules;
    }

pub generators-loop-g-preserved : goal.generators-loop-g-preserved
generators-loop-g-preserved t c =
    judged_next (gen_part (names_view c.args.names.now)) gen_next c.args.gens.now c.loop-g.g-index c.g-item.result c.loop-g.here c.add.new.self c.args.here.now
    (gen_tree c.in_ok-generator.field-0) (map gen_tree c.loop-g.found.items) (map gen_tree c.push.new.self.items) (omega arith)
    (ap (λ g. gen_part (names_view c.args.names.now) g c.loop-g.here) (sym c.g-item.is) ∙ c.in_ok-generator.ensures)
    (c.in_ok-add.ensures.added ∙ ap (λ n. with_name n c.loop-g.here) c.generator_name.ensures ∙ ap (λ g. gen_next g c.loop-g.here) c.g-item.is)
    (ap (map gen_tree) c.in_ok-push.ensures.items ∙ map-append gen_tree c.loop-g.found.items (c.in_ok-generator.field-0 ∷ []))
    c.loop-g.invariant

pub generators-returns-clause-judged : goal.generators-returns-clause-judged
generators-returns-clause-judged t c =
    gens_each c.args.gens.now c.args.here.now (names_view c.args.names.now)
    ∙ judged_done (gen_part (names_view c.args.names.now)) gen_next c.args.gens.now c.loop-g.g-index c.loop-g.here c.args.here.now (map gen_tree c.loop-g.found.items) c.loop-g-test.false c.loop-g.invariant

pub generators-returns-clause-here : goal.generators-returns-clause-here
generators-returns-clause-here t c =
    after_done (gen_part (names_view c.args.names.now)) gen_next c.args.gens.now c.loop-g.g-index c.loop-g.here c.args.here.now (map gen_tree c.loop-g.found.items) c.loop-g-test.false c.loop-g.invariant
    ∙ sym (declared_after gen_tree c.args.gens.now c.args.here.now)

pub type_args-loop-arg-init : goal.type_args-loop-arg-init
type_args-loop-arg-init t c = judged_start type_arg_part stay c.args.args.now (names_view c.args.names.now) (map type_arg_tree c.new-found.result.items) (ap (map type_arg_tree) c.new-found.ensures.items)

pub type_args-returns-in_err-type_arg : goal.type_args-returns-in_err-type_arg
type_args-returns-in_err-type_arg t c =
    let same : c.from_residual.result ≡ Err c.in_err-type_arg.field-0.0 = search rules in
    subst (λ r. Judges (λ found. map type_arg_tree found.items) r (type_args_resolved (listed (map type_arg_tree c.args.args.now)) (names_view c.args.names.now))) (sym same)
    (subst (λ o. Breaks c.in_err-type_arg.field-0.0 o) (sym (type_args_each c.args.args.now (names_view c.args.names.now)))
    (judged_breaks type_arg_part stay c.args.args.now c.loop-arg.arg-index c.arg-item.result (names_view c.args.names.now) (names_view c.args.names.now) (map type_arg_tree c.loop-arg.found.items) c.in_err-type_arg.field-0.0 (omega arith)
    (subst (λ a. Breaks c.in_err-type_arg.field-0.0 (type_arg_part a (names_view c.args.names.now))) c.arg-item.is c.in_err-type_arg.ensures) c.loop-arg.invariant))

pub type_args-loop-arg-preserved : goal.type_args-loop-arg-preserved
type_args-loop-arg-preserved t c =
    judged_next type_arg_part stay c.args.args.now c.loop-arg.arg-index c.arg-item.result (names_view c.args.names.now) (names_view c.args.names.now) (names_view c.args.names.now)
    (type_arg_tree c.in_ok-type_arg.field-0) (map type_arg_tree c.loop-arg.found.items) (map type_arg_tree c.push.new.self.items) (omega arith)
    (ap (λ a. type_arg_part a (names_view c.args.names.now)) (sym c.arg-item.is) ∙ c.in_ok-type_arg.ensures) refl
    (ap (map type_arg_tree) c.in_ok-push.ensures.items ∙ map-append type_arg_tree c.loop-arg.found.items (c.in_ok-type_arg.field-0 ∷ []))
    c.loop-arg.invariant

pub type_args-returns : goal.type_args-returns
type_args-returns t c =
    type_args_each c.args.args.now (names_view c.args.names.now)
    ∙ judged_done type_arg_part stay c.args.args.now c.loop-arg.arg-index (names_view c.args.names.now) (names_view c.args.names.now) (map type_arg_tree c.loop-arg.found.items) c.loop-arg-test.false c.loop-arg.invariant

pub expr_in-returns : goal.expr_in-returns
expr_in-returns t c =
    let names : names_view c.under-inside.result ≡ within c.args.here.now (names_view c.args.names.now) = search (rules, chain.the_lemmas) in
    subst (λ ns. Judges expr_tree c.expr.result (expr_resolved (expr_tree c.args.e.now) ns)) names c.expr.ensures

pub type_in-returns : goal.type_in-returns
type_in-returns t c =
    let names : names_view c.under-inside.result ≡ within c.args.here.now (names_view c.args.names.now) = search (rules, chain.the_lemmas) in
    subst (λ ns. Judges type_tree c.type_expr.result (type_resolved (type_tree c.args.t.now) ns)) names c.type_expr.ensures
