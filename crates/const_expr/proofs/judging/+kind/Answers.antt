use Rattle.std.proofs.Common.{◌≡◌, Err, true, ◌*◌, [], ◌∷◌, map, take, get_or, length, refl, sym, ap, subst, ◌∙◌, arith, rules}
use Rattle.std.proofs.lemmas.List.{map-append}
use Rattle.std.specs.Prelude.{option_map, slice_get, ◌==◌}
use Rattle.cal_ast.specs.Places.{begins}
use Rattle.cal_ast.specs.Tree as tree
use Rattle.cal_ast.specs.Tree.{listed}
use Rattle.cal_ast.specs.View.{expr_tree, gen_tree, type_arg_tree}
use Rattle.cal_model.specs.Kinding.{Fine, and_so, arguments_fit, elements_in, kind, kinds, list_of_kind, type_arguments, with_counters}
use Rattle.cal_model.specs.View.{kind_view, local_view}
use Rattle.const_env.specs.Counting.{inner_variables, named_by, names_view, numbers_judged}
use Rattle.const_env.specs.Fitting.{capped, fit_of, formal_fits}
use Rattle.const_env.specs.Judging.{Breaks, Judges}
use Rattle.const_expr.specs.Shaping.{argument_judged, argument_view}
use Rattle.const_env.specs.declared.inside.Inside as chain
use Rattle.const_env.proofs.Capped.{capped_once}
use Rattle.const_expr.proofs.GenSteps.{comp_breaks, comp_goes, counters_named, elements_break, elements_next, elements_start, gen_size, inside}
use Rattle.const_expr.proofs.Steps.{arg_size, args_next, args_start, fit_next, formals_break, given_breaks, given_next, given_start, list_goes}
use Rattle.const_expr.proofs.Expressions.{size_at}
use Rattle.const_expr.proofs.Judged.{breaks_on}
use Rattle.const_expr.proofs.Weights.{size}
use Rattle.const_expr.proofs.judging.+kind.Goals as goal

pub arguments_fit-loop-place-init : goal.arguments_fit-loop-place-init
arguments_fit-loop-place-init t c = args_start c.args.args.now (map local_view c.args.formals.now) (names_view c.args.names.now)

pub arguments_fit-kind-requires : goal.arguments_fit-kind-requires
arguments_fit-kind-requires t c = (let l = size_at c.args.args.now c.loop-place.place c.index-args-place.result (omega arith) in let i : size (expr_tree c.index-args-place.result) ≡ size (expr_tree (get_or c.args.args.now c.loop-place.place c.index-args-place.result)) = ap (λ e. size (expr_tree e)) c.index-args-place.is in omega arith, tt)

pub arguments_fit-returns-in_err-argument_fits : goal.arguments_fit-returns-in_err-argument_fits
arguments_fit-returns-in_err-argument_fits t c =
    let same : c.from_residual-in_err-argument_fits.result ≡ Err c.in_err-argument_fits.field-0.0 = search rules in
    let fits = subst (λ o. Breaks c.in_err-argument_fits.field-0.0 (formal_fits o (kind_view c.in_ok-k.k) (begins (expr_tree (get_or c.args.args.now c.loop-place.place c.index-args-place.result))))) c.formal_at.ensures
    (subst (λ e. Breaks c.in_err-argument_fits.field-0.0 (formal_fits (option_map (λ f. local_view f.now) c.formal_at.result) (kind_view c.in_ok-k.k) (begins (expr_tree e)))) c.index-args-place.is
    (subst (λ n. Breaks c.in_err-argument_fits.field-0.0 (formal_fits (option_map (λ f. local_view f.now) c.formal_at.result) (kind_view c.in_ok-k.k) n)) c.place_of.ensures c.in_err-argument_fits.ensures)) in
    subst (λ r. Judges (λ fit. fit) r (arguments_fit (listed (map expr_tree c.args.args.now)) (map local_view c.args.formals.now) (names_view c.args.names.now))) (sym same)
    (formals_break c.args.args.now c.loop-place.place c.index-args-place.result (map local_view c.args.formals.now) (names_view c.args.names.now) (length c.args.args.now == length (map local_view c.args.formals.now)) (kind_view c.in_ok-k.k)
    (arguments_fit (listed (map expr_tree c.args.args.now)) (map local_view c.args.formals.now) (names_view c.args.names.now)) c.in_err-argument_fits.field-0.0 (omega arith)
    (ap (λ e. kind (expr_tree e) (names_view c.args.names.now)) (sym c.index-args-place.is) ∙ c.in_ok-k.ensures) fits c.loop-place.invariant)

pub arguments_fit-loop-place-preserved : goal.arguments_fit-loop-place-preserved
arguments_fit-loop-place-preserved t c =
    let fits : formal_fits (slice_get (map local_view c.args.formals.now) c.loop-place.place) (kind_view c.in_ok-k.k) (begins (expr_tree (get_or c.args.args.now c.loop-place.place c.index-args-place.result))) ≡ Fine tt =
    ap (λ o. formal_fits o (kind_view c.in_ok-k.k) (begins (expr_tree (get_or c.args.args.now c.loop-place.place c.index-args-place.result)))) (sym c.formal_at.ensures)
    ∙ ap (λ e. formal_fits (option_map (λ f. local_view f.now) c.formal_at.result) (kind_view c.in_ok-k.k) (begins (expr_tree e))) (sym c.index-args-place.is)
    ∙ ap (λ n. formal_fits (option_map (λ f. local_view f.now) c.formal_at.result) (kind_view c.in_ok-k.k) n) (sym c.place_of.ensures)
    ∙ c.in_ok-argument_fits.ensures in
    args_next c.args.args.now c.loop-place.place c.index-args-place.result (map local_view c.args.formals.now) (names_view c.args.names.now) (length c.args.args.now == length (map local_view c.args.formals.now)) (kind_view c.in_ok-k.k)
    (arguments_fit (listed (map expr_tree c.args.args.now)) (map local_view c.args.formals.now) (names_view c.args.names.now)) (omega arith)
    (ap (λ e. kind (expr_tree e) (names_view c.args.names.now)) (sym c.index-args-place.is) ∙ c.in_ok-k.ensures) fits c.loop-place.invariant

pub elements_in-loop-place-init : goal.elements_in-loop-place-init
elements_in-loop-place-init t c = (refl, elements_start c.args.gens.now (inner_variables c.args.names.now.inner) (names_view c.args.names.now))

pub elements_in-numbers_of-requires : goal.elements_in-numbers_of-requires
elements_in-numbers_of-requires t c = (let l = gen_size c.args.gens.now c.loop-place.place c.index-gens-place.result (omega arith) in let i : size (gen_tree c.index-gens-place.result) ≡ size (gen_tree (get_or c.args.gens.now c.loop-place.place c.index-gens-place.result)) = ap (λ g. size (gen_tree g)) c.index-gens-place.is in omega arith, tt)

pub elements_in-returns-in_err-numbers : goal.elements_in-returns-in_err-numbers
elements_in-returns-in_err-numbers t c =
    let same : c.from_residual.result ≡ Err c.in_err-numbers.field-0.0 = search rules in
    let names : names_view c.under.result ≡ inside (named_by (take c.loop-place.place c.args.gens.now) (inner_variables c.args.names.now.inner)) (names_view c.args.names.now) = search (rules, chain.the_lemmas) in
    subst (λ r. Judges (λ n. n) r (and_so (elements_in (listed (map gen_tree c.args.gens.now)) (names_view c.args.names.now)) (λ n. Fine (capped n)))) (sym same)
    (elements_break c.args.gens.now c.loop-place.place c.index-gens-place.result (inner_variables c.args.names.now.inner) (names_view c.args.names.now) c.loop-place.size
    (and_so (elements_in (listed (map gen_tree c.args.gens.now)) (names_view c.args.names.now)) (λ n. Fine (capped n))) c.in_err-numbers.field-0.0 (omega arith)
    (subst (λ g. Breaks c.in_err-numbers.field-0.0 (numbers_judged (gen_tree g) (inside (named_by (take c.loop-place.place c.args.gens.now) (inner_variables c.args.names.now.inner)) (names_view c.args.names.now)))) c.index-gens-place.is
    (subst (λ ns. Breaks c.in_err-numbers.field-0.0 (numbers_judged (gen_tree c.index-gens-place.result) ns)) names c.in_err-numbers.ensures)) c.loop-place.invariant.1)

pub elements_in-loop-place-preserved : goal.elements_in-loop-place-preserved
elements_in-loop-place-preserved t c =
    let names : names_view c.under.result ≡ inside (named_by (take c.loop-place.place c.args.gens.now) (inner_variables c.args.names.now.inner)) (names_view c.args.names.now) = search (rules, chain.the_lemmas) in
    let numbers : numbers_judged (gen_tree (get_or c.args.gens.now c.loop-place.place c.index-gens-place.result)) (inside (named_by (take c.loop-place.place c.args.gens.now) (inner_variables c.args.names.now.inner)) (names_view c.args.names.now)) ≡ Fine c.in_ok-numbers.numbers =
    ap (λ g. numbers_judged (gen_tree g) (inside (named_by (take c.loop-place.place c.args.gens.now) (inner_variables c.args.names.now.inner)) (names_view c.args.names.now))) (sym c.index-gens-place.is)
    ∙ ap (λ ns. numbers_judged (gen_tree c.index-gens-place.result) ns) (sym names) ∙ c.in_ok-numbers.ensures in (
      ap capped c.product-size.ensures ∙ capped_once (c.loop-place.size * c.in_ok-numbers.numbers) ∙ sym c.product-size.ensures,
      elements_next c.args.gens.now c.loop-place.place c.index-gens-place.result (inner_variables c.args.names.now.inner) (names_view c.args.names.now) c.in_ok-numbers.numbers c.loop-place.size c.product-size.result
          (and_so (elements_in (listed (map gen_tree c.args.gens.now)) (names_view c.args.names.now)) (λ n. Fine (capped n))) (omega arith) numbers c.product-size.ensures c.loop-place.invariant.1,
    )

pub fit_of-kind-requires : goal.fit_of-kind-requires
fit_of-kind-requires t c = (let l = size_at c.args.exprs.now c.loop-e.e-index c.e-item.result (omega arith) in let i : size (expr_tree c.e-item.result) ≡ size (expr_tree (get_or c.args.exprs.now c.loop-e.e-index c.e-item.result)) = ap (λ e. size (expr_tree e)) c.e-item.is in omega arith, tt)

pub fit_of-loop-e-preserved : goal.fit_of-loop-e-preserved
fit_of-loop-e-preserved t c =
    fit_next c.args.exprs.now c.loop-e.e-index c.e-item.result (names_view c.args.names.now) (kind_view c.args.k.now) (kind_view c.in_ok-l.l) c.loop-e.fit c.with-fit.result
    (and_so (kinds (listed (map expr_tree c.args.exprs.now)) (names_view c.args.names.now)) (λ ks. Fine (fit_of (kind_view c.args.k.now) ks))) (omega arith)
    (ap (λ e. kind (expr_tree e) (names_view c.args.names.now)) (sym c.e-item.is) ∙ c.in_ok-l.ensures) c.with-fit.ensures c.loop-e.invariant

pub kind_of_comp-returns-in_err-k : goal.kind_of_comp-returns-in_err-k
kind_of_comp-returns-in_err-k t c =
    let same : c.from_residual.result ≡ Err c.in_err-k.field-0.0 = search rules in
    let names : names_view c.under.result ≡ inside (named_by c.args.gens.now (inner_variables c.args.names.now.inner)) (names_view c.args.names.now) = search (rules, chain.the_lemmas) in
    let counters = names ∙ sym (counters_named c.args.gens.now (inner_variables c.args.names.now.inner) (names_view c.args.names.now)) in
    subst (λ r. Judges kind_view r (kind (tree.comp (expr_tree c.args.item.now) (listed (map gen_tree c.args.gens.now)) c.args.at) (names_view c.args.names.now))) (sym same)
    (breaks_on c.in_err-k.field-0.0 (kind (expr_tree c.args.item.now) (with_counters (listed (map gen_tree c.args.gens.now)) (names_view c.args.names.now))) (λ k. and_so (elements_in (listed (map gen_tree c.args.gens.now)) (names_view c.args.names.now)) (λ n. list_of_kind n k c.args.at))
    (subst (λ ns. Breaks c.in_err-k.field-0.0 (kind (expr_tree c.args.item.now) ns)) counters c.in_err-k.ensures))

pub kind_of_comp-returns-in_err-size : goal.kind_of_comp-returns-in_err-size
kind_of_comp-returns-in_err-size t c =
    let same : c.from_residual-in_err-size.result ≡ Err c.in_err-size.field-0.0 = search rules in
    let names : names_view c.under.result ≡ inside (named_by c.args.gens.now (inner_variables c.args.names.now.inner)) (names_view c.args.names.now) = search (rules, chain.the_lemmas) in
    let counters = names ∙ sym (counters_named c.args.gens.now (inner_variables c.args.names.now.inner) (names_view c.args.names.now)) in
    let item = ap (λ ns. kind (expr_tree c.args.item.now) ns) (sym counters) ∙ c.in_ok-k.ensures in
    subst (λ r. Judges kind_view r (kind (tree.comp (expr_tree c.args.item.now) (listed (map gen_tree c.args.gens.now)) c.args.at) (names_view c.args.names.now))) (sym same)
    (subst (λ o. Breaks c.in_err-size.field-0.0 o) (sym (ap (λ o. and_so o (λ k. and_so (elements_in (listed (map gen_tree c.args.gens.now)) (names_view c.args.names.now)) (λ n. list_of_kind n k c.args.at))) item))
    (comp_breaks (elements_in (listed (map gen_tree c.args.gens.now)) (names_view c.args.names.now)) c.in_err-size.field-0.0 (kind_view c.in_ok-k.k) c.args.at c.in_err-size.ensures))

pub kind_of_comp-returns : goal.kind_of_comp-returns
kind_of_comp-returns t c =
    let names : names_view c.under.result ≡ inside (named_by c.args.gens.now (inner_variables c.args.names.now.inner)) (names_view c.args.names.now) = search (rules, chain.the_lemmas) in
    let counters = names ∙ sym (counters_named c.args.gens.now (inner_variables c.args.names.now.inner) (names_view c.args.names.now)) in
    let item = ap (λ ns. kind (expr_tree c.args.item.now) ns) (sym counters) ∙ c.in_ok-k.ensures in
    subst (λ o. Judges kind_view c.list_of_kind.result o)
    (sym (ap (λ o. and_so o (λ k. and_so (elements_in (listed (map gen_tree c.args.gens.now)) (names_view c.args.names.now)) (λ n. list_of_kind n k c.args.at))) item
    ∙ comp_goes (elements_in (listed (map gen_tree c.args.gens.now)) (names_view c.args.names.now)) c.in_ok-size.size (kind_view c.in_ok-k.k) c.args.at c.in_ok-size.ensures)) c.list_of_kind.ensures

pub kind_of_list-returns : goal.kind_of_list-returns
kind_of_list-returns t c =
    let like : c.in_ok-fit.fit.like ≡ true = search rules in
    let alone : c.in_ok-fit.fit.same ≡ true = search rules in
    subst (λ o. Judges kind_view c.list_of_kind.result o)
    (sym (list_goes c.args.items.now c.in-Some.others.now c.in-Some.first.now (names_view c.args.names.now) (kind_view c.in_ok-k.k) c.in_ok-fit.fit c.args.at c.in-Some.ensures.cases.0 c.in_ok-k.ensures c.in_ok-fit.ensures like alone)) c.list_of_kind.ensures

pub type_arguments-loop-arg-init : goal.type_arguments-loop-arg-init
type_arguments-loop-arg-init t c = given_start c.args.args.now (names_view c.args.names.now) (map argument_view c.new-given.result.items) (ap (map argument_view) c.new-given.ensures.items)

pub type_arguments-argument-requires : goal.type_arguments-argument-requires
type_arguments-argument-requires t c = (let l = arg_size c.args.args.now c.loop-arg.arg-index c.arg-item.result (omega arith) in let i : size (type_arg_tree c.arg-item.result) ≡ size (type_arg_tree (get_or c.args.args.now c.loop-arg.arg-index c.arg-item.result)) = ap (λ a. size (type_arg_tree a)) c.arg-item.is in omega arith, tt)

pub type_arguments-returns-in_err-argument : goal.type_arguments-returns-in_err-argument
type_arguments-returns-in_err-argument t c =
    let same : c.from_residual.result ≡ Err c.in_err-argument.field-0.0 = search rules in
    subst (λ r. Judges (λ given. map argument_view given.items) r (type_arguments (listed (map type_arg_tree c.args.args.now)) (names_view c.args.names.now))) (sym same)
    (given_breaks c.args.args.now c.loop-arg.arg-index c.arg-item.result (names_view c.args.names.now) (map argument_view c.loop-arg.given.items) (type_arguments (listed (map type_arg_tree c.args.args.now)) (names_view c.args.names.now)) c.in_err-argument.field-0.0 (omega arith)
    (subst (λ a. Breaks c.in_err-argument.field-0.0 (argument_judged (type_arg_tree a) (names_view c.args.names.now))) c.arg-item.is c.in_err-argument.ensures) c.loop-arg.invariant)

pub type_arguments-loop-arg-preserved : goal.type_arguments-loop-arg-preserved
type_arguments-loop-arg-preserved t c =
    given_next c.args.args.now c.loop-arg.arg-index c.arg-item.result (names_view c.args.names.now) (map argument_view c.loop-arg.given.items) (map argument_view c.push.new.self.items) (argument_view c.in_ok-argument.field-0)
    (type_arguments (listed (map type_arg_tree c.args.args.now)) (names_view c.args.names.now)) (omega arith)
    (ap (λ a. argument_judged (type_arg_tree a) (names_view c.args.names.now)) (sym c.arg-item.is) ∙ c.in_ok-argument.ensures)
    (ap (map argument_view) c.in_ok-push.ensures.items ∙ map-append argument_view c.loop-arg.given.items (c.in_ok-argument.field-0 ∷ []))
    c.loop-arg.invariant
