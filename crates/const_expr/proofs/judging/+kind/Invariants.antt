use Rattle.std.proofs.Common.{◌≡◌, ◌+◌, ◌*◌, ◌++◌, map, length}
use Rattle.std.specs.Prelude.{◌==◌}
use Rattle.cal_ast.specs.Tree.{listed}
use Rattle.cal_ast.specs.View.{expr_tree, gen_tree, type_arg_tree, type_tree}
use Rattle.cal_model.specs.Kinding.{Fine, and_so, arguments_fit, elements_in, kinds, type_arguments}
use Rattle.cal_model.specs.View.{kind_view, local_view}
use Rattle.const_env.specs.Counting.{inner_variables, names_view}
use Rattle.const_env.specs.Fitting.{both_fit, capped, fit_of}
use Rattle.const_expr.specs.Shaping.{argument_view}
use Rattle.const_expr.proofs.GenSteps.{elements_from}
use Rattle.const_expr.proofs.Steps.{fit_from, given_from, kinds_from}
use Rattle.const_expr.proofs.Weights.{size}
use Rattle.const_expr.proofs.judging.+kind.Given as goal

abbrev pub decreases-kind : goal.decreases-kind
decreases-kind l = size (expr_tree l.e.now)

abbrev pub decreases-kind_of_if : goal.decreases-kind_of_if
decreases-kind_of_if l = 4 + size (expr_tree l.test.now) + size (expr_tree l.yes.now) + size (expr_tree l.no.now)

abbrev pub decreases-kind_of_index : goal.decreases-kind_of_index
decreases-kind_of_index l = 4 + size (expr_tree l.base.now) + size (expr_tree l.place.now)

abbrev pub decreases-kind_of_binary : goal.decreases-kind_of_binary
decreases-kind_of_binary l = 4 + size (expr_tree l.left.now) + size (expr_tree l.right.now)

abbrev pub decreases-kind_of_call : goal.decreases-kind_of_call
decreases-kind_of_call l = 4 + size (listed (map expr_tree l.args.now))

abbrev pub decreases-arguments_fit : goal.decreases-arguments_fit
decreases-arguments_fit l = 2 + size (listed (map expr_tree l.args.now))

abbrev pub decreases-kind_of_list : goal.decreases-kind_of_list
decreases-kind_of_list l = 4 + size (listed (map expr_tree l.items.now))

abbrev pub decreases-fit_of : goal.decreases-fit_of
decreases-fit_of l = 2 + size (listed (map expr_tree l.exprs.now))

abbrev pub decreases-kind_of_comp : goal.decreases-kind_of_comp
decreases-kind_of_comp l = 4 + size (expr_tree l.item.now) + size (listed (map gen_tree l.gens.now))

abbrev pub decreases-elements_in : goal.decreases-elements_in
decreases-elements_in l = 2 + size (listed (map gen_tree l.gens.now))

abbrev pub decreases-numbers_of : goal.decreases-numbers_of
decreases-numbers_of l = size (gen_tree l.g.now)

abbrev pub decreases-constant_number : goal.decreases-constant_number
decreases-constant_number l = 1 + size (expr_tree l.e.now)

abbrev pub decreases-type_judged : goal.decreases-type_judged
decreases-type_judged l = size (type_tree l.t.now)

abbrev pub decreases-type_arguments : goal.decreases-type_arguments
decreases-type_arguments l = 2 + size (listed (map type_arg_tree l.args.now))

abbrev pub decreases-argument : goal.decreases-argument
decreases-argument l = size (type_arg_tree l.arg.now)

abbrev pub invariant-arguments_fit-loop-place : goal.invariant-arguments_fit-loop-place
invariant-arguments_fit-loop-place l =
    and_so (fit_from l.place l.args (map local_view l.formals) (names_view l.names)) (λ b. Fine (length l.args == length (map local_view l.formals)))
    ≡ arguments_fit (listed (map expr_tree l.args)) (map local_view l.formals) (names_view l.names)

abbrev pub invariant-fit_of-loop-e : goal.invariant-fit_of-loop-e
invariant-fit_of-loop-e l =
    and_so (kinds_from l.e-index l.exprs (names_view l.names)) (λ ks. Fine (both_fit l.fit (fit_of (kind_view l.k) ks)))
    ≡ and_so (kinds (listed (map expr_tree l.exprs)) (names_view l.names)) (λ ks. Fine (fit_of (kind_view l.k) ks))

abbrev pub invariant-elements_in-loop-place : goal.invariant-elements_in-loop-place
invariant-elements_in-loop-place l =
    (capped l.size ≡ l.size)
    × (and_so (elements_from l.place l.gens (inner_variables l.names.inner) (names_view l.names)) (λ n. Fine (capped (l.size * n)))
    ≡ and_so (elements_in (listed (map gen_tree l.gens)) (names_view l.names)) (λ n. Fine (capped n)))

abbrev pub invariant-type_arguments-loop-arg : goal.invariant-type_arguments-loop-arg
invariant-type_arguments-loop-arg l =
    and_so (given_from l.arg-index l.args (names_view l.names)) (λ xs. Fine (map argument_view l.given.items ++ xs))
    ≡ type_arguments (listed (map type_arg_tree l.args)) (names_view l.names)
