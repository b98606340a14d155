use Rattle.std.proofs.Common.{◌≡◌, ◌+◌, map, drop, ◌≤ℤ◌, ◌-ℤ◌}
use Rattle.std.specs.Prelude.{unsigned_abs}
use Rattle.cal_model.specs.Env.{with_local}
use Rattle.cal_model.specs.Expression.{each_from, elements, eval, eval_all, span}
use Rattle.cal_model.specs.Outcome.{Gives, and_then}
use Rattle.cal_model.specs.Value.{joined}
use Rattle.cal_model.specs.View.{in_order, value_view}
use Rattle.const_env.specs.Meant.{counted, counter_var, name_of}
use Rattle.const_expr.specs.Scoping.{calls, seen}
use Rattle.cal_ast.specs.Tree.{listed}
use Rattle.cal_ast.specs.View.{expr_tree, gen_tree, type_arg_tree, type_tree}
use Rattle.cal_model.specs.View.{local_view}
use Rattle.const_expr.proofs.Weights.{room, size, start_size, locals_size}
use Rattle.const_expr.proofs.evaluate.+eval.Given as goal

abbrev pub decreases-eval : goal.decreases-eval
decreases-eval l = room l.scope.now + size (expr_tree l.e.now)

abbrev pub decreases-eval_all : goal.decreases-eval_all
decreases-eval_all l = room l.scope.now + (2 + size (listed (map expr_tree l.exprs.now)))

abbrev pub decreases-eval_list : goal.decreases-eval_list
decreases-eval_list l = room l.scope.now + (4 + size (listed (map expr_tree l.exprs.now)))

abbrev pub decreases-eval_if : goal.decreases-eval_if
decreases-eval_if l = room l.scope.now + (4 + size (expr_tree l.test.now) + size (expr_tree l.yes.now) + size (expr_tree l.no.now))

abbrev pub decreases-eval_index : goal.decreases-eval_index
decreases-eval_index l = room l.scope.now + (4 + size (expr_tree l.base.now) + size (expr_tree l.place.now))

abbrev pub decreases-eval_item : goal.decreases-eval_item
decreases-eval_item l = room l.scope.now + (1 + size (expr_tree l.place.now))

abbrev pub decreases-eval_binary : goal.decreases-eval_binary
decreases-eval_binary l = room l.scope.now + (4 + size (expr_tree l.first.now) + size (expr_tree l.second.now))

abbrev pub decreases-eval_call : goal.decreases-eval_call
decreases-eval_call l = room l.scope.now + (4 + size (listed (map expr_tree l.args.now)))

abbrev pub decreases-called : goal.decreases-called
decreases-called l = room l.scope.now

abbrev pub decreases-answer : goal.decreases-answer
decreases-answer l = room l.scope.now + (2 + locals_size (map local_view l.locals.now) + size (expr_tree l.fun.now.body))

abbrev pub decreases-first_value : goal.decreases-first_value
decreases-first_value l = room l.scope.now + (1 + start_size (local_view l.local.now).start)

abbrev pub decreases-eval_comp : goal.decreases-eval_comp
decreases-eval_comp l = room l.scope.now + (4 + size (expr_tree l.item.now) + size (listed (map gen_tree l.gens.now)))

abbrev pub decreases-elements : goal.decreases-elements
decreases-elements l = room l.scope.now + (2 + size (expr_tree l.item.now) + size (listed (map gen_tree l.gens.now)))

abbrev pub decreases-element : goal.decreases-element
decreases-element l = room l.scope.now + (1 + size (expr_tree l.item.now))

abbrev pub decreases-each : goal.decreases-each
decreases-each l = room l.scope.now + (6 + size (expr_tree l.item.now) + size (listed (map gen_tree l.others.now)))

abbrev pub decreases-constant : goal.decreases-constant
decreases-constant l = room l.scope.now + (1 + size (expr_tree l.e.now))

abbrev pub decreases-type_meant : goal.decreases-type_meant
decreases-type_meant l = room l.scope.now + size (type_tree l.t.now)

abbrev pub decreases-args_given : goal.decreases-args_given
decreases-args_given l = room l.scope.now + (2 + size (listed (map type_arg_tree l.args.now)))

abbrev pub invariant-eval_all-loop-e : goal.invariant-eval_all-loop-e
invariant-eval_all-loop-e l =
    and_then (eval_all (listed (map expr_tree (drop l.e-index l.exprs))) (calls l.scope) (seen l.scope) l.left) (λ vs k. Gives (joined (in_order (map value_view l.items.items)) vs) k)
    ≡ eval_all (listed (map expr_tree l.exprs)) (calls l.scope) (seen l.scope) l.initial.left

abbrev pub invariant-each-numbers : goal.invariant-each-numbers
invariant-each-numbers l =
    (l.range.low ≤ℤ l.number) × (l.number ≤ℤ l.range.high)
    × (and_then (each_from (span l.number l.range.high) l.number (λ i m. elements (listed (map gen_tree l.others)) (λ inner k. eval (expr_tree l.item) (calls l.scope) inner k) (calls l.scope) (with_local (counter_var (name_of l.first) (counted l.range.t i)) (seen l.scope)) m) l.left) (λ vs k. Gives (joined (in_order (map value_view l.found.items)) vs) k)
    ≡ and_then (each_from (span l.range.low l.range.high) l.range.low (λ i m. elements (listed (map gen_tree l.others)) (λ inner k. eval (expr_tree l.item) (calls l.scope) inner k) (calls l.scope) (with_local (counter_var (name_of l.first) (counted l.range.t i)) (seen l.scope)) m) l.initial.left) (λ vs k. Gives (joined (in_order (map value_view l.initial.found.items)) vs) k))

abbrev pub decreases-each-numbers : goal.decreases-each-numbers
decreases-each-numbers l = unsigned_abs (l.range.high -ℤ l.number)
