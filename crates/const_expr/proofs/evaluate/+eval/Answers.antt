use Rattle.std.proofs.Common.{◌≡◌, ap, sym, subst, ◌∙◌, map, get_or, true, Err, None, arith, rules}
use Rattle.std.proofs.lemmas.Int.{ints}
use Rattle.rvc_base.specs.Turns.{max_turns, max_turns_is}
use Rattle.cal_ast.specs.Tree.{listed}
use Rattle.cal_ast.specs.View.{expr_tree, gen_tree, type_arg_tree, type_tree}
use Rattle.cal_model.specs.Call.{fun_named}
use Rattle.cal_model.specs.Expression.{args_given, elements, eval, eval_all, indexed, size_of_value, span, type_meant}
use Rattle.cal_model.specs.Outcome.{Gives, and_then}
use Rattle.cal_model.specs.Value.{joined}
use Rattle.cal_model.specs.View.{fun_view, in_order, local_view, value_view}
use Rattle.cal_model.specs.Env.{with_local}
use Rattle.const_env.specs.Constants.{var_of}
use Rattle.const_env.specs.Held.{held}
use Rattle.const_expr.specs.declared.scope.Local as locals
use Rattle.const_env.specs.Meant.{counter_var, given_view, name_of, number_in}
use Rattle.const_env.specs.Outcome.{Evaluates, Stops}
use Rattle.const_expr.specs.Scoping.{calls, seen}
use Rattle.const_env.specs.Sizes.{are_sized}
use Rattle.const_expr.proofs.Calling.{called_falls, called_gives, called_lacks, called_stops, calls_see}
use Rattle.const_expr.proofs.EachNumber.{adds, element_of, no_numbers, numbers_end, numbers_next, numbers_stop}
use Rattle.const_expr.proofs.Gens.{gens_clash, gens_range, gens_stop_high, gens_stop_low, gens_stop_type, high_no_number, is_number, low_no_number, no_number}
use Rattle.const_expr.proofs.Going.{goes_on}
use Rattle.const_env.proofs.Tested.{sized_parts}
use Rattle.const_expr.proofs.Typed.{after_shape_stops, after_value_stops, erase, kept, meant_gives, meant_stops, shape_given, shape_stops, value_given, value_stops}
use Rattle.const_expr.proofs.Expressions.{all_done, all_next, alone_evaluates, comp_goes, element_goes, size_at}
use Rattle.const_expr.proofs.Rights.{binary_goes}
use Rattle.const_expr.proofs.Weights.{size}
use Rattle.const_expr.proofs.evaluate.+eval.Goals as goal

pub args_given-returns-in_err-_t-in-Shape : goal.args_given-returns-in_err-_t-in-Shape
args_given-returns-in_err-_t-in-Shape t c = λ left. let same : c.from_residual.result ≡ Err c.in_err-_t-in-Shape.field-0.0 = search rules in subst (λ r. Evaluates given_view r left (erase (args_given (listed (map type_arg_tree c.args.args.now)) (calls c.args.scope.now) (seen c.args.scope.now) left))) (sym same) (shape_stops c.args.args.now c.in-Some.first.now c.in-Some.others.now c.in-Shape.name c.in-Shape.shape (calls c.args.scope.now) (seen c.args.scope.now) left c.in_err-_t-in-Shape.field-0.0 c.in-Some.ensures.cases.0 c.in-Shape.is (c.in_err-_t-in-Shape.ensures.means left))

pub args_given-returns-in_err-given-in-Shape : goal.args_given-returns-in_err-given-in-Shape
args_given-returns-in_err-given-in-Shape t c = λ left. let same : c.from_residual-in_err-given-in-Shape.result ≡ Err c.in_err-given-in-Shape.field-0.0 = search rules in subst (λ r. Evaluates given_view r left (erase (args_given (listed (map type_arg_tree c.args.args.now)) (calls c.args.scope.now) (seen c.args.scope.now) left))) (sym same) (after_shape_stops c.args.args.now c.in-Some.first.now c.in-Some.others.now c.in-Shape.name c.in-Shape.shape (calls c.args.scope.now) (seen c.args.scope.now) c.in_ok-_t-in-Shape._t left c.in_err-given-in-Shape.field-0.0 c.in-Some.ensures.cases.0 c.in-Shape.is (c.in_ok-_t-in-Shape.ensures.means left) (c.in_err-given-in-Shape.ensures left))

pub args_given-returns-in_err-given-in-Value : goal.args_given-returns-in_err-given-in-Value
args_given-returns-in_err-given-in-Value t c = λ left. let same : c.from_residual-in_err-given-in-Value.result ≡ Err c.in_err-given-in-Value.field-0.0 = search rules in subst (λ r. Evaluates given_view r left (erase (args_given (listed (map type_arg_tree c.args.args.now)) (calls c.args.scope.now) (seen c.args.scope.now) left))) (sym same) (after_value_stops c.args.args.now c.in-Some.first.now c.in-Some.others.now c.in-Value.name c.in-Value.value (calls c.args.scope.now) (seen c.args.scope.now) (value_view c.in_ok-size-in-Value.size) left c.in_err-given-in-Value.field-0.0 c.in-Some.ensures.cases.0 c.in-Value.is (c.in_ok-size-in-Value.ensures left) (c.in_err-given-in-Value.ensures left))

pub args_given-returns-in_err-size-in-Value : goal.args_given-returns-in_err-size-in-Value
args_given-returns-in_err-size-in-Value t c = λ left. let same : c.from_residual-in_err-size-in-Value.result ≡ Err c.in_err-size-in-Value.field-0.0 = search rules in subst (λ r. Evaluates given_view r left (erase (args_given (listed (map type_arg_tree c.args.args.now)) (calls c.args.scope.now) (seen c.args.scope.now) left))) (sym same) (value_stops c.args.args.now c.in-Some.first.now c.in-Some.others.now c.in-Value.name c.in-Value.value (calls c.args.scope.now) (seen c.args.scope.now) left c.in_err-size-in-Value.field-0.0 c.in-Some.ensures.cases.0 c.in-Value.is (c.in_err-size-in-Value.ensures left))

pub args_given-returns-in_ok-given-in-Shape : goal.args_given-returns-in_ok-given-in-Shape
args_given-returns-in_ok-given-in-Shape t c = λ left. shape_given c.args.args.now c.in-Some.first.now c.in-Some.others.now c.in-Shape.name c.in-Shape.shape (calls c.args.scope.now) (seen c.args.scope.now) c.in_ok-_t-in-Shape._t (given_view c.in_ok-given-in-Shape.given) left c.in-Some.ensures.cases.0 c.in-Shape.is (c.in_ok-_t-in-Shape.ensures.means left) (c.in_ok-given-in-Shape.ensures left) ∙ ap (λ b. Gives (record { has_items = b; size = c.in_ok-given-in-Shape.given.size }) left) (sym c.with_items.ensures.has) ∙ ap (λ n. Gives (record { has_items = c.with_items.result.has_items; size = n }) left) (sym c.with_items.ensures.size)

pub args_given-returns-in_ok-given-in-Value : goal.args_given-returns-in_ok-given-in-Value
args_given-returns-in_ok-given-in-Value t c = λ left. value_given c.args.args.now c.in-Some.first.now c.in-Some.others.now c.in-Value.name c.in-Value.value (calls c.args.scope.now) (seen c.args.scope.now) (value_view c.in_ok-size-in-Value.size) (given_view c.in_ok-given-in-Value.given) left c.in-Some.ensures.cases.0 c.in-Value.is (c.in_ok-size-in-Value.ensures left) (c.in_ok-given-in-Value.ensures left) ∙ ap (λ b. Gives (record { has_items = b; size = size_of_value (value_view c.in_ok-size-in-Value.size) }) left) (sym c.with_size.ensures.has) ∙ ap (λ n. Gives (record { has_items = c.with_size.result.has_items; size = n }) left) (sym c.with_size.ensures.size)

pub called-answer-requires : goal.called-answer-requires
called-answer-requires t c = let falls = called_falls c.args.name.now c.args.scope.now c.entered-inner.result c.in-Some.fun.now c.deref-3.result.now (omega (arith, c.if-scope-eq0.false)) c.in-Some.ensures.is c.deref-3.ensures.value c.entered-inner.ensures.depth c.entered-inner.ensures.env in let parts = sized_parts (fun_view c.in-Some.fun.now) c.in-Some.ensures.sized in (omega (arith, c.requires), (parts.2, subst (λ xs. are_sized (map local_view xs) ≡ true) (sym c.deref-3.ensures.value) parts.1))

pub called-returns : goal.called-returns
called-returns t c = subst (λ o. Evaluates value_view c.answer.result c.answer.new.left o) (called_gives c.args.scope.now.depth c.args.name.now (held c.args.scope.now.env.now).funs c.in-Some.fun.now (map var_of (held c.args.scope.now.env.now).values) (in_order (map value_view c.args.args.now)) c.args.left.now c.deref.result.now c.deref-3.result.now c.in_ok-arguments.arguments.items c.deref-2.result.now (calls c.entered-inner.result) (seen c.entered-inner.result) (omega (arith, c.if-scope-eq0.false)) c.in-Some.ensures.is c.deref.ensures.value (c.in_ok-arguments.ensures c.args.left.now) c.deref-2.ensures.value c.deref-3.ensures.value c.entered-inner.ensures.calls c.entered-inner.ensures.seen ∙ sym (ap (λ f. f c.args.name.now (in_order (map value_view c.args.args.now)) c.args.left.now) (calls_see c.args.scope.now))) c.answer.ensures

pub constant-returns : goal.constant-returns
constant-returns t c = λ left. alone_evaluates c.eval.result c.eval.new.left (eval (expr_tree c.args.e.now) (calls c.args.scope.now) (seen c.args.scope.now) max_turns) left (subst (λ n. Evaluates value_view c.eval.result c.eval.new.left (eval (expr_tree c.args.e.now) (calls c.args.scope.now) (seen c.args.scope.now) n)) max_turns_is c.eval.ensures)

pub each-numbers-preserved : goal.each-numbers-preserved
each-numbers-preserved t c = let inner : seen c.inside.result ≡ with_local (counter_var (name_of c.args.first.now) (value_view c.counted.result)) (seen c.args.scope.now) = search (rules, locals.the_lemmas) in numbers_next (listed (map gen_tree c.args.others.now)) (expr_tree c.args.item.now) (calls c.args.scope.now) (calls c.inside.result) (seen c.args.scope.now) (seen c.inside.result) (name_of c.args.first.now) c.args.range.t (value_view c.counted.result) c.numbers.number-bits c.args.range.low c.args.range.high c.numbers.left c.elements.new.left (in_order (map value_view c.numbers.found.items)) (in_order (map value_view c.elements.new.found.items)) (adds (span c.args.range.low c.args.range.high) c.args.range.low (element_of (listed (map gen_tree c.args.others.now)) (expr_tree c.args.item.now) (calls c.args.scope.now) (seen c.args.scope.now) (name_of c.args.first.now) c.args.range.t) c.args.left.now (in_order (map value_view c.args.found.now.items))) c.numbers.auto.number (omega (arith, ints)) c.if-number-range.false c.inside.ensures.calls inner c.counted.ensures c.in_ok-elements.ensures c.numbers.invariant

pub each-numbers-preserved-else-number-range : goal.each-numbers-preserved-else-number-range
each-numbers-preserved-else-number-range t c = let inner : seen c.inside.result ≡ with_local (counter_var (name_of c.args.first.now) (value_view c.counted.result)) (seen c.args.scope.now) = search (rules, locals.the_lemmas) in numbers_next (listed (map gen_tree c.args.others.now)) (expr_tree c.args.item.now) (calls c.args.scope.now) (calls c.inside.result) (seen c.args.scope.now) (seen c.inside.result) (name_of c.args.first.now) c.args.range.t (value_view c.counted.result) c.numbers.number-bits c.args.range.low c.args.range.high c.numbers.left c.elements.new.left (in_order (map value_view c.numbers.found.items)) (in_order (map value_view c.elements.new.found.items)) (adds (span c.args.range.low c.args.range.high) c.args.range.low (element_of (listed (map gen_tree c.args.others.now)) (expr_tree c.args.item.now) (calls c.args.scope.now) (seen c.args.scope.now) (name_of c.args.first.now) c.args.range.t) c.args.left.now (in_order (map value_view c.args.found.now.items))) c.numbers.auto.number (omega (arith, ints)) c.if-number-range.false c.inside.ensures.calls inner c.counted.ensures c.in_ok-elements.ensures c.numbers.invariant

pub each-returns-in_err-elements : goal.each-returns-in_err-elements
each-returns-in_err-elements t c = let inner : seen c.inside.result ≡ with_local (counter_var (name_of c.args.first.now) (value_view c.counted.result)) (seen c.args.scope.now) = search (rules, locals.the_lemmas) in let same : c.from_residual.result ≡ Err c.in_err-elements.field-0.0 = search rules in subst (λ r. Evaluates (λ _. (in_order (map value_view c.elements.new.found.items))) r c.elements.new.left (adds (span c.args.range.low c.args.range.high) c.args.range.low (element_of (listed (map gen_tree c.args.others.now)) (expr_tree c.args.item.now) (calls c.args.scope.now) (seen c.args.scope.now) (name_of c.args.first.now) c.args.range.t) c.args.left.now (in_order (map value_view c.args.found.now.items)))) (sym same) (numbers_stop (listed (map gen_tree c.args.others.now)) (expr_tree c.args.item.now) (calls c.args.scope.now) (calls c.inside.result) (seen c.args.scope.now) (seen c.inside.result) (name_of c.args.first.now) c.args.range.t (value_view c.counted.result) c.numbers.number-bits c.args.range.low c.args.range.high c.numbers.left (in_order (map value_view c.numbers.found.items)) (adds (span c.args.range.low c.args.range.high) c.args.range.low (element_of (listed (map gen_tree c.args.others.now)) (expr_tree c.args.item.now) (calls c.args.scope.now) (seen c.args.scope.now) (name_of c.args.first.now) c.args.range.t) c.args.left.now (in_order (map value_view c.args.found.now.items))) c.in_err-elements.field-0.0 c.inside.ensures.calls inner c.counted.ensures c.in_err-elements.ensures c.numbers.invariant)

pub each-returns-then-number-range : goal.each-returns-then-number-range
each-returns-then-number-range t c = let inner : seen c.inside.result ≡ with_local (counter_var (name_of c.args.first.now) (value_view c.counted.result)) (seen c.args.scope.now) = search (rules, locals.the_lemmas) in numbers_end (listed (map gen_tree c.args.others.now)) (expr_tree c.args.item.now) (calls c.args.scope.now) (calls c.inside.result) (seen c.args.scope.now) (seen c.inside.result) (name_of c.args.first.now) c.args.range.t (value_view c.counted.result) c.numbers.number-bits c.args.range.low c.args.range.high c.numbers.left c.elements.new.left (in_order (map value_view c.numbers.found.items)) (in_order (map value_view c.elements.new.found.items)) (adds (span c.args.range.low c.args.range.high) c.args.range.low (element_of (listed (map gen_tree c.args.others.now)) (expr_tree c.args.item.now) (calls c.args.scope.now) (seen c.args.scope.now) (name_of c.args.first.now) c.args.range.t) c.args.left.now (in_order (map value_view c.args.found.now.items))) (omega (arith, ints)) c.if-number-range.true c.inside.ensures.calls inner c.counted.ensures c.in_ok-elements.ensures c.numbers.invariant

pub each-returns-then-range : goal.each-returns-then-range
each-returns-then-range t c = no_numbers c.args.range.low c.args.range.high (element_of (listed (map gen_tree c.args.others.now)) (expr_tree c.args.item.now) (calls c.args.scope.now) (seen c.args.scope.now) (name_of c.args.first.now) c.args.range.t) c.args.left.now (in_order (map value_view c.args.found.now.items)) (omega (arith, ints)) (omega (arith, ints)) c.if-range.true

pub element-returns : goal.element-returns
element-returns t c = element_goes c.args.left.now c.turn.new.left c.eval.new.left (λ m. eval (expr_tree c.args.item.now) (calls c.args.scope.now) (seen c.args.scope.now) m) c.in_ok-value.value c.args.found.now.items c.push.new.self.items c.in_ok-turn.ensures.ok c.in_ok-value.ensures c.in_ok-push.ensures.items

pub elements-returns : goal.elements-returns
elements-returns t c = let low_is : c.between-range.result.low ≡ c.in-Some-number.low = omega (arith, ints) in let high_is : c.between-range.result.high ≡ c.in-Some-number-2.high = search rules in subst (λ o. Evaluates (λ _. in_order (map value_view c.each.new.found.items)) c.each.result c.each.new.left (and_then o (λ vs k. Gives (joined (in_order (map value_view c.args.found.now.items)) vs) k))) (gens_range c.args.gens.now c.in-Some.first.now c.in-Some.others.now (λ inner k. eval (expr_tree c.args.item.now) (calls c.args.scope.now) inner k) (calls c.args.scope.now) (seen c.args.scope.now) c.between-range.result.t c.in_ok-t.t c.between-range.result.low c.in-Some-number.low c.between-range.result.high c.in-Some-number-2.high c.args.left.now c.in-Some.ensures.cases.0 (c.in_ok-t.ensures.means c.args.left.now) ((c.in_ok-low.ensures c.args.left.now) ∙ ap (λ v. Gives v c.args.left.now) (is_number (value_view c.in_ok-low.low) c.in-Some-number.low (sym c.in-Some-number.ensures))) ((c.in_ok-high.ensures c.args.left.now) ∙ ap (λ v. Gives v c.args.left.now) (is_number (value_view c.in_ok-high.high) c.in-Some-number-2.high (sym c.in-Some-number-2.ensures))) c.between-range.ensures.t low_is high_is) c.each.ensures

pub elements-returns-in_default-number : goal.elements-returns-in_default-number
elements-returns-in_default-number t c = gens_clash c.args.gens.now c.in-Some.first.now c.in-Some.others.now (λ inner k. eval (expr_tree c.args.item.now) (calls c.args.scope.now) inner k) (calls c.args.scope.now) (seen c.args.scope.now) c.in_ok-t.t (value_view c.in_ok-low.low) (value_view c.in_ok-high.high) c.args.left.now (in_order (map value_view c.args.found.now.items)) c.in-Some.ensures.cases.0 (c.in_ok-t.ensures.means c.args.left.now) (c.in_ok-low.ensures c.args.left.now) (c.in_ok-high.ensures c.args.left.now) (low_no_number (value_view c.in_ok-low.low) (value_view c.in_ok-high.high) (no_number c.number.result (number_in (value_view c.in_ok-low.low)) c.number.ensures c.in_default-number.not-Some))

pub elements-returns-in_default-number-2 : goal.elements-returns-in_default-number-2
elements-returns-in_default-number-2 t c = gens_clash c.args.gens.now c.in-Some.first.now c.in-Some.others.now (λ inner k. eval (expr_tree c.args.item.now) (calls c.args.scope.now) inner k) (calls c.args.scope.now) (seen c.args.scope.now) c.in_ok-t.t (value_view c.in_ok-low.low) (value_view c.in_ok-high.high) c.args.left.now (in_order (map value_view c.args.found.now.items)) c.in-Some.ensures.cases.0 (c.in_ok-t.ensures.means c.args.left.now) (c.in_ok-low.ensures c.args.left.now) (c.in_ok-high.ensures c.args.left.now) (high_no_number c.in-Some-number.low (value_view c.in_ok-low.low) (value_view c.in_ok-high.high) (sym c.in-Some-number.ensures) (no_number c.number-2.result (number_in (value_view c.in_ok-high.high)) c.number-2.ensures c.in_default-number-2.not-Some))

pub elements-returns-in_err-high : goal.elements-returns-in_err-high
elements-returns-in_err-high t c = let same : c.from_residual-in_err-high.result ≡ Err c.in_err-high.field-0.0 = search rules in subst (λ r. Evaluates (λ _. (in_order (map value_view c.args.found.now.items))) r c.args.left.now (and_then (elements (listed (map gen_tree c.args.gens.now)) (λ inner k. eval (expr_tree c.args.item.now) (calls c.args.scope.now) inner k) (calls c.args.scope.now) (seen c.args.scope.now) c.args.left.now) (λ vs k. Gives (joined (in_order (map value_view c.args.found.now.items)) vs) k))) (sym same) (gens_stop_high c.args.gens.now c.in-Some.first.now c.in-Some.others.now (λ inner k. eval (expr_tree c.args.item.now) (calls c.args.scope.now) inner k) (calls c.args.scope.now) (seen c.args.scope.now) c.in_ok-t.t (value_view c.in_ok-low.low) c.args.left.now (in_order (map value_view c.args.found.now.items)) c.in_err-high.field-0.0 c.in-Some.ensures.cases.0 (c.in_ok-t.ensures.means c.args.left.now) (c.in_ok-low.ensures c.args.left.now) (c.in_err-high.ensures c.args.left.now))

pub elements-returns-in_err-low : goal.elements-returns-in_err-low
elements-returns-in_err-low t c = let same : c.from_residual-in_err-low.result ≡ Err c.in_err-low.field-0.0 = search rules in subst (λ r. Evaluates (λ _. (in_order (map value_view c.args.found.now.items))) r c.args.left.now (and_then (elements (listed (map gen_tree c.args.gens.now)) (λ inner k. eval (expr_tree c.args.item.now) (calls c.args.scope.now) inner k) (calls c.args.scope.now) (seen c.args.scope.now) c.args.left.now) (λ vs k. Gives (joined (in_order (map value_view c.args.found.now.items)) vs) k))) (sym same) (gens_stop_low c.args.gens.now c.in-Some.first.now c.in-Some.others.now (λ inner k. eval (expr_tree c.args.item.now) (calls c.args.scope.now) inner k) (calls c.args.scope.now) (seen c.args.scope.now) c.in_ok-t.t c.args.left.now (in_order (map value_view c.args.found.now.items)) c.in_err-low.field-0.0 c.in-Some.ensures.cases.0 (c.in_ok-t.ensures.means c.args.left.now) (c.in_err-low.ensures c.args.left.now))

pub elements-returns-in_err-t : goal.elements-returns-in_err-t
elements-returns-in_err-t t c = let same : c.from_residual.result ≡ Err c.in_err-t.field-0.0 = search rules in subst (λ r. Evaluates (λ _. (in_order (map value_view c.args.found.now.items))) r c.args.left.now (and_then (elements (listed (map gen_tree c.args.gens.now)) (λ inner k. eval (expr_tree c.args.item.now) (calls c.args.scope.now) inner k) (calls c.args.scope.now) (seen c.args.scope.now) c.args.left.now) (λ vs k. Gives (joined (in_order (map value_view c.args.found.now.items)) vs) k))) (sym same) (gens_stop_type c.args.gens.now c.in-Some.first.now c.in-Some.others.now (λ inner k. eval (expr_tree c.args.item.now) (calls c.args.scope.now) inner k) (calls c.args.scope.now) (seen c.args.scope.now) c.args.left.now (in_order (map value_view c.args.found.now.items)) c.in_err-t.field-0.0 c.in-Some.ensures.cases.0 (c.in_err-t.ensures.means c.args.left.now))

pub eval_all-eval-requires : goal.eval_all-eval-requires
eval_all-eval-requires t c = (let l = size_at c.args.exprs.now c.loop-e.e-index c.e-item.result (omega arith) in let i : size (expr_tree c.e-item.result) ≡ size (expr_tree (get_or c.args.exprs.now c.loop-e.e-index c.e-item.result)) = ap (λ e. size (expr_tree e)) c.e-item.is in omega arith, tt)

pub eval_all-loop-e-preserved : goal.eval_all-loop-e-preserved
eval_all-loop-e-preserved t c = all_next c.args.exprs.now c.loop-e.e-index c.e-item.result (calls c.args.scope.now) (seen c.args.scope.now) c.loop-e.left c.eval.new.left c.loop-e.items.items c.push.new.self.items c.in_ok-value.value (eval_all (listed (map expr_tree c.args.exprs.now)) (calls c.args.scope.now) (seen c.args.scope.now) c.args.left.now) (omega arith) (ap (λ e. eval (expr_tree e) (calls c.args.scope.now) (seen c.args.scope.now) c.loop-e.left) (sym c.e-item.is) ∙ c.in_ok-value.ensures) c.in_ok-push.ensures.items c.loop-e.invariant

pub eval_all-returns : goal.eval_all-returns
eval_all-returns t c = all_done c.args.exprs.now c.loop-e.e-index (calls c.args.scope.now) (seen c.args.scope.now) c.loop-e.left (in_order (map value_view c.loop-e.items.items)) (eval_all (listed (map expr_tree c.args.exprs.now)) (calls c.args.scope.now) (seen c.args.scope.now) c.args.left.now) c.loop-e-test.false c.loop-e.invariant

pub eval_comp-returns : goal.eval_comp-returns
eval_comp-returns t c = comp_goes (elements (listed (map gen_tree c.args.gens.now)) (λ inner k. eval (expr_tree c.args.item.now) (calls c.args.scope.now) inner k) (calls c.args.scope.now) (seen c.args.scope.now) c.args.left.now) c.new-items.result.items (in_order (map value_view c.elements.new.found.items)) c.elements.new.left (value_view c.list_of.result) c.new-items.ensures.items c.in_ok-elements.ensures c.list_of.ensures

pub type_meant-returns-clause-means : goal.type_meant-returns-clause-means
type_meant-returns-clause-means t c = λ left. subst (λ o. Evaluates (λ kept. kept) c.type_named.result left o) (sym (meant_gives c.args.t.now c.deref.result.now c.as_str.result.now (given_view c.in_ok-given.given) (calls c.args.scope.now) (seen c.args.scope.now) left c.deref.ensures.value c.as_str.ensures.value (c.in_ok-given.ensures left))) (c.type_named.ensures.named left)

pub type_meant-returns-in_err-given-clause-means : goal.type_meant-returns-in_err-given-clause-means
type_meant-returns-in_err-given-clause-means t c = λ left. let same : c.from_residual.result ≡ Err c.in_err-given.field-0.0 = search rules in subst (λ r. Evaluates (λ kept. kept) r left (kept (type_meant (type_tree c.args.t.now) (calls c.args.scope.now) (seen c.args.scope.now) left))) (sym same) (meant_stops c.args.t.now c.deref.result.now (calls c.args.scope.now) (seen c.args.scope.now) left c.in_err-given.field-0.0 c.deref.ensures.value (c.in_err-given.ensures left))

pub eval_binary-returns : goal.eval_binary-returns
eval_binary-returns t c =
    subst (λ o. Evaluates value_view c.applied.result c.eval-2.new.left o)
    (sym (binary_goes c.args.op (eval (expr_tree c.args.first.now) (calls c.args.scope.now) (seen c.args.scope.now) c.args.left.now) (λ h. eval (expr_tree c.args.second.now) (calls c.args.scope.now) (seen c.args.scope.now) h) (value_view c.in_ok-first.first) (value_view c.in_ok-second.second) c.eval.new.left c.eval-2.new.left (sym c.decides.ensures ∙ c.if-decides.false) c.in_ok-first.ensures c.in_ok-second.ensures))
    (c.applied.ensures c.eval-2.new.left)

pub called-returns-in_default : goal.called-returns-in_default
called-returns-in_default t c =
    let missing : None ≡ fun_named c.args.name.now (held c.args.scope.now.env.now).funs = search rules in
    ap (λ f. f c.args.name.now (in_order (map value_view c.args.args.now)) c.args.left.now) (calls_see c.args.scope.now)
    ∙ called_lacks c.args.scope.now.depth c.args.name.now (held c.args.scope.now.env.now).funs (map var_of (held c.args.scope.now.env.now).values) (in_order (map value_view c.args.args.now)) c.args.left.now missing

pub called-returns-in_err-arguments : goal.called-returns-in_err-arguments
called-returns-in_err-arguments t c =
    let same : c.from_residual.result ≡ Err c.in_err-arguments.field-0.0 = search rules in
    let seen_calls = ap (λ f. f c.args.name.now (in_order (map value_view c.args.args.now)) c.args.left.now) (calls_see c.args.scope.now) in
    let stopped = called_stops c.args.scope.now.depth c.args.name.now (held c.args.scope.now.env.now).funs c.in-Some.fun.now (map var_of (held c.args.scope.now.env.now).values) (in_order (map value_view c.args.args.now)) c.args.left.now c.deref.result.now c.in_err-arguments.field-0.0 (omega (arith, c.if-scope-eq0.false)) c.in-Some.ensures.is c.deref.ensures.value (c.in_err-arguments.ensures c.args.left.now) in
    subst (λ r. Evaluates value_view r c.args.left.now (calls c.args.scope.now (seen c.args.scope.now).globals c.args.name.now (in_order (map value_view c.args.args.now)) c.args.left.now)) (sym same)
    (subst (λ o. Stops c.in_err-arguments.field-0.0 o) (sym seen_calls) stopped)

pub eval_index-returns-in-Some : goal.eval_index-returns-in-Some
eval_index-returns-in-Some t c =
    subst (λ o. Evaluates value_view c.eval_item.result c.eval_item.new.left o)
    (sym (goes_on (eval (expr_tree c.args.base.now) (calls c.args.scope.now) (seen c.args.scope.now) c.args.left.now) (value_view c.in-Some.list.now) c.args.left.now (λ v m. and_then (eval (expr_tree c.args.place.now) (calls c.args.scope.now) (seen c.args.scope.now) m) (λ i k. indexed v i k)) (c.in-Some.ensures c.args.left.now)))
    c.eval_item.ensures

pub eval_index-returns : goal.eval_index-returns
eval_index-returns t c =
    subst (λ o. Evaluates value_view c.eval_item-2.result c.eval_item-2.new.left o)
    (sym (goes_on (eval (expr_tree c.args.base.now) (calls c.args.scope.now) (seen c.args.scope.now) c.args.left.now) (value_view c.in_ok-list.list) c.eval.new.left (λ v m. and_then (eval (expr_tree c.args.place.now) (calls c.args.scope.now) (seen c.args.scope.now) m) (λ i k. indexed v i k)) c.in_ok-list.ensures))
    c.eval_item-2.ensures
