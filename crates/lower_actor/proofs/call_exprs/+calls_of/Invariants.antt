use Rattle.std.proofs.Common.{◌≡◌, ◌≤◌, ◌+◌, length}
use Rattle.cal_ast.specs.View.{expr_tree, gen_tree, type_arg_tree, type_tree}
use Rattle.lower_actor.specs.Calls.{exprs_tree, gens_tree, type_args_tree}
use Rattle.lower_actor.specs.Calls.{with_calls}
use Rattle.lower_actor.proofs.Sizes.{size}
use Rattle.lower_actor.proofs.call_exprs.+calls_of.Given as goal

abbrev pub invariant-add_exprs-exprs : goal.invariant-add_exprs-exprs
invariant-add_exprs-exprs l = (with_calls l.b (exprs_tree l.rest) l.calls ≡ with_calls l.b (exprs_tree l.exprs) l.initial.calls) × (size (exprs_tree l.rest) ≤ size (exprs_tree l.exprs))

abbrev pub decreases-add_exprs-exprs : goal.decreases-add_exprs-exprs
decreases-add_exprs-exprs l = length l.rest

abbrev pub invariant-add_gens-gens : goal.invariant-add_gens-gens
invariant-add_gens-gens l = (with_calls l.b (gens_tree l.rest) l.calls ≡ with_calls l.b (gens_tree l.gens) l.initial.calls) × (size (gens_tree l.rest) ≤ size (gens_tree l.gens))

abbrev pub decreases-add_gens-gens : goal.decreases-add_gens-gens
decreases-add_gens-gens l = length l.rest

abbrev pub invariant-add_type_args-arguments : goal.invariant-add_type_args-arguments
invariant-add_type_args-arguments l = (with_calls l.b (type_args_tree l.rest) l.calls ≡ with_calls l.b (type_args_tree l.args) l.initial.calls) × (size (type_args_tree l.rest) ≤ size (type_args_tree l.args))

abbrev pub decreases-add_type_args-arguments : goal.decreases-add_type_args-arguments
decreases-add_type_args-arguments l = length l.rest

-- how large the parts are, and a rank among the functions

abbrev pub decreases-add_expr : goal.decreases-add_expr
decreases-add_expr l = size (expr_tree l.e.now)

abbrev pub decreases-add_call : goal.decreases-add_call
decreases-add_call l = 4 + size (exprs_tree l.args.now)

abbrev pub decreases-add_two : goal.decreases-add_two
decreases-add_two l = 4 + size (expr_tree l.first.now) + size (expr_tree l.second.now)

abbrev pub decreases-add_three : goal.decreases-add_three
decreases-add_three l = 4 + size (expr_tree l.test.now) + size (expr_tree l.yes.now) + size (expr_tree l.no.now)

abbrev pub decreases-add_comp : goal.decreases-add_comp
decreases-add_comp l = 4 + size (expr_tree l.item.now) + size (gens_tree l.gens.now)

abbrev pub decreases-add_exprs : goal.decreases-add_exprs
decreases-add_exprs l = 2 + size (exprs_tree l.exprs.now)

abbrev pub decreases-add_gens : goal.decreases-add_gens
decreases-add_gens l = 2 + size (gens_tree l.gens.now)

abbrev pub decreases-add_gen : goal.decreases-add_gen
decreases-add_gen l = size (gen_tree l.g.now)

abbrev pub decreases-add_type : goal.decreases-add_type
decreases-add_type l = size (type_tree l.t.now)

abbrev pub decreases-add_type_args : goal.decreases-add_type_args
decreases-add_type_args l = 2 + size (type_args_tree l.args.now)

abbrev pub decreases-add_type_arg : goal.decreases-add_type_arg
decreases-add_type_arg l = size (type_arg_tree l.arg.now)
