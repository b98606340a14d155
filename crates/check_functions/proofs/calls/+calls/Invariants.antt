use Rattle.std.proofs.Common.{◌≡◌, ◌+◌, ◌≤◌, map, length}
use Rattle.cal_ast.specs.Tree.{listed}
use Rattle.cal_ast.specs.View.{expr_tree, gen_tree, type_arg_tree, type_tree}
use Rattle.check_functions.specs.Calls.{calls_any}
use Rattle.const_expr.proofs.Weights.{size}
use Rattle.check_functions.proofs.calls.+calls.Given as goal

abbrev pub invariant-any_calls-exprs : goal.invariant-any_calls-exprs
invariant-any_calls-exprs l = record {
  same : calls_any (listed (map expr_tree l.rest)) ≡ calls_any (listed (map expr_tree l.initial.rest));
  smaller : size (listed (map expr_tree l.rest)) ≤ size (listed (map expr_tree l.initial.rest));
}

abbrev pub decreases-any_calls-exprs : goal.decreases-any_calls-exprs
decreases-any_calls-exprs l = length l.rest

abbrev pub invariant-any_gen_calls-gens : goal.invariant-any_gen_calls-gens
invariant-any_gen_calls-gens l = record {
  same : calls_any (listed (map gen_tree l.rest)) ≡ calls_any (listed (map gen_tree l.initial.rest));
  smaller : size (listed (map gen_tree l.rest)) ≤ size (listed (map gen_tree l.initial.rest));
}

abbrev pub decreases-any_gen_calls-gens : goal.decreases-any_gen_calls-gens
decreases-any_gen_calls-gens l = length l.rest

abbrev pub invariant-any_arg_calls-each : goal.invariant-any_arg_calls-each
invariant-any_arg_calls-each l = record {
  same : calls_any (listed (map type_arg_tree l.rest)) ≡ calls_any (listed (map type_arg_tree l.initial.rest));
  smaller : size (listed (map type_arg_tree l.rest)) ≤ size (listed (map type_arg_tree l.initial.rest));
}

abbrev pub decreases-any_arg_calls-each : goal.decreases-any_arg_calls-each
decreases-any_arg_calls-each l = length l.rest

abbrev pub decreases-calls_any : goal.decreases-calls_any
decreases-calls_any l = size (expr_tree l.e.now)

abbrev pub decreases-either_calls : goal.decreases-either_calls
decreases-either_calls l = 4 + size (expr_tree l.left.now) + size (expr_tree l.right.now)

abbrev pub decreases-any_calls : goal.decreases-any_calls
decreases-any_calls l = 2 + size (listed (map expr_tree l.exprs.now))

abbrev pub decreases-any_gen_calls : goal.decreases-any_gen_calls
decreases-any_gen_calls l = 2 + size (listed (map gen_tree l.gens.now))

abbrev pub decreases-gen_calls : goal.decreases-gen_calls
decreases-gen_calls l = size (gen_tree l.generator.now)

abbrev pub decreases-type_calls_any : goal.decreases-type_calls_any
decreases-type_calls_any l = size (type_tree l.t.now)

abbrev pub decreases-any_arg_calls : goal.decreases-any_arg_calls
decreases-any_arg_calls l = 2 + size (listed (map type_arg_tree l.args.now))

abbrev pub decreases-arg_calls : goal.decreases-arg_calls
decreases-arg_calls l = size (type_arg_tree l.arg.now)
