use Rattle.std.proofs.Common.{◌≡◌, ◌+◌, ◌≤◌, map, length}
use Rattle.cal_ast.specs.Tree.{listed}
use Rattle.cal_ast.specs.View.{expr_tree, gen_tree, type_arg_tree, type_tree}
use Rattle.cal_check.specs.Constants.{uses_at}
use Rattle.check_values.proofs.PlaceSizes.{size}
use Rattle.check_values.proofs.uses.+uses.Given as goal

abbrev pub invariant-any_uses-exprs : goal.invariant-any_uses-exprs
invariant-any_uses-exprs l = record {
  same : uses_at l.p (listed (map expr_tree l.rest)) ≡ uses_at l.p (listed (map expr_tree l.initial.rest));
  smaller : size (listed (map expr_tree l.rest)) ≤ size (listed (map expr_tree l.initial.rest));
}

abbrev pub decreases-any_uses-exprs : goal.decreases-any_uses-exprs
decreases-any_uses-exprs l = length l.rest

abbrev pub invariant-any_gen_uses-gens : goal.invariant-any_gen_uses-gens
invariant-any_gen_uses-gens l = record {
  same : uses_at l.p (listed (map gen_tree l.rest)) ≡ uses_at l.p (listed (map gen_tree l.initial.rest));
  smaller : size (listed (map gen_tree l.rest)) ≤ size (listed (map gen_tree l.initial.rest));
}

abbrev pub decreases-any_gen_uses-gens : goal.decreases-any_gen_uses-gens
decreases-any_gen_uses-gens l = length l.rest

abbrev pub invariant-any_arg_uses-each : goal.invariant-any_arg_uses-each
invariant-any_arg_uses-each l = record {
  same : uses_at l.p (listed (map type_arg_tree l.rest)) ≡ uses_at l.p (listed (map type_arg_tree l.initial.rest));
  smaller : size (listed (map type_arg_tree l.rest)) ≤ size (listed (map type_arg_tree l.initial.rest));
}

abbrev pub decreases-any_arg_uses-each : goal.decreases-any_arg_uses-each
decreases-any_arg_uses-each l = length l.rest

abbrev pub decreases-uses_at : goal.decreases-uses_at
decreases-uses_at l = size (expr_tree l.e.now)

abbrev pub decreases-both_use : goal.decreases-both_use
decreases-both_use l = 4 + size (expr_tree l.left.now) + size (expr_tree l.right.now)

abbrev pub decreases-any_uses : goal.decreases-any_uses
decreases-any_uses l = 2 + size (listed (map expr_tree l.exprs.now))

abbrev pub decreases-any_gen_uses : goal.decreases-any_gen_uses
decreases-any_gen_uses l = 2 + size (listed (map gen_tree l.gens.now))

abbrev pub decreases-gen_uses : goal.decreases-gen_uses
decreases-gen_uses l = size (gen_tree l.generator.now)

abbrev pub decreases-type_uses : goal.decreases-type_uses
decreases-type_uses l = size (type_tree l.t.now)

abbrev pub decreases-any_arg_uses : goal.decreases-any_arg_uses
decreases-any_arg_uses l = 2 + size (listed (map type_arg_tree l.args.now))

abbrev pub decreases-arg_uses : goal.decreases-arg_uses
decreases-arg_uses l = size (type_arg_tree l.arg.now)
