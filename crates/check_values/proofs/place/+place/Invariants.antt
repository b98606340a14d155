use Rattle.std.proofs.Common.{◌≡◌, ◌+◌, ◌≤◌, map, length}
use Rattle.cal_ast.specs.Tree.{listed}
use Rattle.cal_ast.specs.View.{expr_tree, gen_tree, type_arg_tree, type_tree}
use Rattle.cal_check.specs.Constants.{constants_in, last_using}
use Rattle.check_values.proofs.PlaceSizes.{size}
use Rattle.check_values.proofs.place.+place.Given as goal

abbrev pub invariant-in_exprs-exprs : goal.invariant-in_exprs-exprs
invariant-in_exprs-exprs l = record {
  same : last_using l.p (constants_in (listed (map expr_tree l.rest))) l.within
      ≡ last_using l.p (constants_in (listed (map expr_tree l.initial.rest))) l.initial.within;
  smaller : size (listed (map expr_tree l.rest)) ≤ size (listed (map expr_tree l.initial.rest));
}

abbrev pub decreases-in_exprs-exprs : goal.decreases-in_exprs-exprs
decreases-in_exprs-exprs l = length l.rest

abbrev pub invariant-in_gens-gens : goal.invariant-in_gens-gens
invariant-in_gens-gens l = record {
  same : last_using l.p (constants_in (listed (map gen_tree l.rest))) l.within
      ≡ last_using l.p (constants_in (listed (map gen_tree l.initial.rest))) l.initial.within;
  smaller : size (listed (map gen_tree l.rest)) ≤ size (listed (map gen_tree l.initial.rest));
}

abbrev pub decreases-in_gens-gens : goal.decreases-in_gens-gens
decreases-in_gens-gens l = length l.rest

abbrev pub invariant-in_args-each : goal.invariant-in_args-each
invariant-in_args-each l = record {
  same : last_using l.p (constants_in (listed (map type_arg_tree l.rest))) l.within
      ≡ last_using l.p (constants_in (listed (map type_arg_tree l.initial.rest))) l.initial.within;
  smaller : size (listed (map type_arg_tree l.rest)) ≤ size (listed (map type_arg_tree l.initial.rest));
}

abbrev pub decreases-in_args-each : goal.decreases-in_args-each
decreases-in_args-each l = length l.rest

abbrev pub decreases-in_expr : goal.decreases-in_expr
decreases-in_expr l = size (expr_tree l.e.now)

abbrev pub decreases-in_both : goal.decreases-in_both
decreases-in_both l = 4 + size (expr_tree l.left.now) + size (expr_tree l.right.now)

abbrev pub decreases-in_exprs : goal.decreases-in_exprs
decreases-in_exprs l = 2 + size (listed (map expr_tree l.exprs.now))

abbrev pub decreases-in_constant : goal.decreases-in_constant
decreases-in_constant l = 1 + size (expr_tree l.e.now)

abbrev pub decreases-in_gens : goal.decreases-in_gens
decreases-in_gens l = 2 + size (listed (map gen_tree l.gens.now))

abbrev pub decreases-in_gen : goal.decreases-in_gen
decreases-in_gen l = size (gen_tree l.generator.now)

abbrev pub decreases-in_type : goal.decreases-in_type
decreases-in_type l = size (type_tree l.t.now)

abbrev pub decreases-in_args : goal.decreases-in_args
decreases-in_args l = 2 + size (listed (map type_arg_tree l.args.now))

abbrev pub decreases-in_arg : goal.decreases-in_arg
decreases-in_arg l = size (type_arg_tree l.arg.now)

abbrev pub decreases-in_three : goal.decreases-in_three
decreases-in_three l = 6 + size (expr_tree l.first.now) + size (expr_tree l.second.now) + size (expr_tree l.third.now)

abbrev pub decreases-in_comp : goal.decreases-in_comp
decreases-in_comp l = 4 + size (expr_tree l.item.now) + size (listed (map gen_tree l.gens.now))

abbrev pub decreases-in_bounds : goal.decreases-in_bounds
decreases-in_bounds l = 4 + size (expr_tree l.from.now) + size (expr_tree l.to.now)
