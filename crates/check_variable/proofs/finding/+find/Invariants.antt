use Rattle.std.proofs.Common.{◌≤◌, ◌+◌, map}
use Rattle.cal_ast.specs.Tree.{listed}
use Rattle.cal_ast.specs.View.{expr_tree, gen_tree, type_arg_tree, type_tree}
use Rattle.const_expr.proofs.Weights.{size}
use Rattle.check_variable.proofs.NamePlaces.{IsLeft}
use Rattle.check_variable.proofs.finding.+find.Given as goal

abbrev pub invariant-in_exprs-each : goal.invariant-in_exprs-each
invariant-in_exprs-each l =
    IsLeft l.p l.found (listed (map expr_tree l.rest)) (listed (map expr_tree l.exprs))
    × (size (listed (map expr_tree l.rest)) ≤ size (listed (map expr_tree l.exprs)))

abbrev pub invariant-in_gens-each : goal.invariant-in_gens-each
invariant-in_gens-each l =
    IsLeft l.p l.found (listed (map gen_tree l.rest)) (listed (map gen_tree l.gens))
    × (size (listed (map gen_tree l.rest)) ≤ size (listed (map gen_tree l.gens)))

abbrev pub invariant-in_args-each : goal.invariant-in_args-each
invariant-in_args-each l =
    IsLeft l.p l.found (listed (map type_arg_tree l.rest)) (listed (map type_arg_tree l.args))
    × (size (listed (map type_arg_tree l.rest)) ≤ size (listed (map type_arg_tree l.args)))

abbrev pub decreases-in_exprs-each : goal.decreases-in_exprs-each
decreases-in_exprs-each l = size (listed (map expr_tree l.rest))

abbrev pub decreases-in_gens-each : goal.decreases-in_gens-each
decreases-in_gens-each l = size (listed (map gen_tree l.rest))

abbrev pub decreases-in_args-each : goal.decreases-in_args-each
decreases-in_args-each l = size (listed (map type_arg_tree l.rest))

-- how large the parts are, and a rank among the functions

abbrev pub decreases-in_expr : goal.decreases-in_expr
decreases-in_expr l = size (expr_tree l.e.now)

abbrev pub decreases-in_exprs : goal.decreases-in_exprs
decreases-in_exprs l = 2 + size (listed (map expr_tree l.exprs.now))

abbrev pub decreases-in_gens : goal.decreases-in_gens
decreases-in_gens l = 2 + size (listed (map gen_tree l.gens.now))

abbrev pub decreases-in_gen : goal.decreases-in_gen
decreases-in_gen l = size (gen_tree l.g.now)

abbrev pub decreases-in_constant : goal.decreases-in_constant
decreases-in_constant l = 1 + size (expr_tree l.e.now)

abbrev pub decreases-in_type : goal.decreases-in_type
decreases-in_type l = size (type_tree l.t.now)

abbrev pub decreases-in_args : goal.decreases-in_args
decreases-in_args l = 2 + size (listed (map type_arg_tree l.args.now))

abbrev pub decreases-in_arg : goal.decreases-in_arg
decreases-in_arg l = size (type_arg_tree l.arg.now)
