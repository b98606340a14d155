use Rattle.std.proofs.Common.{◌≡◌, ◌+◌, ◌≤◌, map, length}
use Rattle.cal_ast.specs.Tree.{listed}
use Rattle.cal_ast.specs.View.{expr_tree, gen_tree, type_arg_tree, type_tree}
use Rattle.fnl_bind.specs.Scopes.{unknown_in, unknown_in_gens}
use Rattle.fnl_scopes.specs.View.{gens_tree, names_seen}
use Rattle.fnl_scopes.proofs.Gens.{unknown_from}
use Rattle.fnl_scopes.proofs.Sizes.{size}
use Rattle.fnl_scopes.proofs.known.+expr.Given as goal

abbrev pub invariant-exprs-exprs : goal.invariant-exprs-exprs
invariant-exprs-exprs l = record {
  same : unknown_in (listed (map expr_tree l.rest)) (names_seen l.names) ≡ unknown_in (listed (map expr_tree l.initial.rest)) (names_seen l.names);
  smaller : size (listed (map expr_tree l.rest)) ≤ size (listed (map expr_tree l.initial.rest));
}

abbrev pub decreases-exprs-exprs : goal.decreases-exprs-exprs
decreases-exprs-exprs l = length l.rest

abbrev pub invariant-type_args-each : goal.invariant-type_args-each
invariant-type_args-each l = record {
  same : unknown_in (listed (map type_arg_tree l.rest)) (names_seen l.names) ≡ unknown_in (listed (map type_arg_tree l.initial.rest)) (names_seen l.names);
  smaller : size (listed (map type_arg_tree l.rest)) ≤ size (listed (map type_arg_tree l.initial.rest));
}

abbrev pub decreases-type_args-each : goal.decreases-type_args-each
decreases-type_args-each l = length l.rest

abbrev pub invariant-generators-loop-place : goal.invariant-generators-loop-place
invariant-generators-loop-place l = unknown_from l.place l.gens (names_seen l.names) ≡ unknown_in_gens (gens_tree l.gens) (names_seen l.names)

-- how large the parts are, and a rank among the functions

abbrev pub decreases-expr : goal.decreases-expr
decreases-expr l = size (expr_tree l.e.now)

abbrev pub decreases-both : goal.decreases-both
decreases-both l = 2 + size (expr_tree l.left.now) + size (expr_tree l.right.now)

abbrev pub decreases-three : goal.decreases-three
decreases-three l = 4 + size (expr_tree l.test.now) + size (expr_tree l.yes.now) + size (expr_tree l.no.now)

abbrev pub decreases-exprs : goal.decreases-exprs
decreases-exprs l = 2 + size (listed (map expr_tree l.exprs.now))

abbrev pub decreases-comp : goal.decreases-comp
decreases-comp l = 4 + size (expr_tree l.item.now) + size (gens_tree l.gens.now)

abbrev pub decreases-expr_inside : goal.decreases-expr_inside
decreases-expr_inside l = 1 + size (expr_tree l.e.now)

abbrev pub decreases-generators : goal.decreases-generators
decreases-generators l = 2 + size (gens_tree l.gens.now)

abbrev pub decreases-generator_inside : goal.decreases-generator_inside
decreases-generator_inside l = 1 + size (gen_tree l.g.now)

abbrev pub decreases-generator : goal.decreases-generator
decreases-generator l = size (gen_tree l.g.now)

abbrev pub decreases-type_expr : goal.decreases-type_expr
decreases-type_expr l = size (type_tree l.t.now)

abbrev pub decreases-type_args : goal.decreases-type_args
decreases-type_args l = 2 + size (listed (map type_arg_tree l.args.now))

abbrev pub decreases-type_arg : goal.decreases-type_arg
decreases-type_arg l = size (type_arg_tree l.arg.now)
