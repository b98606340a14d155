use Rattle.std.proofs.Common.{◌+◌, ◌*◌, ◌-◌, ◌≤◌, length, map}
use Rattle.cal_ast.specs.View.{expr_tree, gen_tree, type_arg_tree}
use Rattle.cal_grammar.specs.Spells.{a_gen, a_type_arg, an_expr}
use Rattle.cal_parse_base.specs.Pairs.{tall_tree}
use Rattle.cal_parse_expr.proofs.Chains.{IsClimbed, IsIndexed, IsNested}
use Rattle.cal_parse_expr.proofs.Primaries.{IsListed}
use Rattle.cal_parse_expr.proofs.expr.+reading.Given as goal

abbrev pub decreases-level_expr : goal.decreases-level_expr
decreases-level_expr l = 8 * l.room + 3

abbrev pub decreases-operations : goal.decreases-operations
decreases-operations l = 8 * l.room + 0

abbrev pub decreases-indexes : goal.decreases-indexes
decreases-indexes l = 8 * l.room + 0

abbrev pub decreases-operand : goal.decreases-operand
decreases-operand l = 8 * l.room + 2

abbrev pub decreases-primary : goal.decreases-primary
decreases-primary l = 8 * l.room + 1

abbrev pub decreases-named : goal.decreases-named
decreases-named l = 8 * l.room + 0

abbrev pub decreases-choice : goal.decreases-choice
decreases-choice l = 8 * l.room + 0

abbrev pub decreases-bracketed : goal.decreases-bracketed
decreases-bracketed l = 8 * l.room + 0

abbrev pub decreases-tall_args : goal.decreases-tall_args
decreases-tall_args l = 8 * l.room + 5

abbrev pub decreases-tall_exprs : goal.decreases-tall_exprs
decreases-tall_exprs l = 8 * l.room + 4

abbrev pub decreases-tall_gens : goal.decreases-tall_gens
decreases-tall_gens l = 8 * l.room + 5

abbrev pub decreases-generator : goal.decreases-generator
decreases-generator l = 8 * l.room + 4

abbrev pub decreases-tall_type : goal.decreases-tall_type
decreases-tall_type l = 8 * l.room + 0

abbrev pub decreases-type_args : goal.decreases-type_args
decreases-type_args l = 8 * l.room + 5

abbrev pub decreases-type_arg : goal.decreases-type_arg
decreases-type_arg l = 8 * l.room + 4

abbrev pub invariant-level_expr-pairs : goal.invariant-level_expr-pairs
invariant-level_expr-pairs l = IsNested l.room l.fn.tokens.now l.opens.items (tall_tree l.found) l.tokens.now × (l.found.high ≤ l.room)

abbrev pub decreases-level_expr-pairs : goal.decreases-level_expr-pairs
decreases-level_expr-pairs l = length l.opens.items

abbrev pub invariant-operations-levels : goal.invariant-operations-levels
invariant-operations-levels l = IsClimbed l.room l.top (tall_tree l.fn.first) l.fn.tokens.now l.n (tall_tree l.left) l.tokens.now × (l.left.high ≤ l.room)

abbrev pub decreases-operations-levels : goal.decreases-operations-levels
decreases-operations-levels l = length l.tokens.now + (l.top - l.n)

abbrev pub invariant-indexes-places : goal.invariant-indexes-places
invariant-indexes-places l = IsIndexed l.room (tall_tree l.fn.first) l.fn.tokens.now (tall_tree l.base) l.tokens.now × (l.base.high ≤ l.room)

abbrev pub decreases-indexes-places : goal.decreases-indexes-places
decreases-indexes-places l = length l.tokens.now

abbrev pub invariant-tall_exprs-exprs : goal.invariant-tall_exprs-exprs
invariant-tall_exprs-exprs l = IsListed l.room an_expr l.fn.tokens.now (map expr_tree l.found.exprs.items) l.tokens.now × (l.found.high ≤ l.room)

abbrev pub decreases-tall_exprs-exprs : goal.decreases-tall_exprs-exprs
decreases-tall_exprs-exprs l = length l.tokens.now

abbrev pub invariant-tall_gens-gens : goal.invariant-tall_gens-gens
invariant-tall_gens-gens l = IsListed l.room a_gen l.fn.tokens.now (map gen_tree l.found.gens.items) l.tokens.now × (l.found.high ≤ l.room)

abbrev pub decreases-tall_gens-gens : goal.decreases-tall_gens-gens
decreases-tall_gens-gens l = length l.tokens.now

abbrev pub invariant-type_args-items : goal.invariant-type_args-items
invariant-type_args-items l = IsListed l.room a_type_arg l.fn.tokens.now (map type_arg_tree l.found.args.items) l.tokens.now × (l.found.high ≤ l.room)

abbrev pub decreases-type_args-items : goal.decreases-type_args-items
decreases-type_args-items l = length l.tokens.now
