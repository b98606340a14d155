use Rattle.std.proofs.Common.{map, length}
use Rattle.cal_ast.specs.View.{expr_tree}
use Rattle.cal_grammar.specs.Rules.{part}
use Rattle.cal_parse_stmt.specs.SoFar.{HasRead}
use Rattle.cal_grammar.specs.Spells.{repeated, a_place}
use Rattle.cal_parse_stmt.proofs.stmts.places.Given as goal

abbrev pub invariant-places : goal.invariant-places
invariant-places l = HasRead l.fn.room (part (repeated a_place)) l.fn.tokens.now l.tokens.now (map expr_tree l.found.items)

abbrev pub decreases-places : goal.decreases-places
decreases-places l = length l.tokens.now
