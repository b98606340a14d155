use Rattle.std.proofs.Common.{map, length}
use Rattle.cal_ast.specs.View.{ident_tree}
use Rattle.cal_parse_stmt.specs.Separator.{mark_of}
use Rattle.cal_parse_stmt.specs.SoFar.{IsSoFar}
use Rattle.cal_grammar.specs.Spells.{a_name}
use Rattle.cal_lexer.specs.Words.{lexeme_of}
use Rattle.cal_parse_stmt.proofs.names.names.Given as goal

abbrev pub invariant-names : goal.invariant-names
invariant-names l = IsSoFar (mark_of l.fn.between) a_name (lexeme_of l.word) l.fn.tokens.now l.tokens.now (map ident_tree l.found.items)

abbrev pub decreases-names : goal.decreases-names
decreases-names l = length l.tokens.now
