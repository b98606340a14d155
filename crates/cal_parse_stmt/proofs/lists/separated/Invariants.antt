use Rattle.std.proofs.Common.{map, length}
use Rattle.cal_grammar.specs.Rules.{part}
use Rattle.cal_parse_stmt.specs.Separator.{mark_of}
use Rattle.cal_parse_stmt.specs.SoFar.{HasRead}
use Rattle.cal_grammar.specs.Spells.{separated}
use Rattle.cal_parse_stmt.proofs.lists.separated.Given as goal

abbrev pub invariant-parts : goal.invariant-parts
invariant-parts g l = HasRead l.fn.room (part (separated (mark_of l.fn.between) g.T.Read.part)) l.fn.tokens.now l.tokens.now (map g.T.Read.tree l.found.items)

abbrev pub decreases-parts : goal.decreases-parts
decreases-parts g l = length l.tokens.now
