-- What stands between the parts of a list, as the code has it.
-- Not trusted: no promise is read with it.
use Rattle.cal_parse_stmt.specs.declared.names.Separator.{Separator}
use Rattle.cal_parse_stmt.specs.declared.names.Separator.TheVariants as separators
use Rattle.cal_grammar.specs.Spells.{Mark, comma, dot, greater}

abbrev pub mark_of : Separator → Mark
mark_of separators.Comma = comma
mark_of separators.Dot = dot
mark_of separators.Greater = greater
