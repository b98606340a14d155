-- What a statement sees: names, and the functions and procedures that may be called.
-- Not trusted: no promise is read with it.
use Rattle.std.specs.Prelude.{List}
use Rattle.lower_base.specs.Names.{Name}
use Rattle.lower_base.specs.Seen.{called as called_in, seen as seen_in}
use Rattle.lower_stmt.specs.declared.scope.StmtScope.{StmtScope}
use Rattle.lower_stmt.specs.Procedures.{Routines, procedures_view}

abbrev pub seen : StmtScope → List Name
seen s = seen_in s.values

abbrev pub called : StmtScope → Routines
called s =
    record { functions = called_in s.values; procedures = procedures_view s.procedures.now }
