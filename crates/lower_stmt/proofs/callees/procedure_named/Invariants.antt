use Rattle.std.proofs.Common.{◌≡◌, length}
use Rattle.lower_stmt.specs.Procedures.{procedure_named, procedures_view}
use Rattle.lower_stmt.proofs.callees.procedure_named.Given as goal

abbrev pub invariant-procedures : goal.invariant-procedures
invariant-procedures l = procedure_named l.text (procedures_view l.rest) ≡ procedure_named l.text (procedures_view l.initial.rest)

abbrev pub decreases-procedures : goal.decreases-procedures
decreases-procedures l = length l.rest
