use Rattle.std.proofs.Common.{◌≡◌, ◌+◌, drop}
use Rattle.code_ir.specs.Code.{routine_at}
use Rattle.code_ir.proofs.places.routine_at.Given as goal

abbrev pub invariant-loop-r : goal.invariant-loop-r
invariant-loop-r l = routine_at l.routines l.place ≡ l.r + routine_at (drop l.r l.routines) l.place
