use Rattle.std.proofs.Common.{◌≡◌, ◌++◌, map, drop}
use Rattle.code_ir.proofs.places.places.Given as goal

abbrev pub invariant-loop-routine : goal.invariant-loop-routine
invariant-loop-routine l = map (λ r. r.start) l.routine-items ≡ l.places.items ++ map (λ r. r.start) (drop l.routine-index l.routine-items)
