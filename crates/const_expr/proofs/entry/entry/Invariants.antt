use Rattle.std.proofs.Common.{take}
use Rattle.const_expr.proofs.Entries.{AreEntered}
use Rattle.const_expr.proofs.entry.entry.Given as goal

abbrev pub invariant-loop-place : goal.invariant-loop-place
invariant-loop-place l = AreEntered (take l.place l.formals) (take l.place l.args) l.kept.items
