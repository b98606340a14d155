use Rattle.std.proofs.Common.{◌≡◌, ℕ, length}
use Rattle.code_ir.specs.Heights.{IsMarked}
use Rattle.code_ir.proofs.heights.no_heights.Given as goal

abbrev pub invariant-loop-place : goal.invariant-loop-place
invariant-loop-place l = record { size : length l.heights.items ≡ l._place; none : (q k : ℕ) → ¬ IsMarked l.heights.items q k }
