use Rattle.std.proofs.Common.{◌≤◌, ℕ, take}
use Rattle.code_ir.specs.Heights.{IsMarked}
use Rattle.code_ir.proofs.heights.greatest.Given as goal

abbrev pub invariant-loop-height : goal.invariant-loop-height
invariant-loop-height l = (p h : ℕ) → IsMarked (take l.height-index l.heights) p h → h ≤ l.most
