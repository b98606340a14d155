use Rattle.std.proofs.Common.{◌+◌, ◌*◌, length}
use Rattle.code_ir.specs.Code.{code_of}
use Rattle.code_ir.specs.Heights.{Marking, unmarked}
use Rattle.code_ir.proofs.heights.pass_all.Given as goal

abbrev pub invariant-loop-place : goal.invariant-loop-place
invariant-loop-place l = Marking (code_of l.code) l.heights.items l.work.items

abbrev pub decreases-loop-place : goal.decreases-loop-place
decreases-loop-place l = 2 * unmarked l.heights.items + length l.work.items
