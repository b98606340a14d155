use Rattle.std.proofs.Common.{◌∙◌, arith}
use Rattle.action_machine.proofs.CellRanges.{zeroed-more}
use Rattle.action_machine.proofs.ranges.zero_cells.Goals as goal

-- src/ranges.rt:31:5
pub loop-k-preserved : goal.loop-k-preserved
loop-k-preserved c = zeroed-more c.args.target c.loop-k.k c.args.count c.loop-k.cells (omega arith) ∙ c.loop-k.invariant
