use Rattle.std.proofs.Common.{◌-◌, length}
use Rattle.claimed_bursts.specs.Crews.{IsFree}
use Rattle.claimed_bursts.proofs.Drawing.{next_of}
use Rattle.claimed_bursts.proofs.source.draw_pieces.Given as goal

abbrev pub invariant-loop-place : goal.invariant-loop-place
invariant-loop-place g l = IsFree l.board l.pass

abbrev pub decreases-loop-place : goal.decreases-loop-place
decreases-loop-place g l = length l.board.put - next_of l.pass.drawn
