use Rattle.std.proofs.Common.{◌-◌, vec_len}
use Rattle.priority_order.proofs.Rings.{IsWalked}
use Rattle.priority_order.proofs.cycle.ring_from.Given as goal

abbrev pub invariant-loop-first : goal.invariant-loop-first
invariant-loop-first l = IsWalked l.pairs l.n l.walk.items l.current

abbrev pub decreases-loop-first : goal.decreases-loop-first
decreases-loop-first l = l.n - vec_len l.walk
