use Rattle.std.proofs.Common.{take}
use Rattle.firing_slices.specs.Slices.{AcceptsAll}
use Rattle.firing_slices.proofs.FiringSlices.accept_all.Given as goal

abbrev pub invariant-loop-token : goal.invariant-loop-token
invariant-loop-token g l = AcceptsAll (g.Self.Firing.cell l.initial.self) l.port (take l.token-index l.tokens) (g.Self.Firing.cell l.self)
