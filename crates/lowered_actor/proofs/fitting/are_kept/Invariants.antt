use Rattle.std.proofs.Common.{◌<◌, All, take}
use Rattle.lowered_actor.proofs.fitting.are_kept.Given as goal

abbrev pub invariant-loop-one : goal.invariant-loop-one
invariant-loop-one l = All (λ one. one.cell < l.kept) (take l.one-index l.saved)
