use Rattle.std.proofs.Common.{All, take}
use Rattle.rvc_base.specs.Storing.{IsSize}
use Rattle.lowered_actor.proofs.saved.have_sizes.Given as goal

abbrev pub invariant-loop-one : goal.invariant-loop-one
invariant-loop-one l = All (λ one. IsSize one.kind) (take l.one-index l.saved)
