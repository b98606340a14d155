use Rattle.std.proofs.Common.{length}
use Rattle.rvc_engine.proofs.Compiled.{CompiledSoFar}
use Rattle.rvc_engine.proofs.compiling.compile_all.Given as goal

abbrev pub invariant-actors : goal.invariant-actors
invariant-actors l = CompiledSoFar l.initial.rest l.rest l.all.items

abbrev pub decreases-actors : goal.decreases-actors
decreases-actors l = length l.rest
