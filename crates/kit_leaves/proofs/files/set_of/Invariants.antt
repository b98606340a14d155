use Rattle.cal_imports.specs.View.{sources}
use Rattle.law_sources.specs.Names.{AreSpelled}
use Rattle.kit_leaves.proofs.files.set_of.Given as goal

abbrev pub invariant-loop-class : goal.invariant-loop-class
invariant-loop-class l = AreSpelled (sources l.set)
