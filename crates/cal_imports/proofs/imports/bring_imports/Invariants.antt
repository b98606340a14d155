use Rattle.std.proofs.Common.{◌≡◌, length}
use Rattle.cal_imports.specs.Asked.{imports_tree}
use Rattle.cal_imports.specs.Brought.{imports_brought}
use Rattle.cal_imports.specs.UnitNames.{AreDeclared}
use Rattle.cal_imports.specs.View.{sources}
use Rattle.cal_imports.proofs.imports.bring_imports.Given as goal

abbrev pub invariant-imports : goal.invariant-imports
invariant-imports l =
    (imports_brought (sources l.set) l.file (imports_tree l.rest) l.names ≡ imports_brought (sources l.initial.set) l.initial.file (imports_tree l.initial.rest) l.initial.names)
    × AreDeclared (sources l.set) l.kept

abbrev pub decreases-imports : goal.decreases-imports
decreases-imports l = length l.rest
