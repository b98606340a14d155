use Rattle.std.proofs.Common.{◌≡◌, length, map}
use Rattle.std.specs.Prelude.{string_bytes}
use Rattle.cal_imports.specs.ScopeView.{gathered_view}
use Rattle.cal_imports.specs.Whole.{units_gathered}
use Rattle.cal_imports.specs.View.{sources}
use Rattle.cal_imports.proofs.gather.gather_units.Given as goal

abbrev pub invariant-units : goal.invariant-units
invariant-units l = units_gathered (sources l.set) (map string_bytes l.rest) (gathered_view l.found) ≡ units_gathered (sources l.initial.set) (map string_bytes l.initial.rest) (gathered_view l.initial.found)

abbrev pub decreases-units : goal.decreases-units
decreases-units l = length l.rest
