-- Calls that were collected, without where they lie in memory.
-- Trusted: part of what a promise means.
use Rattle.std.specs.Prelude.{◌≡◌, List, map, OnOk}
use Rattle.std.specs.declared.result.Result.{Result}
use Rattle.rvc_base.specs.declared.memory.Memory.{Memory}
use Rattle.cal_ast.specs.Tree.{Tree}
use Rattle.cal_imports.specs.Calls.{with_calls}
use Rattle.cal_imports.specs.GraphView.{edge_of}
use Rattle.cal_imports.specs.Walk.{Edge}
use Rattle.cal_imports.specs.declared.calls.Calls.{Calls}

abbrev pub calls_view : Calls → List Edge
calls_view c = map edge_of c.found.items

-- these calls were added to those that were found
abbrev pub AddsTo : Result (Unit {0}) Memory → (List Edge → List Edge) → (old new : Calls) → Type 0
AddsTo result adding old new = OnOk result (calls_view new ≡ adding (calls_view old))

-- the calls in this part were added
abbrev pub AddsCalls : Result (Unit {0}) Memory → Tree → (old new : Calls) → Type 0
AddsCalls result part old new = OnOk result (calls_view new ≡ with_calls part (calls_view old))
