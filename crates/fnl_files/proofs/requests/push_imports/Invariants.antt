use Rattle.std.proofs.Common.{◌≡◌, length, ◌++◌, map}
use Rattle.cal_imports.specs.Whole.{import_edges}
use Rattle.cal_files.specs.SoFar.{imports_tree}
use Rattle.fnl_files.specs.Requests.{import_request}
use Rattle.fnl_files.specs.SoFar.{waiting_of}
use Rattle.fnl_files.proofs.requests.push_imports.Given as goal

abbrev pub invariant-imports : goal.invariant-imports
invariant-imports l = waiting_of l.waiting ++ map (import_request l.file) (import_edges (imports_tree l.rest)) ≡ waiting_of l.initial.waiting ++ map (import_request l.initial.file) (import_edges (imports_tree l.initial.rest))

abbrev pub decreases-imports : goal.decreases-imports
decreases-imports l = length l.rest
