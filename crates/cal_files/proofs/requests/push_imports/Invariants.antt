use Rattle.std.proofs.Common.{◌≡◌, length, ◌++◌}
use Rattle.cal_files.specs.Reads.{import_requests}
use Rattle.cal_files.specs.SoFar.{imports_tree, waiting_of}
use Rattle.cal_files.proofs.requests.push_imports.Given as goal

abbrev pub invariant-imports : goal.invariant-imports
invariant-imports l = waiting_of l.waiting ++ import_requests l.file (imports_tree l.rest) ≡ waiting_of l.initial.waiting ++ import_requests l.initial.file (imports_tree l.initial.rest)

abbrev pub decreases-imports : goal.decreases-imports
decreases-imports l = length l.rest
