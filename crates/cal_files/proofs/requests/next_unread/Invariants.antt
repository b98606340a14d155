use Rattle.std.proofs.Common.{◌≡◌, length}
use Rattle.cal_imports.specs.View.{sources}
use Rattle.cal_files.specs.SoFar.{past_read, waiting_of}
use Rattle.cal_files.proofs.requests.next_unread.Given as goal

abbrev pub invariant-requests : goal.invariant-requests
invariant-requests l = past_read (sources l.set) (waiting_of l.waiting) ≡ past_read (sources l.initial.set) (waiting_of l.initial.waiting)

abbrev pub decreases-requests : goal.decreases-requests
decreases-requests l = length l.waiting.items
