-- The exit statuses.
-- Trusted: part of what a promise means.
use Rattle.std.specs.Prelude.{ℕ, Bool, true, false}
use Rattle.cmd_report.specs.declared.status.Status.{Status}
use Rattle.cmd_report.specs.declared.status.Status.TheVariants as status

-- the number with which the program ends
abbrev pub code_of : Status → ℕ
code_of status.Quiet = 0
code_of status.Done = 0
code_of (status.Usage cause) = 1
code_of (status.ReadFault place) = 2
code_of (status.WriteFault channel) = 3
code_of (status.Refused refusal) = 4
code_of (status.Trapped inst action trap) = 5
code_of (status.Stalled inst action link) = 6
code_of (status.Budget firings) = 7
code_of status.OutOfMemory = 8
code_of (status.NotRun line why) = 9
code_of (status.Uncertified inst state a b reason) = 10

-- Whether the command came to its end, so that its report has all lines of its verb; if not, it has the last line alone.
abbrev pub came_to_its_end : Status → Bool
came_to_its_end status.Quiet = true
came_to_its_end status.Done = true
came_to_its_end (status.Usage cause) = false
came_to_its_end (status.ReadFault place) = false
came_to_its_end (status.WriteFault channel) = false
came_to_its_end (status.Refused refusal) = false
came_to_its_end (status.Trapped inst action trap) = true
came_to_its_end (status.Stalled inst action link) = true
came_to_its_end (status.Budget firings) = true
came_to_its_end status.OutOfMemory = false
came_to_its_end (status.NotRun line why) = false
came_to_its_end (status.Uncertified inst state a b reason) = true
