-- What a run of a generated network tells of every quiet run over the generated input, if each actor is certified.
-- Trusted: part of what a promise means.
use Rattle.std.specs.Prelude.{ℕ, List}
use Rattle.law_determinate.specs.QuietRuns.{QuietRunsGoOn}
use Rattle.cmd_gen.specs.Ends.{Comes, IsGenerated}
use Rattle.cmd_network.specs.Commands.{Command}
use Rattle.cmd_report.specs.About.{About}
use Rattle.cmd_report.specs.declared.status.Status.{Status}

-- A command of the verb `gen` came to this status, and the command that is run for it tells what every quiet run gives.
abbrev pub GenComesDeterminate : Command → Status → (lines : List ℕ) → About → Type 0
GenComesDeterminate cmd said lines about = Comes cmd said lines about
    × ((made : Command) → IsGenerated cmd made → QuietRunsGoOn made said lines about)
