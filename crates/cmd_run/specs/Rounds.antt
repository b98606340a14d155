-- How few rounds a command makes that runs a network to its end.
-- Trusted: part of what a promise means.
use Rattle.std.specs.Prelude.{ℕ, ◌+◌, ◌*◌, ◌≤◌, List, [], ◌∷◌, ◌++◌}
use Rattle.trace_text.specs.declared.line.Line.{Line}
use Rattle.cal_model.specs.Selection.{State}
use Rattle.net_model.specs.declared.wiring.Counts.{Counts}
use Rattle.net_model.specs.Network.{Network}
use Rattle.law_rounds.specs.Bounds.{growths_in}
use Rattle.cmd_report.specs.About.{About}
use Rattle.cmd_report.specs.declared.status.Status.{Status}
use Rattle.cmd_network.specs.Commands.{AreGiven, Command}
use Rattle.cmd_run.specs.Ends.{Comes, Ran}

-- A command ran until this line. Whatever bytes its inputs have, it made at most two rounds for each firing, one for each growth
-- of a link, and two more.
abbrev pub MadeFewRounds : (cmd : Command) (net : Network State) (end : Line) (counts : Counts)
    (lines : List ℕ) (about : About) → Ran cmd net end counts lines about → Type 0
MadeFewRounds cmd net end counts lines about ran =
    (inputs : List (List ℕ)) (given : AreGiven cmd net inputs) → counts.rounds
    ≤ 2 * counts.firings + growths_in ((ran.leaves inputs given).before ++ end ∷ []) + 2

-- whatever it speaks of in its report
abbrev pub FewRoundsOf : Command → (lines : List ℕ) → About → Type 0
FewRoundsOf cmd lines about = (net : Network State) (end : Line) (counts : Counts)
    (ran : Ran cmd net end counts lines about) → MadeFewRounds cmd net end counts lines about ran

-- .. and whichever command it is
abbrev pub RunsMakeFewRounds : Type 0
RunsMakeFewRounds = (cmd : Command) (lines : List ℕ) (about : About) → FewRoundsOf cmd lines about

-- A command came to this status, and made few rounds if it ran to an end.
abbrev pub ComesInFewRounds : Command → Status → (lines : List ℕ) → About → Type 0
ComesInFewRounds cmd said lines about = Comes cmd said lines about × FewRoundsOf cmd lines about
