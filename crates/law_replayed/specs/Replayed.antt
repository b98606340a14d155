-- A command that replays what another one wrote, as a statement.
-- Trusted: part of what a promise means.
use Rattle.std.specs.Prelude.{◌≡◌, ℕ, ◌≤◌, true, List, length}
use Rattle.trace_text.specs.declared.line.Line.{Line}
use Rattle.cal_model.specs.Selection.{State}
use Rattle.net_model.specs.declared.wiring.Counts.{Counts}
use Rattle.net_model.specs.Limits.{max_grow}
use Rattle.net_model.specs.Network.{Network}
use Rattle.trace_replay.specs.Judging.{is_end, max_trace_bytes}
use Rattle.trace_replay.specs.declared.why.Why.{Why}
use Rattle.cmd_report.specs.About.{About}
use Rattle.cmd_network.specs.Commands.{AreGiven, Command}
use Rattle.cmd_run.specs.Ends.{Ran}
use Rattle.cmd_replay.specs.Ends.{WasNoRun}
use Rattle.cmd_replay.specs.Replays.{IsTraceText}

-- The trace that one command left is what another one replays, over the same bytes of this network's inputs and the same
-- limit of growth, which is one that words may name. What the trace's channel holds is told, and not longer than a trace
-- may be.
pub record ReplaysWhatWasLeft (run replay : Command) (net : Network State) (inputs : List (List ℕ)) : Type 0 where
  pub given : AreGiven run net inputs
  pub given_again : AreGiven replay net inputs
  pub same_grow : replay.job.grow ≡ run.job.grow
  pub few_grown : run.job.grow ≤ max_grow
  pub told : run.channels_after.tells ≡ true
  pub is_trace : IsTraceText replay (run.channels_after.held 1)
  pub within : length (run.channels_after.held 1) ≤ max_trace_bytes

-- If a command ran a network to this end line, one that replays what it left, over that network, doesn't come to the
-- answer that it is the trace of no run.
abbrev pub WrittenTracesAreReplayed : Type 0
WrittenTracesAreReplayed = (run replay : Command) (net : Network State) (inputs : List (List ℕ))
    (end : Line) (counts : Counts) (lines : List ℕ) (about : About)
    → is_end end ≡ true → Ran run net end counts lines about
    → ReplaysWhatWasLeft run replay net inputs
    → (number : ℕ) (why : Why) (told : About) (no_run : WasNoRun replay number why told)
    → no_run.net ≡ net → ⊥
