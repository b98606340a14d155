-- The answer that a trace is that of no run speaks of its text alone, and the text that a run left is a trace.
use Rattle.std.proofs.Common.{◌≡◌, ◌≤◌, ℕ, true, List, [], ◌∷◌, ◌++◌, length, subst, sym, refl}
use Rattle.trace_text.specs.declared.line.Line.{Line}
use Rattle.cal_model.specs.Selection.{State as ActorState}
use Rattle.net_model.specs.declared.wiring.Counts.{Counts}
use Rattle.net_model.specs.Network.{Network}
use Rattle.trace_replay.specs.Judging.{IsNotRun, is_end, max_trace_bytes}
use Rattle.trace_replay.specs.declared.why.Why.{Why}
use Rattle.cmd_report.specs.About.{About}
use Rattle.cmd_network.specs.Commands.{AreGiven, Command, run_over}
use Rattle.cmd_run_network.specs.Leaving.{HasEnded}
use Rattle.cmd_run.specs.Ends.{Ran}
use Rattle.cmd_replay.specs.Ends.{WasNoRun}
use Rattle.cmd_replay.specs.Replays.{IsTraceText}
use Rattle.law_written.specs.Written.{WrittenAreNotRefused, trial_of}
use Rattle.law_replayed.specs.Replayed.{ReplaysWhatWasLeft, WrittenTracesAreReplayed}

-- what the answer says of the text, over the network that is named
refused : (replay : Command) (net : Network ActorState) (inputs : List (List ℕ)) (text : List ℕ) (number : ℕ) (why : Why) (told : About)
    → (no_run : WasNoRun replay number why told) → no_run.net ≡ net → AreGiven replay net inputs → IsTraceText replay text
    → IsNotRun (trial_of net replay.job.grow inputs) text number why
refused replay net inputs text number why told no_run is_net given trace =
    subst (λ of. IsNotRun (trial_of of replay.job.grow inputs) text number why) is_net
    (no_run.refused inputs text (subst (λ of. AreGiven replay of inputs) (sym is_net) given) trace).0

-- .. and with the limit of growth of the run that left it
left_refused : (run replay : Command) (net : Network ActorState) (inputs : List (List ℕ)) (number : ℕ) (why : Why) (told : About)
    → ReplaysWhatWasLeft run replay net inputs → (no_run : WasNoRun replay number why told) → no_run.net ≡ net
    → IsNotRun (trial_of net run.job.grow inputs) (run.channels_after.held 1) number why
left_refused run replay net inputs number why told left no_run is_net =
    subst (λ grow. IsNotRun (trial_of net grow inputs) (run.channels_after.held 1) number why) left.same_grow
    (refused replay net inputs (run.channels_after.held 1) number why told no_run is_net left.given_again left.is_trace)

-- what ended isn't refused
not_refused : WrittenAreNotRefused → (run replay : Command) (net : Network ActorState) (inputs : List (List ℕ)) (end : Line) (counts : Counts)
    → HasEnded (run_over run net inputs) end counts run.channels_after → is_end end ≡ true
    → (lines : List ℕ) (about : About) → Ran run net end counts lines about → ReplaysWhatWasLeft run replay net inputs
    → (number : ℕ) (why : Why) → IsNotRun (trial_of net run.job.grow inputs) (run.channels_after.held 1) number why → ⊥
not_refused law run replay net inputs end counts ended is_end_line lines about ran left number why no_run =
    law run.library _ net run.job.grow inputs (ended.before ++ end ∷ []) end ended.last number why
    ran.is_to_run.conforms.means left.few_grown
    (record { plays = ended.permitted.plays; keeps = ended.permitted.keeps; ends = (ended.before, refl, is_end_line) })
    (subst (λ bytes. length bytes ≤ max_trace_bytes) (ended.wrote.trace.held left.told) left.within)
    (subst (λ bytes. IsNotRun (trial_of net run.job.grow inputs) bytes number why) (ended.wrote.trace.held left.told) no_run)

pub are_replayed : WrittenAreNotRefused → WrittenTracesAreReplayed
are_replayed law run replay net inputs end counts lines about is_end_line ran left number why told no_run is_net =
    not_refused law run replay net inputs end counts (ran.leaves inputs left.given) is_end_line lines about ran left number why
    (left_refused run replay net inputs number why told left no_run is_net)
