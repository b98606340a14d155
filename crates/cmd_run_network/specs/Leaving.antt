-- What the run of a network leaves on its channels, by how it ended.
-- Trusted: part of what a promise means.
use Rattle.std.specs.Prelude.{◌≡◌, ◌⊎◌, ℕ, ◌+◌, true, false, List, [], ◌∷◌, ◌++◌, map, Option, None, Some}
use Rattle.rvc_io.specs.Channels.{Channels}
use Rattle.rvc_io.specs.Feeds.{Inputs}
use Rattle.rvc_words.specs.Words.{PortText, port_text}
use Rattle.rvc_words.specs.declared.job.Job.{Job}
use Rattle.trace_text.specs.declared.line.Line.{Line}
use Rattle.trace_text.specs.declared.line.Line.TheVariants.{Quiet as QuietLine, Trap as TrapLine, Stall as StallLine, Budget as BudgetLine}
use Rattle.net_model.specs.declared.wiring.Counts.{Counts}
use Rattle.net_model.specs.Network.{Network}
use Rattle.net_model.specs.State.{State}
use Rattle.net_model.specs.Counted.{IsCounted}
use Rattle.net_model.specs.Paced.{IsBegun, IsPaced, Moment, Pace}
use Rattle.net_model.specs.Stable.{IsPrefix}
use Rattle.net_model.specs.Trace.{bytes_out, text}
use Rattle.round_runner.specs.declared.outcome.RunEnd.{RunEnd}
use Rattle.round_runner.specs.declared.outcome.RunEnd.TheVariants.{Quiet, Trapped, Stalled, Budget, ReadFault, WriteFault}
use Rattle.round_runner.specs.Pulling.{NeedsPull}
use Rattle.network_runner.specs.FromStart.{PlaysAndKeeps}
use Rattle.cmd_run_network.specs.Files.{output_file}

-- A run that is to be made: of this network over these bytes of its inputs, from this state, with rounds that are paced
-- so, and with files for its ports.
pub record Setting (X : Type 0) : Type 0 where
  pub net : Network X
  pub inputs : List (List ℕ)
  pub start : State X
  pub pace : Pace
  pub words : List PortText

-- by what a job paces its rounds
abbrev pub pace_of : Job → Pace
pace_of job =
    record { kind = job.round; burst = job.burst; budget = job.budget; grow = job.grow }

abbrev pub setting_of : {X : Type 0} → Network X → List (List ℕ) → State X → Job → Setting X
setting_of net inputs start job = record {
  net = net;
  inputs = inputs;
  start = start;
  pace = pace_of job;
  words = map port_text job.ports.items;
}

-- the file of output p, if it has one
abbrev pub file_out : {X : Type 0} → Setting X → ℕ → Option (List ℕ)
file_out run p = output_file (map (λ port. port.name) run.net.outs) run.words p

-- What channels hold.

-- a channel is open, and holds these bytes if that is told
pub record Holds (channels : Channels) (channel : ℕ) (bytes : List ℕ) : Type 0 where
  pub opened : channels.is_open channel ≡ true
  pub held : channels.tells ≡ true → channels.held channel ≡ bytes

-- it holds a prefix of them, if it was opened
abbrev pub HoldsPrefix : Channels → ℕ → List ℕ → Type 0
HoldsPrefix channels channel bytes = channels.is_open channel ≡ true → channels.tells ≡ true
    → IsPrefix (channels.held channel) bytes

-- The trace is the text of these lines, and each output that has a file has the bytes of what was sent to it.
pub record Wrote {X : Type 0} (run : Setting X) (lines : List Line) (last : State X)
    (channels : Channels) : Type 0 where
  pub trace : Holds channels 1 (text run.net run.pace.grow lines)
  pub outputs : (p : ℕ) (file : List ℕ) → file_out run p ≡ Some file
      → Holds channels (2 + p) (bytes_out run.net last p)
  pub unnamed : (p : ℕ) → file_out run p ≡ None → channels.is_open (2 + p) ≡ false

-- Each of these channels that was opened has a prefix of that.
pub record WrotePrefixes {X : Type 0} (run : Setting X) (lines : List Line) (last : State X)
    (channels : Channels) : Type 0 where
  pub trace : HoldsPrefix channels 1 (text run.net run.pace.grow lines)
  pub outputs : (p : ℕ) (file : List ℕ) → file_out run p ≡ Some file
      → HoldsPrefix channels (2 + p) (bytes_out run.net last p)
  pub unnamed : (p : ℕ) → file_out run p ≡ None → channels.is_open (2 + p) ≡ false

-- How runs end.

-- the lines play from the start of the run, and keep the capacities of the links
abbrev pub ArePermitted : {X : Type 0} → Setting X → List Line → State X → Type 0
ArePermitted run lines last = PlaysAndKeeps run.net run.pace.grow run.start last lines

-- The run came to its end, which is this line: its lines are paced, they were written whole, and the numbers count them.
-- If it ended by its budget, that is spent.
pub record HasEnded {X : Type 0} (run : Setting X) (end : Line) (counts : Counts) (channels : Channels) : Type 0 where
  pub before : List Line
  pub last : State X
  pub paced : IsPaced run.net run.pace run.start (before ++ end ∷ []) last
  pub permitted : ArePermitted run (before ++ end ∷ []) last
  pub wrote : Wrote run (before ++ end ∷ []) last channels
  pub counted : IsCounted run.net run.inputs run.start (before ++ end ∷ []) last counts
  pub spent : end ≡ BudgetLine → counts.firings ≡ run.pace.budget

-- A feed couldn't be read: the lines are begun. The delivery behind them has to pull from this feed, so they are those of
-- all rounds that were made. They were written whole, and the numbers count them.
pub record WasCut {X : Type 0} (run : Setting X) (counts : Counts) (feed : ℕ) (feeds : Inputs)
    (channels : Channels) : Type 0 where
  pub lines : List Line
  pub reached : Moment X
  pub begun : IsBegun run.net run.pace run.start lines reached
  pub needs : NeedsPull run.net run.inputs reached.state feed feeds
  pub permitted : ArePermitted run lines reached.state
  pub wrote : Wrote run lines reached.state channels
  pub counted : IsCounted run.net run.inputs run.start lines reached.state counts

-- lines that lead to this state are begun, or paced
abbrev pub AreBegunOrPaced : {X : Type 0} → Setting X → List Line → State X → Type 0
AreBegunOrPaced {X} run lines last =
    ((reached : Moment X) × IsBegun run.net run.pace run.start lines reached × (reached.state ≡ last))
    ⊎ IsPaced run.net run.pace run.start lines last

-- A channel couldn't be written: there are begun or paced lines of which each channel has a prefix.
pub record WasBroken {X : Type 0} (run : Setting X) (channels : Channels) : Type 0 where
  pub lines : List Line
  pub last : State X
  pub begun_or_paced : AreBegunOrPaced run lines last
  pub permitted : ArePermitted run lines last
  pub wrote : WrotePrefixes run lines last channels

-- a run came to its end, or a feed or a channel kept it from that
pub data Ending : Type 0 where
  Came : Line → Ending
  Unread : (feed : ℕ) → Ending
  Unwritten : (channel : ℕ) → Ending

abbrev pub ending_of : RunEnd → Ending
ending_of Quiet = Came QuietLine
ending_of (Trapped inst action trap) = Came (TrapLine inst.0 action.0 trap)
ending_of (Stalled inst action link) = Came (StallLine inst.0 action.0 link.0)
ending_of Budget = Came BudgetLine
ending_of (ReadFault feed) = Unread feed
ending_of (WriteFault channel) = Unwritten channel

-- what a run leaves
abbrev pub LeavesRun : {X : Type 0} → Setting X → Ending → Counts → Inputs → Channels → Type 0
LeavesRun run (Came end) counts feeds channels = HasEnded run end counts channels
LeavesRun run (Unread feed) counts feeds channels = WasCut run counts feed feeds channels
LeavesRun run (Unwritten channel) counts feeds channels = WasBroken run channels
