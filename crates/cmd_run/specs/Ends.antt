-- To what a command comes that runs the network of a library, and what it leaves: a case for each status.
-- Trusted: part of what a promise means.
use Rattle.std.specs.Prelude.{◌≡◌, ◌⊎◌, ℕ, ◌≤◌, List, Some, string_bytes}
use Rattle.rvc_base.specs.declared.refusal.Refusal.{Refusal}
use Rattle.rvc_io.specs.Channels.{Channels, WritesOnlyAt}
use Rattle.rvc_io.specs.Count.{HasRisen}
use Rattle.trace_text.specs.declared.line.Line.{Line}
use Rattle.trace_text.specs.declared.line.Line.TheVariants.{Quiet as QuietLine, Trap as TrapLine, Stall as StallLine, Budget as BudgetLine}
use Rattle.cal_model.specs.Selection.{State}
use Rattle.cal_model.specs.Sound.{Each, IsSound}
use Rattle.net_model.specs.declared.wiring.Counts.{Counts}
use Rattle.net_model.specs.Network.{Network}
use Rattle.net_model.specs.Trace.{head_text}
use Rattle.cmd_run_network.specs.Growth.{GrowTooFar, IsGrownTooMuch}
use Rattle.cmd_ports.specs.Matching.{AreMatched}
use Rattle.cmd_ports.specs.Opening.{FeedFails, feeds_of}
use Rattle.cmd_network.specs.Conforming.{names_of_ports}
use Rattle.cmd_run_network.specs.Answering.{AreAllOpen, IsUnwritten}
use Rattle.cmd_run_network.specs.Files.{IsChannelOf, IsFeedOf}
use Rattle.cmd_run_network.specs.Leaving.{HasEnded, WasBroken, WasCut}
use Rattle.cmd_report.specs.About.{About}
use Rattle.cmd_report.specs.Report.{run_lines}
use Rattle.cmd_report.specs.declared.status.ReadAt.TheVariants.{File, Feed}
use Rattle.cmd_report.specs.declared.status.Status.{Status}
use Rattle.cmd_report.specs.declared.status.Status.TheVariants as status
use Rattle.cmd_network.specs.Answers.{BreaksFiles, FileUnread, HasWrongWord}
use Rattle.cmd_network.specs.Commands.{AreCertified, AreGiven, Command, HasFiles, IsToRun, OpenedNothing, TouchesOnly, about_files, about_net, port_names, run_over, words_of}

-- ---- the network that is run

-- the links of a network would hold too much, if they grew as far as the job asks
abbrev pub WouldGrowTooFar : Command → Network State → Type 0
WouldGrowTooFar cmd net = GrowTooFar net.links cmd.job.grow

-- all feeds of its inputs, the trace's channel and those of its outputs are open that have a file
abbrev pub AllAreOpen : Command → Network State → Type 0
AllAreOpen cmd net = AreAllOpen net.links (port_names net.ins) (port_names net.outs) (words_of cmd)
    (string_bytes cmd.job.trace) cmd.feeds_after cmd.channels_after

-- ---- a run that came to its end

-- This network was run until this line. Whatever bytes its inputs have: the trace is the text of its paced lines, of which
-- this is the last, each output that has a file has the bytes of what was sent to it, and the numbers count these lines. No
-- more firings were made than the budget permits. The report has these numbers, and how many actors are certified.
pub record Ran (cmd : Command) (net : Network State) (end : Line) (counts : Counts) (lines : List ℕ)
    (about : About) : Type 0 where
  pub is_to_run : IsToRun cmd net
  pub fits : WouldGrowTooFar cmd net → ⊥
  pub leaves : (inputs : List (List ℕ)) → AreGiven cmd net inputs
      → HasEnded (run_over cmd net inputs) end counts cmd.channels_after
  pub within : counts.firings ≤ cmd.job.budget
  pub touches : TouchesOnly cmd net
  pub opened : AllAreOpen cmd net
  pub sound : Each IsSound is_to_run.files.means.actors
  pub certified : ℕ
  pub are_certified : AreCertified is_to_run.files.means.actors certified
  pub about_is : about ≡ about_net cmd is_to_run.files.names net
  pub lines_are : lines ≡ run_lines about (Some certified) counts

-- .. if its numbers are some
pub record RanSome (cmd : Command) (net : Network State) (end : Line) (lines : List ℕ) (about : About) : Type 0 where
  pub counts : Counts
  pub ran : Ran cmd net end counts lines about

-- .. to its budget: so many firings were made
pub record RanOut (cmd : Command) (net : Network State) (firings : ℕ) (lines : List ℕ) (about : About) : Type 0 where
  pub counts : Counts
  pub ran : Ran cmd net BudgetLine counts lines about
  pub firings_are : firings ≡ counts.firings

-- ---- a run that didn't

-- A feed of the network couldn't be opened, which was counted: those before it were, and no channel was.
pub record FeedUnopened (cmd : Command) (net : Network State) (feed : ℕ) : Type 0 where
  pub fails : FeedFails (feeds_of net.links (port_names net.ins) (words_of cmd)) feed cmd.feeds
      cmd.feeds_after
  pub only_report : WritesOnlyAt 0 cmd.channels cmd.channels_after

-- A feed couldn't be read, which was counted: the trace and the outputs have what begun lines give, those of all rounds that
-- were made, and the delivery behind them has to pull from this feed.
pub record FeedBroke (cmd : Command) (net : Network State) (feed : ℕ) : Type 0 where
  pub counted : HasRisen cmd.feeds.faults cmd.feeds_after.faults
  pub is_feed : IsFeedOf net.links (port_names net.ins) (words_of cmd) feed
  pub counts : Counts
  pub leaves : (inputs : List (List ℕ)) → AreGiven cmd net inputs
      → WasCut (run_over cmd net inputs) counts feed cmd.feeds_after cmd.channels_after
  pub within : counts.firings ≤ cmd.job.budget
  pub touches : TouchesOnly cmd net
  pub opened : AllAreOpen cmd net

pub record WasUnread (cmd : Command) (net : Network State) (feed : ℕ) (about : About) : Type 0 where
  pub is_to_run : IsToRun cmd net
  pub fits : WouldGrowTooFar cmd net → ⊥
  pub how : FeedUnopened cmd net feed ⊎ FeedBroke cmd net feed
  pub about_is : about ≡ about_net cmd is_to_run.files.names net

-- A channel couldn't be opened: all feeds were, and the channels before it, and nothing was written but the report. Or all
-- were opened, and what stands in the trace before its first event couldn't be written whole: then the trace's channel got a
-- prefix of that, and no other was written but that of the report.
pub record ChannelUnopened (cmd : Command) (net : Network State) (channel : ℕ) : Type 0 where
  pub between : Channels
  pub unwritten : IsUnwritten net.links (port_names net.ins) (port_names net.outs) (words_of cmd)
      (string_bytes cmd.job.trace) (head_text net cmd.job.grow) cmd.feeds cmd.feeds_after
      cmd.channels between channel
  pub only_report : WritesOnlyAt 0 between cmd.channels_after

-- The trace's channel or that of an output couldn't be opened or written, which was counted: each that was opened has a
-- prefix of what begun or paced lines give. If it could be opened, so could all.
pub record WasUnwritten (cmd : Command) (net : Network State) (channel : ℕ) : Type 0 where
  pub is_to_run : IsToRun cmd net
  pub fits : WouldGrowTooFar cmd net → ⊥
  pub counted : HasRisen cmd.channels.faults cmd.channels_after.faults
  pub is_channel : IsChannelOf (port_names net.outs) (words_of cmd) channel
  pub how : ChannelUnopened cmd net channel ⊎ AllAreOpen cmd net
  pub leaves : (inputs : List (List ℕ)) → AreGiven cmd net inputs
      → WasBroken (run_over cmd net inputs) cmd.channels_after
  pub touches : TouchesOnly cmd net

-- ---- no run

-- each port word names a port of its own, and the links of the network would grow too far
pub record GrowsTooMuch (cmd : Command) (names : List (List ℕ)) (net : Network State) (r : Refusal) : Type 0 where
  pub files : HasFiles cmd net
  pub names_are : names ≡ files.names
  pub matched : AreMatched (names_of_ports net) (words_of cmd)
  pub too_far : WouldGrowTooFar cmd net
  pub refusal : IsGrownTooMuch r

-- Why the job is refused.
pub data IsRefused (cmd : Command) (r : Refusal) : About → Type 0 where
  by_files : (names : List (List ℕ)) → BreaksFiles cmd names r
      → IsRefused cmd r (about_files cmd names)
  by_words : (names : List (List ℕ)) (net : Network State)
      → HasWrongWord names_of_ports cmd names net r → IsRefused cmd r (about_net cmd names net)
  by_growth : (names : List (List ℕ)) (net : Network State) → GrowsTooMuch cmd names net r
      → IsRefused cmd r (about_net cmd names net)

-- ---- each status

-- What a command has come to, but for its report: with these lines of the verb, and speaking of this. It never ends by a
-- status that isn't of runs.
abbrev pub Comes : Command → Status → (lines : List ℕ) → About → Type 0
Comes cmd status.Quiet lines about = (net : Network State) × RanSome cmd net QuietLine lines about
Comes cmd (status.Trapped inst action trap) lines about =
    (net : Network State) × RanSome cmd net (TrapLine inst.0 action.0 trap) lines about
Comes cmd (status.Stalled inst action link) lines about =
    (net : Network State) × RanSome cmd net (StallLine inst.0 action.0 link.0) lines about
Comes cmd (status.Budget firings) lines about =
    (net : Network State) × RanOut cmd net firings lines about
Comes cmd (status.ReadFault (Feed feed)) lines about =
    (net : Network State) × WasUnread cmd net feed about
Comes cmd (status.ReadFault (File file)) lines about =
    FileUnread cmd file about × OpenedNothing cmd
Comes cmd (status.WriteFault channel) lines about =
    (net : Network State) × WasUnwritten cmd net channel
Comes cmd (status.Refused r) lines about = IsRefused cmd r about × OpenedNothing cmd
Comes cmd status.OutOfMemory lines about = OpenedNothing cmd
Comes cmd status.Done lines about = ⊥
Comes cmd (status.Usage cause) lines about = ⊥
Comes cmd (status.NotRun number why) lines about = ⊥
Comes cmd (status.Uncertified inst state first second reason) lines about = ⊥

-- ---- completeness

-- Why a job is refused whose files and words conform to this network: the links would grow too far.
pub record IsStillRefused (cmd : Command) (net : Network State) (r : Refusal) : Type 0 where
  pub too_far : WouldGrowTooFar cmd net
  pub refusal : IsGrownTooMuch r

-- To what a command comes whose files and words conform to this network: it is run. If it isn't, then the job is refused for
-- one of these reasons, or reading or writing failed, or memory ran out.
abbrev pub ComesFor : Network State → Command → Status → (lines : List ℕ) → About → Type 0
ComesFor net cmd status.Quiet lines about = RanSome cmd net QuietLine lines about
ComesFor net cmd (status.Trapped inst action trap) lines about =
    RanSome cmd net (TrapLine inst.0 action.0 trap) lines about
ComesFor net cmd (status.Stalled inst action link) lines about =
    RanSome cmd net (StallLine inst.0 action.0 link.0) lines about
ComesFor net cmd (status.Budget firings) lines about = RanOut cmd net firings lines about
ComesFor net cmd (status.ReadFault (Feed feed)) lines about = WasUnread cmd net feed about
ComesFor net cmd (status.ReadFault (File file)) lines about =
    FileUnread cmd file about × OpenedNothing cmd
ComesFor net cmd (status.WriteFault channel) lines about = WasUnwritten cmd net channel
ComesFor net cmd (status.Refused r) lines about = IsStillRefused cmd net r × OpenedNothing cmd
ComesFor net cmd status.OutOfMemory lines about = OpenedNothing cmd
ComesFor net cmd status.Done lines about = ⊥
ComesFor net cmd (status.Usage cause) lines about = ⊥
ComesFor net cmd (status.NotRun number why) lines about = ⊥
ComesFor net cmd (status.Uncertified inst state first second reason) lines about = ⊥

-- no run came to its end
abbrev pub IsNoEnd : Status → Type 0
IsNoEnd status.Quiet = ⊥
IsNoEnd (status.Trapped inst action trap) = ⊥
IsNoEnd (status.Stalled inst action link) = ⊥
IsNoEnd (status.Budget firings) = ⊥
IsNoEnd (status.ReadFault at) = Unit {0}
IsNoEnd (status.WriteFault channel) = Unit {0}
IsNoEnd (status.Refused r) = Unit {0}
IsNoEnd status.OutOfMemory = Unit {0}
IsNoEnd status.Done = Unit {0}
IsNoEnd (status.Usage cause) = Unit {0}
IsNoEnd (status.NotRun number why) = Unit {0}
IsNoEnd (status.Uncertified inst state first second reason) = Unit {0}
