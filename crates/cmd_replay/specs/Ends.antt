-- To what a command comes that replays a trace, and what it leaves: a case for each status.
-- Trusted: part of what a promise means.
use Rattle.std.specs.Prelude.{◌≡◌, ◌⊎◌, ℕ, List, Some, string_bytes}
use Rattle.rvc_base.specs.declared.refusal.Refusal.{Refusal}
use Rattle.rvc_io.specs.Channels.{WritesOnlyAt}
use Rattle.rvc_io.specs.Count.{HasRisen}
use Rattle.trace_text.specs.declared.line.Line.{Line}
use Rattle.cal_model.specs.Selection.{State}
use Rattle.cal_model.specs.Sound.{Each, IsSound}
use Rattle.net_model.specs.declared.wiring.Counts.{Counts}
use Rattle.net_model.specs.Network.{Network}
use Rattle.cmd_ports.specs.Opening.{FeedFails, replay_feeds}
use Rattle.cmd_network.specs.Conforming.{input_names}
use Rattle.cmd_run_network.specs.Growth.{GrowTooFar, IsGrownTooMuch}
use Rattle.trace_replay.specs.Replaying.{IsRefused, IsReplayed}
use Rattle.trace_replay.specs.declared.why.ReplayFault.TheVariants.{NotRun}
use Rattle.trace_replay.specs.declared.why.Why.{Why}
use Rattle.cmd_report.specs.About.{About}
use Rattle.cmd_report.specs.Report.{run_lines}
use Rattle.cmd_report.specs.declared.status.ReadAt.TheVariants.{File, Feed}
use Rattle.cmd_report.specs.declared.status.Status.{Status}
use Rattle.cmd_report.specs.declared.status.Status.TheVariants as status
use Rattle.cmd_network.specs.Answers.{BreaksFiles, FileUnread, HasWrongWord}
use Rattle.cmd_network.specs.Commands.{AreCertified, Command, IsOfCommand, OpenedNothing, about_files, about_net, port_names, words_of}
use Rattle.cmd_replay.specs.Replays.{IsReplayFeed, IsToReplay, OpensFeeds, WhateverIsTold}

-- ---- a trace that was judged

-- The trace is the text of a run. Whatever bytes the inputs have and whatever the trace is, by what feeds tell: it is the
-- text of lines with this end, which play from the start of the network and keep the capacities of its links, and the
-- numbers count these lines. The report has these numbers, and how many actors are certified.
pub record WasReplayed (cmd : Command) (end : Line) (counts : Counts) (lines : List ℕ) (about : About) : Type 0 where
  pub net : Network State
  pub is_to_replay : IsToReplay cmd net
  pub replayed : WhateverIsTold cmd net
      (λ t inputs text. IsReplayed t text inputs (record { end = end; counts = counts }))
  pub feeds : OpensFeeds cmd net
  pub only_report : WritesOnlyAt 0 cmd.channels cmd.channels_after
  pub sound : Each IsSound is_to_replay.is_of.files.means.actors
  pub certified : ℕ
  pub are_certified : AreCertified is_to_replay.is_of.files.means.actors certified
  pub about_is : about ≡ about_net cmd is_to_replay.is_of.files.names net
  pub lines_are : lines ≡ run_lines about (Some certified) counts

-- .. if its end and its numbers are some
pub record WasRun (cmd : Command) (lines : List ℕ) (about : About) : Type 0 where
  pub end : Line
  pub counts : Counts
  pub replayed : WasReplayed cmd end counts lines about

-- The trace is that of no run. Whatever bytes the inputs have and whatever the trace is, by what feeds tell: the lines before
-- this one are those of a run, with it they aren't, for this cause, and the text is no trace.
pub record WasNoRun (cmd : Command) (line : ℕ) (why : Why) (about : About) : Type 0 where
  pub net : Network State
  pub is_to_replay : IsToReplay cmd net
  pub refused : WhateverIsTold cmd net (λ t inputs text. IsRefused t text (NotRun line why))
  pub feeds : OpensFeeds cmd net
  pub only_report : WritesOnlyAt 0 cmd.channels cmd.channels_after
  pub about_is : about ≡ about_net cmd is_to_replay.is_of.files.names net

-- ---- a trace that wasn't

-- A feed couldn't be opened, which was counted: those before it were.
abbrev pub FeedUnopened : Command → Network State → (feed : ℕ) → Type 0
FeedUnopened cmd net feed =
    FeedFails (replay_feeds (string_bytes cmd.job.trace) net.links (port_names net.ins) (words_of cmd))
    feed cmd.feeds cmd.feeds_after

-- the trace or an input that has a file couldn't be read, which was counted
pub record FeedBroke (cmd : Command) (net : Network State) (feed : ℕ) : Type 0 where
  pub counted : HasRisen cmd.feeds.faults cmd.feeds_after.faults
  pub is_feed : IsReplayFeed net.links (port_names net.ins) (words_of cmd) feed
  pub feeds : OpensFeeds cmd net

pub record WasUnread (cmd : Command) (feed : ℕ) (about : About) : Type 0 where
  pub net : Network State
  pub is_to_replay : IsToReplay cmd net
  pub how : FeedUnopened cmd net feed ⊎ FeedBroke cmd net feed
  pub only_report : WritesOnlyAt 0 cmd.channels cmd.channels_after
  pub about_is : about ≡ about_net cmd is_to_replay.is_of.files.names net

-- the words conform, and the links may not grow as far as the job asks
pub record GrowsTooFar (cmd : Command) (names : List (List ℕ)) (net : Network State) (r : Refusal) : Type 0 where
  pub is_of : IsOfCommand input_names cmd net
  pub names_are : names ≡ is_of.files.names
  pub rule : IsGrownTooMuch r
  pub too_far : GrowTooFar net.links cmd.job.grow

-- Why the job is refused.
pub data IsRefusedFor (cmd : Command) (r : Refusal) : About → Type 0 where
  by_files : (names : List (List ℕ)) → BreaksFiles cmd names r
      → IsRefusedFor cmd r (about_files cmd names)
  by_words : (names : List (List ℕ)) (net : Network State)
      → HasWrongWord input_names cmd names net r → IsRefusedFor cmd r (about_net cmd names net)
  by_growth : (names : List (List ℕ)) (net : Network State) → GrowsTooFar cmd names net r
      → IsRefusedFor cmd r (about_net cmd names net)

-- ---- each status

-- What a command has come to, but for its report: with these lines of the verb, and speaking of this. Want of memory may
-- come until the trace is judged, so feeds may be open then. It never ends by a status of runs, nor by a channel, for it
-- opens none.
abbrev pub Comes : Command → Status → (lines : List ℕ) → About → Type 0
Comes cmd status.Done lines about = WasRun cmd lines about
Comes cmd (status.NotRun line why) lines about = WasNoRun cmd line why about
Comes cmd (status.ReadFault (Feed feed)) lines about = WasUnread cmd feed about
Comes cmd (status.ReadFault (File file)) lines about =
    FileUnread cmd file about × OpenedNothing cmd
Comes cmd (status.Refused r) lines about = IsRefusedFor cmd r about × OpenedNothing cmd
Comes cmd status.OutOfMemory lines about = WritesOnlyAt 0 cmd.channels cmd.channels_after
Comes cmd (status.WriteFault channel) lines about = ⊥
Comes cmd status.Quiet lines about = ⊥
Comes cmd (status.Trapped inst action trap) lines about = ⊥
Comes cmd (status.Stalled inst action link) lines about = ⊥
Comes cmd (status.Budget firings) lines about = ⊥
Comes cmd (status.Usage cause) lines about = ⊥
Comes cmd (status.Uncertified inst state first second reason) lines about = ⊥

-- ---- completeness

-- The files and the words conform to this network: the answer is that the trace is that of a run, or that it isn't, by what
-- it is; but memory may run out, or reading or writing fail.
abbrev pub IsJudgedOrOutside : Command → Network State → Status → Type 0
IsJudgedOrOutside cmd net status.Done = (end : Line) × (counts : Counts)
    × WhateverIsTold cmd net (λ t inputs text. IsReplayed t text inputs (record { end = end; counts = counts }))
IsJudgedOrOutside cmd net (status.NotRun line why) =
    WhateverIsTold cmd net (λ t inputs text. IsRefused t text (NotRun line why))
IsJudgedOrOutside cmd net (status.Refused r) = ⊥
IsJudgedOrOutside cmd net (status.ReadFault at) = Unit {0}
IsJudgedOrOutside cmd net (status.WriteFault channel) = Unit {0}
IsJudgedOrOutside cmd net status.OutOfMemory = Unit {0}
IsJudgedOrOutside cmd net status.Quiet = ⊥
IsJudgedOrOutside cmd net (status.Trapped inst action trap) = ⊥
IsJudgedOrOutside cmd net (status.Stalled inst action link) = ⊥
IsJudgedOrOutside cmd net (status.Budget firings) = ⊥
IsJudgedOrOutside cmd net (status.Usage cause) = ⊥
IsJudgedOrOutside cmd net (status.Uncertified inst state first second reason) = ⊥

-- the trace isn't judged
abbrev pub IsNoVerdict : Status → Type 0
IsNoVerdict status.Done = ⊥
IsNoVerdict (status.NotRun line why) = ⊥
IsNoVerdict (status.Refused r) = Unit {0}
IsNoVerdict (status.ReadFault at) = Unit {0}
IsNoVerdict (status.WriteFault channel) = Unit {0}
IsNoVerdict status.OutOfMemory = Unit {0}
IsNoVerdict status.Quiet = Unit {0}
IsNoVerdict (status.Trapped inst action trap) = Unit {0}
IsNoVerdict (status.Stalled inst action link) = Unit {0}
IsNoVerdict (status.Budget firings) = Unit {0}
IsNoVerdict (status.Usage cause) = Unit {0}
IsNoVerdict (status.Uncertified inst state first second reason) = Unit {0}
