-- Which feeds a command opens that replays a trace, beside what it leaves, and under which names.
-- Trusted: part of what a promise means.
use Rattle.std.specs.Prelude.{◌⊎◌, ℕ, List, string_bytes}
use Rattle.cal_model.specs.Selection.{State}
use Rattle.net_model.specs.Network.{Network}
use Rattle.cmd_ports.specs.Opening.{HoldsBefore, Opening, replay_feeds}
use Rattle.cmd_report.specs.About.{About}
use Rattle.cmd_report.specs.declared.status.ReadAt.TheVariants.{File, Feed}
use Rattle.cmd_report.specs.declared.status.Status.{Status}
use Rattle.cmd_report.specs.declared.status.Status.TheVariants as status
use Rattle.cmd_network.specs.Commands.{Command, port_names, words_of}
use Rattle.cmd_replay.specs.Ends.{Comes}

-- the feed of the trace, and behind it those of a network's inputs that have a file, in the order of links
abbrev pub feeds_asked : Command → Network State → List Opening
feeds_asked cmd net =
    replay_feeds (string_bytes cmd.job.trace) net.links (port_names net.ins) (words_of cmd)

-- By what feeds tell: whether these are those that were opened.
module _ (FeedsAre : List Opening → Type 0) where
  -- by what the command came to: all were opened; or one couldn't be opened, and those before it were
  abbrev pub IsAsAsked : (cmd : Command) (said : Status) (lines : List ℕ) (about : About)
      → Comes cmd said lines about → Type 0
  IsAsAsked cmd status.Done lines about c = FeedsAre (feeds_asked cmd c.replayed.net)
  IsAsAsked cmd (status.NotRun line why) lines about c = FeedsAre (feeds_asked cmd c.net)
  IsAsAsked cmd (status.ReadFault (Feed feed)) lines about c =
      HoldsBefore (feeds_asked cmd c.net) feed FeedsAre ⊎ FeedsAre (feeds_asked cmd c.net)
  IsAsAsked cmd (status.ReadFault (File file)) lines about c = Unit {0}
  IsAsAsked cmd (status.Refused r) lines about c = Unit {0}
  IsAsAsked cmd status.OutOfMemory lines about c = Unit {0}
  IsAsAsked cmd (status.WriteFault channel) lines about c = Unit {0}
  IsAsAsked cmd status.Quiet lines about c = Unit {0}
  IsAsAsked cmd (status.Trapped inst action trap) lines about c = Unit {0}
  IsAsAsked cmd (status.Stalled inst action link) lines about c = Unit {0}
  IsAsAsked cmd (status.Budget firings) lines about c = Unit {0}
  IsAsAsked cmd (status.Usage cause) lines about c = Unit {0}
  IsAsAsked cmd (status.Uncertified inst state first second reason) lines about c = Unit {0}

  -- To what a command comes that replays a trace, as its job asks.
  abbrev pub ComesAsAsked : Command → Status → (lines : List ℕ) → About → Type 0
  ComesAsAsked cmd said lines about =
      (c : Comes cmd said lines about) × IsAsAsked cmd said lines about c
