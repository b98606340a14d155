-- What a command does as its job asks, beside what it leaves: which feeds and channels it opens, under which names, and with
-- how many workers it makes its rounds.
-- Trusted: part of what a promise means.
use mathlib.Core.Logic.{inl, inr}
use Rattle.std.specs.Prelude.{◌⊎◌, ℕ, List, length, string_bytes}
use Rattle.cal_model.specs.Selection.{State}
use Rattle.net_model.specs.declared.wiring.Counts.{Counts}
use Rattle.net_model.specs.Network.{Network}
use Rattle.cmd_ports.specs.Opening.{HoldsBefore, Opening, channels_of, feeds_of}
use Rattle.cmd_run_network.specs.Arriving.{ArriveInEach}
use Rattle.cmd_report.specs.About.{About}
use Rattle.cmd_report.specs.declared.status.ReadAt.TheVariants.{File, Feed}
use Rattle.cmd_report.specs.declared.status.Status.{Status}
use Rattle.cmd_report.specs.declared.status.Status.TheVariants as status
use Rattle.cmd_network.specs.Commands.{Command, port_names, words_of}
use Rattle.cmd_run.specs.Ends.{AllAreOpen, ChannelUnopened, Comes, FeedBroke, FeedUnopened}

-- the feeds of a network's inputs that have a file, in the order of links; and the channel of the trace, and behind it those of
-- its outputs that have one: each with the name of its file
abbrev pub feeds_asked : Command → Network State → List Opening
feeds_asked cmd net = feeds_of net.links (port_names net.ins) (words_of cmd)

abbrev pub channels_asked : Command → Network State → List Opening
channels_asked cmd net = channels_of (string_bytes cmd.job.trace) (port_names net.outs) (words_of cmd)

-- By what the objects tell that a command is lent: whether these are the feeds that were opened, whether these are the
-- channels, and which workers arrived in which round.
module _ (FeedsAre ChannelsAre : List Opening → Type 0) (Arrived : ℕ → ℕ → Type 0) where
  -- these feeds and these channels were opened; and in each round that the numbers count, its workers have arrived
  pub record RanAsAsked (cmd : Command) (net : Network State) (counts : Counts) : Type 0 where
    pub feeds : FeedsAre (feeds_asked cmd net)
    pub channels : ChannelsAre (channels_asked cmd net)
    pub workers : ArriveInEach Arrived cmd.job (length net.leaves) counts

  -- the feeds before the one that couldn't be opened were; or one couldn't be read, and all were
  abbrev pub UnreadAsAsked : (cmd : Command) (net : Network State) (feed : ℕ)
      → FeedUnopened cmd net feed ⊎ FeedBroke cmd net feed → Type 0
  UnreadAsAsked cmd net feed (inl unopened) = HoldsBefore (feeds_asked cmd net) feed FeedsAre
  UnreadAsAsked cmd net feed (inr broke) = RanAsAsked cmd net broke.counts

  -- all feeds were opened; and the channels before the one that couldn't be, or all channels
  abbrev pub UnwrittenAsAsked : (cmd : Command) (net : Network State) (channel : ℕ)
      → ChannelUnopened cmd net channel ⊎ AllAreOpen cmd net → Type 0
  UnwrittenAsAsked cmd net channel (inl unopened) = FeedsAre (feeds_asked cmd net)
      × (HoldsBefore (channels_asked cmd net) channel ChannelsAre ⊎ ChannelsAre (channels_asked cmd net))
  UnwrittenAsAsked cmd net channel (inr are_open) = FeedsAre (feeds_asked cmd net)
      × ChannelsAre (channels_asked cmd net)

  -- by what the command came to; with the other answers nothing was opened
  abbrev pub IsAsAsked : (cmd : Command) (said : Status) (lines : List ℕ) (about : About)
      → Comes cmd said lines about → Type 0
  IsAsAsked cmd status.Quiet lines about c = RanAsAsked cmd c.0 c.1.counts
  IsAsAsked cmd (status.Trapped inst action trap) lines about c = RanAsAsked cmd c.0 c.1.counts
  IsAsAsked cmd (status.Stalled inst action link) lines about c = RanAsAsked cmd c.0 c.1.counts
  IsAsAsked cmd (status.Budget firings) lines about c = RanAsAsked cmd c.0 c.1.counts
  IsAsAsked cmd (status.ReadFault (Feed feed)) lines about c =
      UnreadAsAsked cmd c.0 feed c.1.how
  IsAsAsked cmd (status.ReadFault (File file)) lines about c = Unit {0}
  IsAsAsked cmd (status.WriteFault channel) lines about c =
      UnwrittenAsAsked cmd c.0 channel c.1.how
  IsAsAsked cmd (status.Refused r) lines about c = Unit {0}
  IsAsAsked cmd status.OutOfMemory lines about c = Unit {0}
  IsAsAsked cmd status.Done lines about c = Unit {0}
  IsAsAsked cmd (status.Usage cause) lines about c = Unit {0}
  IsAsAsked cmd (status.NotRun number why) lines about c = Unit {0}
  IsAsAsked cmd (status.Uncertified inst state first second reason) lines about c = Unit {0}

  -- To what a command comes that runs the network of a library, as its job asks.
  abbrev pub ComesAsAsked : Command → Status → (lines : List ℕ) → About → Type 0
  ComesAsAsked cmd said lines about =
      (c : Comes cmd said lines about) × IsAsAsked cmd said lines about c
