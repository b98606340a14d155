-- What a command of the verb `gen` does as its job asks, beside what it leaves: which channels it opens, under which names, and
-- with how many workers it makes its rounds.
-- Trusted: part of what a promise means.
use Rattle.std.specs.Prelude.{ℕ, List}
use Rattle.cmd_ports.specs.Opening.{Opening}
use Rattle.cmd_report.specs.About.{About}
use Rattle.cmd_report.specs.declared.status.Status.{Status}
use Rattle.cmd_report.specs.declared.status.Status.TheVariants as status
use Rattle.cmd_network.specs.Commands.{Command}
use Rattle.cmd_run.specs.Asked.{RanAsAsked, UnwrittenAsAsked}
use Rattle.cmd_gen.specs.Ends.{Comes}

-- nothing is said of the feeds, which are in memory
abbrev pub AnyFeeds : List Opening → Type 0
AnyFeeds openings = Unit {0}

-- By what the objects tell that a command is lent: whether these are the channels that were opened, and which workers arrived
-- in which round.
module _ (ChannelsAre : List Opening → Type 0) (Arrived : ℕ → ℕ → Type 0) where
  -- by what the command came to; with the other answers nothing was opened
  abbrev pub IsAsAsked : (cmd : Command) (said : Status) (lines : List ℕ) (about : About)
      → Comes cmd said lines about → Type 0
  IsAsAsked cmd status.Quiet lines about c =
      RanAsAsked AnyFeeds ChannelsAre Arrived c.1.gen c.0 c.1.comes.counts
  IsAsAsked cmd (status.Trapped inst action trap) lines about c =
      RanAsAsked AnyFeeds ChannelsAre Arrived c.1.gen c.0 c.1.comes.counts
  IsAsAsked cmd (status.Stalled inst action link) lines about c =
      RanAsAsked AnyFeeds ChannelsAre Arrived c.1.gen c.0 c.1.comes.counts
  IsAsAsked cmd (status.Budget firings) lines about c =
      RanAsAsked AnyFeeds ChannelsAre Arrived c.1.gen c.0 c.1.comes.counts
  IsAsAsked cmd (status.WriteFault channel) lines about c =
      UnwrittenAsAsked AnyFeeds ChannelsAre Arrived c.1.gen c.0 channel c.1.comes.how
  IsAsAsked cmd (status.Refused r) lines about c = Unit {0}
  IsAsAsked cmd status.OutOfMemory lines about c = Unit {0}
  IsAsAsked cmd (status.ReadFault at) lines about c = Unit {0}
  IsAsAsked cmd status.Done lines about c = Unit {0}
  IsAsAsked cmd (status.Usage cause) lines about c = Unit {0}
  IsAsAsked cmd (status.NotRun number why) lines about c = Unit {0}
  IsAsAsked cmd (status.Uncertified inst state first second reason) lines about c = Unit {0}

  -- To what a command of the verb comes, as its job asks.
  abbrev pub ComesAsAsked : Command → Status → (lines : List ℕ) → About → Type 0
  ComesAsAsked cmd said lines about =
      (c : Comes cmd said lines about) × IsAsAsked cmd said lines about c
