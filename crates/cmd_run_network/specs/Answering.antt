-- How a job is answered: what each answer says, and when it comes.
-- Trusted: part of what a promise means.
use Rattle.std.specs.Prelude.{◌≡◌, ◌⊎◌, ℕ, true, List, ◌++◌, Contains, Result, Ok, Err}
use Rattle.rvc_base.specs.declared.refusal.Refusal.{Refusal}
use Rattle.rvc_io.specs.Channels.{Channels, WritesOnlyAt}
use Rattle.rvc_io.specs.Count.{HasRisen}
use Rattle.rvc_io.specs.Feeds.{Inputs}
use Rattle.channel_writer.specs.Held.{AppendsFront}
use Rattle.rvc_words.specs.Words.{PortText}
use Rattle.rvc_words.specs.declared.job.Job.{Job}
use Rattle.fnl_flatten.specs.declared.flat.Flat.{Flat}
use Rattle.cmd_run_network.specs.Growth.{GrowTooFar, IsGrownTooMuch}
use Rattle.net_model.specs.declared.wiring.Link.{Link}
use Rattle.round_runner.specs.declared.outcome.RunEnd.{RunEnd}
use Rattle.round_runner.specs.declared.outcome.RunEnd.TheVariants as end
use Rattle.cmd_ports.specs.Matching.{AreMatched, IsWrongWord}
use Rattle.cmd_ports.specs.Opening.{ChannelFails, ChannelsAreOpened, FeedFails, FeedsAreOpened, Opening, channels_of, feeds_of}
use Rattle.cmd_run_network.specs.declared.outcome.JobFault.{JobFault}
use Rattle.cmd_run_network.specs.declared.outcome.JobFault.TheVariants.{Refused, Memory, ReadFault, WriteFault}
use Rattle.cmd_run_network.specs.declared.outcome.Outcome.{Outcome}
use Rattle.cmd_run_network.specs.Files.{IsChannelOf, IsFeedOf}
use Rattle.cmd_run_network.specs.Leaving.{LeavesRun, Setting, WasBroken, ending_of}
use Rattle.cmd_run_network.specs.Network.{in_names, out_names, words_of}

-- Why a job is refused: one of its port words is wrong; or each names a port of its own, and the links may grow too far.
pub data IsRefused (flat : Flat) (job : Job) (r : Refusal) : Type 0 where
  by_word : IsWrongWord (in_names flat ++ out_names flat) (words_of job) r → IsRefused flat job r
  by_growth : AreMatched (in_names flat ++ out_names flat) (words_of job)
      → GrowTooFar flat.links.items job.grow → IsGrownTooMuch r → IsRefused flat job r

-- It isn't: each port word names a port of its own, and the links don't grow too far.
pub record IsPermitted (flat : Flat) (job : Job) : Type 0 where
  pub matched : AreMatched (in_names flat ++ out_names flat) (words_of job)
  pub fits : GrowTooFar flat.links.items job.grow → ⊥

-- this holds of the refusal, if it is refused; of the feed, and of the channel, that kept the rounds from going
abbrev pub OnRefused : {A : Type 0} → Result A JobFault → (Refusal → Type 0) → Type 0
OnRefused (Ok a) P = Unit {0}
OnRefused (Err (Refused refusal)) P = P refusal
OnRefused (Err Memory) P = Unit {0}
OnRefused (Err (ReadFault feed)) P = Unit {0}
OnRefused (Err (WriteFault channel)) P = Unit {0}

abbrev pub OnUnread : {A : Type 0} → Result A JobFault → (ℕ → Type 0) → Type 0
OnUnread (Ok a) P = Unit {0}
OnUnread (Err (Refused refusal)) P = Unit {0}
OnUnread (Err Memory) P = Unit {0}
OnUnread (Err (ReadFault feed)) P = P feed
OnUnread (Err (WriteFault channel)) P = Unit {0}

abbrev pub OnUnwritten : {A : Type 0} → Result A JobFault → (ℕ → Type 0) → Type 0
OnUnwritten (Ok a) P = Unit {0}
OnUnwritten (Err (Refused refusal)) P = Unit {0}
OnUnwritten (Err Memory) P = Unit {0}
OnUnwritten (Err (ReadFault feed)) P = Unit {0}
OnUnwritten (Err (WriteFault channel)) P = P channel

-- this holds if it is neither refused nor lacks memory, and so something is opened; and if it is one of these
abbrev pub IfStarted : {A : Type 0} → Result A JobFault → Type 0 → Type 0
IfStarted (Ok a) P = P
IfStarted (Err (Refused refusal)) P = Unit {0}
IfStarted (Err Memory) P = Unit {0}
IfStarted (Err (ReadFault feed)) P = P
IfStarted (Err (WriteFault channel)) P = P

abbrev pub IfUnstarted : {A : Type 0} → Result A JobFault → Type 0 → Type 0
IfUnstarted (Ok a) P = Unit {0}
IfUnstarted (Err (Refused refusal)) P = P
IfUnstarted (Err Memory) P = P
IfUnstarted (Err (ReadFault feed)) P = Unit {0}
IfUnstarted (Err (WriteFault channel)) P = Unit {0}

-- it is either done or refused or lacks memory
abbrev pub NeverOpens : {A : Type 0} → Result A JobFault → Type 0
NeverOpens (Ok a) = Unit {0}
NeverOpens (Err (Refused refusal)) = Unit {0}
NeverOpens (Err Memory) = Unit {0}
NeverOpens (Err (ReadFault feed)) = ⊥
NeverOpens (Err (WriteFault channel)) = ⊥

-- What a job leaves on its channels and its feeds, by its answer. If a channel kept the rounds from going, each has a prefix of what
-- lines give, as after one that couldn't be written later.
abbrev pub LeavesJob : {X : Type 0} → Setting X → Result Outcome JobFault → Inputs → Channels → Type 0
LeavesJob run (Ok outcome) feeds channels =
    LeavesRun run (ending_of outcome.end) outcome.counts feeds channels
LeavesJob run (Err (Refused refusal)) feeds channels = Unit {0}
LeavesJob run (Err Memory) feeds channels = Unit {0}
LeavesJob run (Err (ReadFault feed)) feeds channels = Unit {0}
LeavesJob run (Err (WriteFault channel)) feeds channels = WasBroken run channels

-- All channels were opened, and then what stands before the first event couldn't be written whole to the trace's, which got
-- a prefix of it.
pub record HeadFails (openings : List Opening) (head : List ℕ) (channel : ℕ) (old new : Channels) :
    Type 0 where
  pub channel_is : channel ≡ 1
  pub between : Channels
  pub are_opened : ChannelsAreOpened openings old between
  pub front : AppendsFront 1 between new head
  pub only : WritesOnlyAt 1 between new
  pub counted : HasRisen between.faults new.faults

-- All feeds of inputs that have a file are open, the trace's channel, and all channels of outputs that have one.
pub record AreAllOpen (links : List Link) (ins outs : List (List ℕ)) (words : List PortText)
    (trace : List ℕ) (feeds : Inputs) (channels : Channels) : Type 0 where
  pub feeds_are : (o : Opening) → Contains (feeds_of links ins words) o
      → feeds.is_open o.number ≡ true
  pub channels_are : (o : Opening) → Contains (channels_of trace outs words) o
      → channels.is_open o.number ≡ true

-- a feed couldn't be opened
abbrev pub IsUnread : List Link → (ins : List (List ℕ)) → List PortText → Inputs → Inputs
    → (feed : ℕ) → Type 0
IsUnread links ins words old new feed = FeedFails (feeds_of links ins words) feed old new

module _ (links : List Link) (ins outs : List (List ℕ)) (words : List PortText) where
  -- all feeds were opened, and then a channel couldn't be, or this head of the trace couldn't be written
  pub record IsUnwritten (trace head : List ℕ) (feeds_old feeds_new : Inputs) (old new : Channels)
      (channel : ℕ) : Type 0 where
    pub feeds : FeedsAreOpened (feeds_of links ins words) feeds_old feeds_new
    pub fails : ChannelFails (channels_of trace outs words) channel old new
        ⊎ HeadFails (channels_of trace outs words) head channel old new

  -- A run ends by a feed or a channel only if the count of faults rose, and only by one that it opened.
  abbrev pub EndIsCaused : Inputs → Inputs → Channels → Channels → RunEnd → Type 0
  EndIsCaused feeds_old feeds_new old new (end.ReadFault feed) =
      HasRisen feeds_old.faults feeds_new.faults × IsFeedOf links ins words feed
  EndIsCaused feeds_old feeds_new old new (end.WriteFault channel) =
      HasRisen old.faults new.faults × IsChannelOf outs words channel
  EndIsCaused feeds_old feeds_new old new end.Quiet = Unit {0}
  EndIsCaused feeds_old feeds_new old new (end.Trapped inst action trap) = Unit {0}
  EndIsCaused feeds_old feeds_new old new (end.Stalled inst action link) = Unit {0}
  EndIsCaused feeds_old feeds_new old new end.Budget = Unit {0}
