-- What is made for a job before anything is opened, and how far it has come then.
-- Not trusted: no promise is read with it.
use Rattle.std.specs.Prelude.{◌≡◌, ◌⊎◌, ℕ, List, length, Result, Ok, Err}
use Rattle.rvc_base.specs.declared.round_kind.RoundKind.{RoundKind}
use Rattle.rvc_io.specs.Channels.{Appends, Channels, WritesOnlyAt}
use Rattle.rvc_io.specs.Count.{HasRisen}
use Rattle.rvc_io.specs.Feeds.{Inputs}
use Rattle.channel_writer.specs.Held.{AppendsFront}
use Rattle.rvc_words.specs.Words.{PortText}
use Rattle.net_model.specs.declared.wiring.Counts.{Counts}
use Rattle.net_model.specs.declared.wiring.Wiring.{Wiring}
use Rattle.net_model.specs.Cell.{Cell}
use Rattle.fnl_flatten.specs.declared.flat.Flat.{Flat}
use Rattle.round_runner.specs.declared.outcome.Plan.{Plan}
use Rattle.round_runner.specs.Running.{Running}
use Rattle.network_runner.specs.Asking.{Begins}
use Rattle.network_runner.specs.Making.{CountNothing}
use Rattle.cmd_ports.specs.Matching.{names_of}
use Rattle.cmd_ports.specs.Opening.{ChannelFails, ChannelsAreOpened, FeedFails, FeedsAreOpened, channels_of, feeds_of}
use Rattle.cmd_run_network.specs.declared.outcome.JobFault.{JobFault}
use Rattle.cmd_run_network.specs.declared.outcome.JobFault.TheVariants.{Refused, Memory, ReadFault, WriteFault}
use Rattle.cmd_run_network.specs.Network.{IsWiringBy, head_of}

-- Numbers.

-- these numbers are copied, as far as there are places for them
pub record TakesOver (from into new : Counts) : Type 0 where
  pub firings : new.firings ≡ from.firings
  pub rounds : new.rounds ≡ from.rounds
  pub arrived : length from.arrived.items ≡ length into.arrived.items
      → new.arrived.items ≡ from.arrived.items
  pub rests : length from.rests.items ≡ length into.rests.items
      → new.rests.items ≡ from.rests.items
  pub sent : length from.sent.items ≡ length into.sent.items → new.sent.items ≡ from.sent.items

-- All of it.

pub record IsPrepared {X : Type 0} (cells : List (Cell X)) (flat : Flat) (words : List PortText)
    (plan : Plan) (kind : RoundKind) (run : Running (Cell X)) (head : List ℕ)
    (counts : Counts) : Type 0 where
  pub wiring : Wiring
  pub is_wiring : IsWiringBy flat words wiring
  pub begins : Begins cells wiring plan kind run
  pub head_is : head ≡ head_of flat (length cells) plan.grow
  pub places : CountNothing (length flat.links.items) (length flat.outs.items) counts

-- The openings.

-- what stands before the first event was written behind what the opened channels held; or a prefix of it was
pub record WritesHead (trace : List ℕ) (outs : List (List ℕ)) (words : List PortText)
    (head : List ℕ) (old new : Channels) : Type 0 where
  pub between : Channels
  pub are_opened : ChannelsAreOpened (channels_of trace outs words) old between
  pub appends : Appends 1 between new head
  pub only : WritesOnlyAt 1 between new

pub record BreaksHead (trace : List ℕ) (outs : List (List ℕ)) (words : List PortText)
    (head : List ℕ) (old new : Channels) (channel : ℕ) : Type 0 where
  pub channel_is : channel ≡ 1
  pub between : Channels
  pub are_opened : ChannelsAreOpened (channels_of trace outs words) old between
  pub front : AppendsFront 1 between new head
  pub only : WritesOnlyAt 1 between new
  pub counted : HasRisen between.faults new.faults

module _ {S T : Type 0} (feeds : S → Inputs) (channels : T → Channels) (flat : Flat)
    (words : List PortText) (trace : List ℕ) (feeds_old feeds_new : S) (old new : T) where
  abbrev pub AreFeedsOpened : Type 0
  AreFeedsOpened = FeedsAreOpened (feeds_of flat.links.items (names_of flat.ins.items) words)
      (feeds feeds_old) (feeds feeds_new)

  abbrev pub IsFeedUnopened : ℕ → Type 0
  IsFeedUnopened feed = FeedFails (feeds_of flat.links.items (names_of flat.ins.items) words) feed
      (feeds feeds_old) (feeds feeds_new) × (new ≡ old)

  -- the feeds were opened, and then the channels; or one of them couldn't be
  abbrev pub Opens : Result Unit JobFault → Type 0
  Opens (Ok done) = AreFeedsOpened
      × ChannelsAreOpened (channels_of trace (names_of flat.outs.items) words) (channels old) (channels new)
  Opens (Err (ReadFault feed)) = IsFeedUnopened feed
  Opens (Err (WriteFault channel)) = AreFeedsOpened
      × ChannelFails (channels_of trace (names_of flat.outs.items) words) channel (channels old) (channels new)
  Opens (Err (Refused refusal)) = ⊥
  Opens (Err Memory) = ⊥

  -- .. and what stands before the first event was written, or couldn't be
  abbrev pub Starts : List ℕ → Result Unit JobFault → Type 0
  Starts head (Ok done) = AreFeedsOpened
      × WritesHead trace (names_of flat.outs.items) words head (channels old) (channels new)
  Starts head (Err (ReadFault feed)) = IsFeedUnopened feed
  Starts head (Err (WriteFault channel)) = AreFeedsOpened
      × (ChannelFails (channels_of trace (names_of flat.outs.items) words) channel (channels old) (channels new)
      ⊎ BreaksHead trace (names_of flat.outs.items) words head (channels old) (channels new) channel)
  Starts head (Err (Refused refusal)) = ⊥
  Starts head (Err Memory) = ⊥
