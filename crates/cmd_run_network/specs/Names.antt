-- Which feeds and channels a job opened, in which order, and under which names.
-- Trusted: part of what a promise means.
use Rattle.std.specs.Prelude.{◌≡◌, ◌⊎◌, ℕ, Bool, List, Result, Ok, Err}
use Rattle.rvc_io.specs.Channels.{Channels}
use Rattle.rvc_io.specs.Feeds.{Inputs}
use Rattle.rvc_io.specs.Past.{Done}
use Rattle.rvc_words.specs.Words.{PortText}
use Rattle.net_model.specs.declared.wiring.Link.{Link}
use Rattle.cmd_ports.specs.Opening.{AreNoted, HoldsBefore, Opening, channels_of, feeds_of}
use Rattle.cmd_run_network.specs.declared.outcome.JobFault.{JobFault}
use Rattle.cmd_run_network.specs.declared.outcome.JobFault.TheVariants.{Refused, Memory, ReadFault, WriteFault}

-- These were opened, the first of them first, each under the name of its file, and no other: at some moment the history had
-- just these behind what it had in the old object, and what was closed at that moment is closed in the new one. Nothing is
-- ever closed again, so nothing was opened since.
pub record AreOpened {S : Type 0} (is_open : S → ℕ → Bool) (past : S → List Done) (old new : S) (openings : List Opening) : Type 0 where
  pub moment : S
  pub noted : AreNoted openings (past old) (past moment)
  pub none_since : (n : ℕ) → is_open new n ≡ is_open moment n

-- the same of feeds, and of channels, by what is known of them
abbrev pub FeedsOpened : {S : Type 0} → (S → Inputs) → (past : S → List Done) → (old new : S) → List Opening → Type 0
FeedsOpened feeds past old new openings = AreOpened (λ s. (feeds s).is_open) past old new openings

abbrev pub ChannelsOpened : {S : Type 0} → (S → Channels) → (past : S → List Done) → (old new : S) → List Opening → Type 0
ChannelsOpened channels past old new openings =
    AreOpened (λ s. (channels s).is_open) past old new openings

-- What a job opened, by its answer, if these say which feeds and which channels were. All feeds of inputs that have a file, and
-- then the channels: that of the trace, and those of outputs that have a file. If one of them couldn't be opened, those before it.
module _ (links : List Link) (ins outs : List (List ℕ)) (words : List PortText) (trace : List ℕ)
    (FeedsAre ChannelsAre : List Opening → Type 0) where
  abbrev pub OpensByName : {A : Type 0} → Result A JobFault → Type 0
  OpensByName (Ok a) = FeedsAre (feeds_of links ins words)
      × ChannelsAre (channels_of trace outs words)
  OpensByName (Err (Refused refusal)) = Unit {0}
  OpensByName (Err Memory) = Unit {0}
  OpensByName (Err (ReadFault feed)) = HoldsBefore (feeds_of links ins words) feed FeedsAre
  OpensByName (Err (WriteFault channel)) = FeedsAre (feeds_of links ins words)
      × (HoldsBefore (channels_of trace outs words) channel ChannelsAre
      ⊎ ChannelsAre (channels_of trace outs words))
