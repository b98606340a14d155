-- The files of a job: those of the network's inputs, of the trace, and of the network's outputs.
-- Trusted: part of what a promise means.
use Rattle.std.specs.Prelude.{◌≡◌, ◌⊎◌, ℕ, ◌+◌, ◌≤◌, true, List, [], slice_get, slice_index_or, Option, None, Some}
use Rattle.rvc_io.specs.Channels.{Channels}
use Rattle.rvc_io.specs.Feeds.{Inputs}
use Rattle.rvc_words.specs.Words.{PortText}
use Rattle.net_model.specs.declared.wiring.End.{End}
use Rattle.net_model.specs.declared.wiring.End.TheVariants.{Leaf as AtLeaf, Net as AtNet}
use Rattle.net_model.specs.declared.wiring.Link.{Link}
use Rattle.round_runner.specs.Running.{feed_of}
use Rattle.cmd_ports.specs.Opening.{file_at, file_from}

-- Inputs.

-- the bytes under the file that a word names; there are none if no word names one
abbrev pub IsUnder : Option (List ℕ) → (under : List ℕ → Option (List ℕ)) → List ℕ → Type 0
IsUnder (Some file) under bytes = under file ≡ Some bytes
IsUnder None under bytes = bytes ≡ []

abbrev pub ComesUnder : (inputs : List (List ℕ)) → (ins : List (List ℕ)) → List PortText → End
    → (under : List ℕ → Option (List ℕ)) → Type 0
ComesUnder inputs ins words (AtLeaf inst port) under = Unit {0}
ComesUnder inputs ins words (AtNet port) under =
    IsUnder (file_at (slice_get ins port) words) under (slice_index_or inputs port [])

-- The inputs of these names, as far as links begin there, have these bytes: those that are told under their files.
abbrev pub AreInputs : (inputs : List (List ℕ)) → List Link → (ins : List (List ℕ))
    → List PortText → Inputs → Type 0
AreInputs inputs links ins words feeds = (l : ℕ) (link : Link) → slice_get links l ≡ Some link
    → ComesUnder inputs ins words link.from feeds.under

-- the feed of a link from an input that has a file
pub record IsFeedOf (links : List Link) (ins : List (List ℕ)) (words : List PortText) (feed : ℕ) :
    Type 0 where
  pub l : ℕ
  pub link : Link
  pub is_there : slice_get links l ≡ Some link
  pub file : List ℕ
  pub has_file : file_from link.from ins words ≡ Some file
  pub feed_is : feed ≡ feed_of links l

-- Outputs.

-- the file of output p, if a word names it
abbrev pub output_file : (outs : List (List ℕ)) → List PortText → ℕ → Option (List ℕ)
output_file outs words p = file_at (slice_get outs p) words

-- the channel of output p, if it has a file
pub record IsOutputOf (outs : List (List ℕ)) (words : List PortText) (channel : ℕ) : Type 0 where
  pub p : ℕ
  pub file : List ℕ
  pub has_file : output_file outs words p ≡ Some file
  pub channel_is : channel ≡ 2 + p

-- the channel of the trace, or of an output that has a file
abbrev pub IsChannelOf : (outs : List (List ℕ)) → List PortText → (channel : ℕ) → Type 0
IsChannelOf outs words channel = (channel ≡ 1) ⊎ IsOutputOf outs words channel

-- What stays.

-- no feed but these was opened or closed
pub record OpensOnly (links : List Link) (ins : List (List ℕ)) (words : List PortText) (old new : Inputs) : Type 0 where
  pub same_names : (name : List ℕ) → new.under name ≡ old.under name
  pub same_open : (feed : ℕ) → (IsFeedOf links ins words feed → ⊥)
      → new.is_open feed ≡ old.is_open feed
  pub faults_stay : old.faults ≤ new.faults

-- no channel but these was opened, closed or written
pub record WritesOnly (outs : List (List ℕ)) (words : List PortText) (old new : Channels) :
    Type 0 where
  pub same_telling : new.tells ≡ old.tells
  pub same_open : (channel : ℕ) → (IsChannelOf outs words channel → ⊥)
      → new.is_open channel ≡ old.is_open channel
  pub same_held : old.tells ≡ true → (channel : ℕ) → (IsChannelOf outs words channel → ⊥)
      → new.held channel ≡ old.held channel
  pub faults_stay : old.faults ≤ new.faults

-- this channel wasn't opened, closed or written
pub record Keeps (channel : ℕ) (old new : Channels) : Type 0 where
  pub same_open : new.is_open channel ≡ old.is_open channel
  pub same_held : old.tells ≡ true → new.held channel ≡ old.held channel
