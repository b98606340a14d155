-- A command that replays a trace over the network of a library: which network that is, and by what the trace is judged.
-- Trusted: part of what a promise means.
use Rattle.std.specs.Prelude.{◌≡◌, ◌⊎◌, ℕ, ◌≤◌, List, Some, string_bytes}
use Rattle.rvc_base.specs.declared.refusal.Refusal.{Refusal}
use Rattle.rvc_io.specs.Feeds.{Inputs}
use Rattle.rvc_words.specs.Words.{PortText}
use Rattle.cal_model.specs.Selection.{State}
use Rattle.net_model.specs.declared.wiring.Link.{Link}
use Rattle.net_model.specs.Network.{Network}
use Rattle.net_model.specs.State.{start_of}
use Rattle.cal_files.specs.Loading.{Counts, Library}
use Rattle.cmd_network.specs.Conforming.{ConformsWith, input_names}
use Rattle.fnl_source.specs.Files.{Asked}
use Rattle.fnl_source.specs.Library.{IsLibraryNetwork}
use Rattle.cmd_run_network.specs.Growth.{GrowTooFar, IsGrownTooMuch}
use Rattle.cmd_run_network.specs.Files.{IsFeedOf}
use Rattle.trace_replay.specs.Judging.{Trial}
use Rattle.cmd_network.specs.Commands.{AreGiven, Command, IsOfCommand, RefusesJob, port_names, words_of}

-- ---- its network

-- Files were read that mean this network, each port word names an input of its own, and its links may grow as far as the
-- job asks: over this network the trace is to be replayed.
pub record IsToReplay (cmd : Command) (net : Network State) : Type 0 where
  pub is_of : IsOfCommand input_names cmd net
  pub little : GrowTooFar net.links cmd.job.grow → ⊥

-- All files that the top needs are there and break no rule, and mean this network; each port word names an input of its own;
-- and its links may grow so far.
pub record ConformsToReplay (library : Library) (top : Asked) (words : List PortText) (grow : ℕ)
    (net : Network State) : Type 0 where
  pub conforms : ConformsWith input_names library top words net
  pub little : GrowTooFar net.links grow → ⊥

-- What refuses a job, if the library tells of each name: its files or a port word that names no input of its own; or the files
-- mean a network whose links may not grow so far.
pub data RefusesReplay (library : Library) (top : Asked) (words : List PortText) (grow : ℕ)
    (misses : Counts) (names : List (List ℕ)) (r : Refusal) : Type 0 where
  in_job : RefusesJob input_names library top words misses names r
      → RefusesReplay library top words grow misses names r
  in_growth : (net : Network State) → IsLibraryNetwork library top net
      → GrowTooFar net.links grow → IsGrownTooMuch r
      → RefusesReplay library top words grow misses names r

-- ---- its trace

-- this is what feeds tell under the name of the trace
abbrev pub IsTraceText : Command → List ℕ → Type 0
IsTraceText cmd text = cmd.feeds.under (string_bytes cmd.job.trace) ≡ Some text

-- What the trace is judged by: the network, how far its links may grow at a stall, and the start of a run over these inputs.
abbrev pub trial_over : Command → Network State → (inputs : List (List ℕ)) → Trial State
trial_over cmd net inputs =
    record { net = net; grow = cmd.job.grow; start = start_of net inputs }

-- This holds whatever bytes the inputs have and whatever the trace is, by what feeds tell.
abbrev pub WhateverIsTold : Command → Network State
    → (Trial State → (inputs : List (List ℕ)) → (text : List ℕ) → Type 0) → Type 0
WhateverIsTold cmd net P = (inputs : List (List ℕ)) (text : List ℕ) → AreGiven cmd net inputs
    → IsTraceText cmd text → P (trial_over cmd net inputs) inputs text

-- ---- its feeds

-- the feed of the trace, or that of a link from an input that has a file
abbrev pub IsReplayFeed : List Link → (ins : List (List ℕ)) → List PortText → (feed : ℕ) → Type 0
IsReplayFeed links ins words feed = (feed ≡ 0) ⊎ IsFeedOf links ins words feed

-- no feed but the trace's and those of inputs that have files was opened or closed
pub record OpensForReplay (links : List Link) (ins : List (List ℕ)) (words : List PortText)
    (old new : Inputs) : Type 0 where
  pub same_names : (name : List ℕ) → new.under name ≡ old.under name
  pub same_open : (feed : ℕ) → (IsReplayFeed links ins words feed → ⊥)
      → new.is_open feed ≡ old.is_open feed
  pub faults_stay : old.faults ≤ new.faults

-- .. of a command
abbrev pub OpensFeeds : Command → Network State → Type 0
OpensFeeds cmd net =
    OpensForReplay net.links (port_names net.ins) (words_of cmd) cmd.feeds cmd.feeds_after
