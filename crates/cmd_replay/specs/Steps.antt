-- The steps of a replay, from a network to an answer.
-- Not trusted: no promise is read with it.
use Rattle.std.specs.Prelude.{◌≡◌, ◌⊎◌, ℕ, List, [], length, map, string_bytes, Some}
use Rattle.std.specs.declared.result.Result.{Result}
use Rattle.std.specs.declared.result.Result.TheVariants.{Ok, Err}
use Rattle.rvc_base.specs.declared.refusal.Refusal.{Refusal}
use Rattle.rvc_io.specs.Channels.{Channels}
use Rattle.rvc_io.specs.Count.{HasRisen}
use Rattle.rvc_io.specs.Feeds.{Inputs}
use Rattle.rvc_words.specs.Words.{port_text}
use Rattle.rvc_words.specs.declared.job.Job.{Job}
use Rattle.cal_model.specs.Actor.{Actor}
use Rattle.cal_model.specs.Selection.{State as ActorState}
use Rattle.fnl_flatten.specs.declared.flat.Flat.{Flat}
use Rattle.net_model.specs.declared.wiring.Wiring.{Wiring}
use Rattle.net_model.specs.Cell.{Cell}
use Rattle.net_model.specs.Network.{Network}
use Rattle.net_model.specs.Ready.{given_state}
use Rattle.net_model.specs.State.{start_of}
use Rattle.cal_files.specs.Views.{file_names}
use Rattle.cal_files.specs.declared.names.Names.{Names}
use Rattle.cmd_ports.specs.Matching.{AreMatched, IsWrongWord, names_of}
use Rattle.cmd_ports.specs.Opening.{FeedFails, HoldsBefore, Opening, replay_feeds}
use Rattle.cmd_run_network.specs.Growth.{GrowTooFar, IsGrownTooMuch}
use Rattle.cmd_run_network.specs.Files.{AreInputs}
use Rattle.cmd_run_network.specs.Network.{IsWiringBy, in_names, words_of}
use Rattle.net_cells.specs.Sources.{IsActorNetwork}
use Rattle.trace_replay.specs.Judging.{Trial}
use Rattle.trace_replay.specs.Replaying.{IsRefused, IsReplayed}
use Rattle.trace_replay.specs.declared.replayed.Replayed.{Replayed}
use Rattle.trace_replay.specs.declared.why.ReplayFault.{ReplayFault}
use Rattle.trace_replay.specs.declared.why.ReplayFault.TheVariants as judged
use Rattle.rvc_engine.specs.Built.{HasImage}
use Rattle.rvc_engine.specs.declared.image.Image.{Image}
use Rattle.cmd_report.specs.About.{About}
use Rattle.cmd_report.specs.Report.{report, run_lines}
use Rattle.cmd_report.specs.declared.status.ReadAt.TheVariants.{Feed}
use Rattle.cmd_report.specs.declared.status.Status.{Status}
use Rattle.cmd_report.specs.declared.status.Status.TheVariants as status
use Rattle.cmd_network.specs.Commands.{count_none, port_names}
use Rattle.cmd_network.specs.Steps.{IsPut}
use Rattle.cmd_replay.specs.Naming.{names_of_instances}
use Rattle.cmd_replay.specs.Replays.{IsReplayFeed, OpensForReplay}
use Rattle.cmd_replay.specs.declared.outcome.NotReplayed.{NotReplayed}
use Rattle.cmd_replay.specs.declared.outcome.NotReplayed.TheVariants as stop

-- ---- before the feeds are opened

-- the wiring of a network and the names of its instances
pub record IsPrepared (flat : Flat) (job : Job) (wiring : Wiring) (names : List (List ℕ)) : Type 0 where
  pub wiring_is : IsWiringBy flat (words_of job) wiring
  pub names_are : names
      ≡ names_of_instances (map string_bytes flat.paths.items) (map string_bytes flat.classes.items)

-- each port word names an input of its own, and the links may grow as far as the job asks
pub record IsPermitted (flat : Flat) (job : Job) : Type 0 where
  pub matched : AreMatched (in_names flat) (words_of job)
  pub little : GrowTooFar flat.links.items job.grow → ⊥

-- a port word names no input, or one that a word before it names; or the words fit, and the links may not grow so far
abbrev pub IsForbidden : Flat → Job → Refusal → Type 0
IsForbidden flat job r = IsWrongWord (in_names flat) (words_of job) r
    ⊎ (AreMatched (in_names flat) (words_of job) × IsGrownTooMuch r × GrowTooFar flat.links.items job.grow)

-- why nothing is opened: the job is forbidden, or memory ran out
abbrev pub IsStopped : Flat → Job → NotReplayed → Type 0
IsStopped flat job (stop.Refused r) = IsForbidden flat job r
IsStopped flat job (stop.Fault judged.Memory) = Unit {0}
IsStopped flat job (stop.Fault (judged.NotRun line why)) = ⊥
IsStopped flat job (stop.Fault (judged.ReadFault feed)) = ⊥

-- ---- what is judged

-- what a trace is judged by over these cells
abbrev pub trial_of : {X : Type 0} → Network X → List (Cell X) → (inputs : List (List ℕ))
    → (grow : ℕ) → Trial X
trial_of net cells inputs grow =
    record { net = net; grow = grow; start = given_state net cells inputs }

-- .. and over their sources
abbrev pub source_trial : Network ActorState → (inputs : List (List ℕ)) → (grow : ℕ)
    → Trial ActorState
source_trial net inputs grow =
    record { net = net; grow = grow; start = start_of net inputs }

-- the trace is that of a run, or of none
abbrev pub Judges : {X : Type 0} → Trial X → (text : List ℕ) → (inputs : List (List ℕ))
    → Result Replayed NotReplayed → Type 0
Judges t text inputs (Ok replayed) = IsReplayed t text inputs replayed
Judges t text inputs (Err (stop.Fault fault)) = IsRefused t text fault
Judges t text inputs (Err (stop.Refused r)) = Unit {0}

-- ---- what is left

module _ (flat : Flat) (job : Job) (old new : Inputs) where
  -- no feed was opened but the trace's and those of inputs that have files
  abbrev pub Opens : Type 0
  Opens = OpensForReplay flat.links.items (in_names flat) (words_of job) old new

  -- a feed couldn't be opened, or couldn't be read
  abbrev pub IsUnread : (feed : ℕ) → Type 0
  IsUnread feed =
      FeedFails (replay_feeds (string_bytes job.trace) flat.links.items (in_names flat) (words_of job)) feed old new
      ⊎ (HasRisen old.faults new.faults
      × IsReplayFeed flat.links.items (in_names flat) (words_of job) feed × Opens)

  -- what is left, by the answer, and why that came
  abbrev pub LeavesFeeds : Result Replayed NotReplayed → Type 0
  LeavesFeeds (Ok replayed) = IsPermitted flat job × Opens
  LeavesFeeds (Err (stop.Refused r)) = IsForbidden flat job r × (new ≡ old)
  LeavesFeeds (Err (stop.Fault judged.Memory)) = Unit {0}
  LeavesFeeds (Err (stop.Fault (judged.NotRun line why))) = IsPermitted flat job × Opens
  LeavesFeeds (Err (stop.Fault (judged.ReadFault feed))) = IsPermitted flat job × IsUnread feed

-- ---- under which names

-- the feeds that a job asks for
abbrev pub openings_of : Flat → Job → List Opening
openings_of flat job =
    replay_feeds (string_bytes job.trace) flat.links.items (in_names flat) (words_of job)

-- by the answer: all were opened; or one couldn't be opened, and those before it were
abbrev pub OpensByName : Flat → Job → (FeedsAre : List Opening → Type 0)
    → Result Replayed NotReplayed → Type 0
OpensByName flat job FeedsAre (Ok replayed) = FeedsAre (openings_of flat job)
OpensByName flat job FeedsAre (Err (stop.Refused r)) = Unit {0}
OpensByName flat job FeedsAre (Err (stop.Fault judged.Memory)) = Unit {0}
OpensByName flat job FeedsAre (Err (stop.Fault (judged.NotRun line why))) =
    FeedsAre (openings_of flat job)
OpensByName flat job FeedsAre (Err (stop.Fault (judged.ReadFault feed))) =
    HoldsBefore (openings_of flat job) feed FeedsAre ⊎ FeedsAre (openings_of flat job)

-- ---- an image

-- an image of sound actors
pub record IsSourceImage (image : Image) : Type 0 where
  pub actors : List Actor
  pub net : Network ActorState
  pub has : HasImage image actors net
  pub is : IsActorNetwork actors net

-- the trace was judged by the sources of an image
pub record ImageJudged (image : Image) (job : Job) (old new : Inputs)
    (FeedsAre : List Opening → Type 0) (came : Result Replayed NotReplayed) : Type 0 where
  pub judges : (actors : List Actor) (net : Network ActorState) (inputs : List (List ℕ)) (text : List ℕ)
      → HasImage image actors net → IsActorNetwork actors net
      → AreInputs inputs net.links (port_names net.ins) (words_of job) old
      → old.under (string_bytes job.trace) ≡ Some text
      → Judges (source_trial net inputs job.grow) text inputs came
  pub leaves : LeavesFeeds image.flat job old new came
  pub by_name : OpensByName image.flat job FeedsAre came

-- ---- the answer

-- the status of what came of it
abbrev pub status_of_fault : ReplayFault → Status
status_of_fault (judged.NotRun line why) = status.NotRun line why
status_of_fault (judged.ReadFault feed) = status.ReadFault (Feed feed)
status_of_fault judged.Memory = status.OutOfMemory

abbrev pub status_of : Result Replayed NotReplayed → Status
status_of (Ok replayed) = status.Done
status_of (Err (stop.Refused r)) = status.Refused r
status_of (Err (stop.Fault fault)) = status_of_fault fault

-- what the report speaks of, with an image
abbrev pub about_image : Image → Names → Job → About
about_image image names job = record {
  files = file_names names;
  trace = string_bytes job.trace;
  words = map port_text job.ports.items;
  instances = length image.codes.items;
  links = image.flat.links.items;
  ins = names_of image.flat.ins.items;
  outs = names_of image.flat.outs.items;
}

-- the lines of the verb
abbrev pub lines_of : Image → Names → Job → Result Replayed NotReplayed → List ℕ
lines_of image names job (Ok replayed) =
    run_lines (about_image image names job) (Some (count_none image.uncertified.items)) replayed.counts
lines_of image names job (Err fault) = []

-- the trace was judged, and then the report was put, or wasn't
pub record ImageReplayed (image : Image) (names : Names) (job : Job) (feeds feeds_new : Inputs)
    (old new : Channels) (FeedsAre : List Opening → Type 0) (answer : Status) : Type 0 where
  pub came : Result Replayed NotReplayed
  pub judged : ImageJudged image job feeds feeds_new FeedsAre came
  pub put : IsPut (status_of came)
      (report (lines_of image names job came) (about_image image names job) (status_of came)) old new answer
